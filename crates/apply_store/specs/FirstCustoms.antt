-- What a refusal of custom aggregates says: the first of a model without a typed reading.
use Rattle.std.specs.Prelude.{◌≡◌, ℕ, List, find, Some, ⊤}
use Rattle.edm_values.specs.Names.{Path}
use Rattle.apply_ast.specs.Trees.{Expr}
use Rattle.custom_readings.specs.Readings.{AreOfTexts, HasNoReading}
use Rattle.edm_model.specs.Models.{Model, Part}
use Rattle.edm_model.specs.Models as seen
use Rattle.edm_model.specs.LookUps.{IsType}
use Rattle.edm_model.specs.IdLists.{custom_list}
use Rattle.edm_model.specs.declared.parts.Custom.{Custom}
use Rattle.context_typing.specs.Answers.{custom_of}
use Rattle.context_typing.specs.Readings.{same_part}
use Rattle.context_typing.specs.declared.definitions.CustomRefused.{CustomRefused}
use Rattle.context_typing.specs.declared.definitions.CustomRefused.TheVariants as refused
use Rattle.apply_store.specs.CustomReadings.{IsFirstUntyped}
use Rattle.apply_store.specs.declared.judging.CustomFault.{CustomFault}
use Rattle.apply_store.specs.declared.judging.CustomFault.TheVariants as fault

-- the fact holds of the custom aggregate that a fault names, if it names one
abbrev pub IfNames : CustomFault → (Custom → Type 0) → Type 0
IfNames fault.Memory P = ⊤
IfNames (fault.Unread u) P = P u.now
IfNames (fault.Untyped u) P = P u.now

-- a custom aggregate with its type, as the model has it
abbrev pub owned : Custom → ℕ × seen.Custom
owned u = (u.owner, custom_of u)

-- the texts of a definition have a reading
abbrev pub HasReading : ℕ × seen.Custom → Type 0
HasReading v = (e : Expr) × (ps : List Path) × AreOfTexts v.1.of v.1.per e ps

-- a fault says why the custom aggregate that it names has no typed reading
abbrev pub SaysWhy : CustomFault → Type 0
SaysWhy fault.Memory = ⊤
SaysWhy (fault.Unread u) = HasNoReading u.now
SaysWhy (fault.Untyped u) = HasReading (owned u.now)

-- the custom aggregate of this id is the first of the model that has no typed reading, and it has one without a typing
pub record IsFirstId (m : Model) (id : Part) : Type 0 where
  pub custom : Custom
  pub found : find (λ u. same_part u.id id) (custom_list m) ≡ Some custom
  pub there : IsType m custom.owner
  pub first : IsFirstUntyped m (owned custom)
  pub read : HasReading (owned custom)

-- the same of the custom aggregate that a refusal names, if it names one
abbrev pub NamesFirst : Model → CustomRefused → Type 0
NamesFirst m (refused.At id) = IsFirstId m id
NamesFirst m refused.Memory = ⊤
