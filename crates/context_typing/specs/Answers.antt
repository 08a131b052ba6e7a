-- What the calls of typing answer.
use Rattle.std.specs.Prelude.{◌≡◌, ℕ, ◌&&◌, Bool, List, Some, None, slice_get, is_some, Result, Ok, Err, ⊤}
use Rattle.std.specs.List.{list_all}
use Rattle.edm_values.specs.Lists.{are_distinct}
use Rattle.edm_values.specs.Names.{Path}
use Rattle.edm_model.specs.Models.{Model, Part}
use Rattle.edm_model.specs.Models as seen
use Rattle.edm_model.specs.LookUps.{IsType, custom_named, customs_of_type, property_on}
use Rattle.edm_model.specs.declared.parts.Custom.{Custom}
use Rattle.apply_ast.specs.Views.{expr_of, pipe_of}
use Rattle.context_typing.specs.Paths.{same_path}
use Rattle.context_typing.specs.Typing.{Customs, Reading, Types, shape_of_set}
use Rattle.context_typing.specs.Readings.{IsTypedCustom, read_kind}
use Rattle.context_typing.specs.declared.customs.ReadCustom.{ReadCustom}
use Rattle.context_typing.specs.declared.customs.TypedCustom.{TypedCustom}
use Rattle.context_typing.specs.declared.typed.Typed.{Typed}
use Rattle.context_typing.specs.declared.typed.TypeRefused.{TypeRefused}
use Rattle.context_typing.specs.declared.typed.TypeRefused.TheVariants as refused
use Rattle.context_typing.specs.declared.definitions.CustomRefused.{CustomRefused}
use Rattle.context_typing.specs.declared.definitions.CustomRefused.TheVariants as custom

-- the pipeline takes the set's own shape to the shape
abbrev pub IsTyping : Model → Customs → Typed → Type 0
IsTyping m c t = Types m c (shape_of_set m t.set) (pipe_of t.pipe) t.shape

-- the fact holds of the place that is named, if one is
abbrev pub IfAt : Result Typed TypeRefused → (ℕ → Type 0) → Type 0
IfAt (Err (refused.At k)) P = P k
IfAt _ P = ⊤

-- the place k, if 32 bits hold it
abbrev pub IsPlace : ℕ → TypeRefused → Type 0
IsPlace k (refused.At j) = j ≡ k
IsPlace k refused.Memory = ⊤

-- each path leads to a property of the type, and no two are one
abbrev pub per_typed : Model → ℕ → List Path → Bool
per_typed m t ps = list_all (λ p. is_some (property_on m t p)) ps && are_distinct same_path ps

-- a custom aggregate of the program's list, as the model has it
abbrev pub custom_of : Custom → seen.Custom
custom_of u = record { name = u.name; of = u.of; method = u.method; per = u.per; outer = u.outer }

-- the reading of the definition of a custom aggregate
abbrev pub reading_for : Custom → ReadCustom → Reading
reading_for u r = record { owner = u.owner; name = u.name; of = expr_of r.of; per = r.per }

-- a custom aggregate stands in the model where its id says, and is found there by its name
pub record IsEntry (m : Model) (u : Custom) : Type 0 where
  pub there : IsType m u.owner
  pub own : u.id.of ≡ u.owner
  pub at : slice_get (customs_of_type m u.owner) u.id.at ≡ Some (custom_of u)
  pub named : custom_named m u.owner u.name ≡ Some (u.id.at, custom_of u)

-- the answer for a reading: its typing, or that it has none
abbrev pub AnswersCustom : Model → ReadCustom → Result TypedCustom CustomRefused → Type 0
AnswersCustom m r (Ok x) = (x.read ≡ r) × IsTypedCustom m x × (read_kind m r ≡ Some x.kind)
AnswersCustom m r (Err (custom.At id)) = (id ≡ r.id) × (read_kind m r ≡ None)
AnswersCustom m r (Err custom.Memory) = ⊤

-- the fact holds of the custom aggregate that is named, if one is
abbrev pub IfUntyped : {X : Type 0} → Result X CustomRefused → (Part → Type 0) → Type 0
IfUntyped (Err (custom.At id)) P = P id
IfUntyped _ P = ⊤
