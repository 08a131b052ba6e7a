-- The readings of a model's custom aggregates (Data Aggregation 4.0, section 5.2).
use Rattle.std.specs.Prelude.{◌≡◌, ℕ, take, slice_get, Some, is_some, IsTrue}
use Rattle.std.specs.List.{AllZip}
use Rattle.edm_model.specs.Models.{Custom, Model}
use Rattle.edm_model.specs.LookUps.{all_customs}
use Rattle.context_typing.specs.Typing.{Reading, Customs, custom_kind}
use Rattle.custom_readings.specs.Readings.{AreOfTexts}

-- a reading of the texts of a custom aggregate's definition
abbrev pub IsReading : Custom → Reading → Type 0
IsReading u r = (u.name ≡ r.name) × AreOfTexts u.of u.per r.of r.per

-- the reading of a custom aggregate's definition, which has a typing on the entity type (Data Aggregation 4.0, section 5.2)
abbrev pub IsTypedReading : Model → ℕ × Custom → Reading → Type 0
IsTypedReading m u r = (r.owner ≡ u.0) × IsReading u.1 r × IsTrue (is_some (custom_kind m u.1 r))

-- each custom aggregate has one
abbrev pub AreCustoms : Model → Customs → Type 0
AreCustoms m c = AllZip (IsTypedReading m) (all_customs m) c

-- a custom aggregate, with its type, is the first of the model, by type name and then by name, that has none
pub record IsFirstUntyped (m : Model) (u : ℕ × Custom) : Type 0 where
  pub place : ℕ
  pub before : Customs
  pub typed : AllZip (IsTypedReading m) (take place (all_customs m)) before
  pub stands : slice_get (all_customs m) place ≡ Some u
  pub untyped : (r : Reading) → ¬ IsTypedReading m u r
