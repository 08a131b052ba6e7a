-- A reason is told only of what is refused.
use Rattle.std.proofs.Common.{◌≡◌, ◌≢◌, List, ℕ, Option, Result, Ok, Err, IfOk, IsErr, IsNone, IsSome, None, Some, refl, subst, sym, ◌∙◌}
use Rattle.std.proofs.lemmas.Result.{IfOk-from_err, IfOk-weaker}
use Rattle.edm_model.specs.Models.{Model}
use Rattle.edm_model.specs.ModelFile.{ModelReading, model_reading}
use Rattle.edm_model.specs.declared.read.ModelRefused.{ModelRefused}
use Rattle.edm_model.specs.declared.read.ModelRefused.TheVariants as refused
use Rattle.context_typing.specs.Typing.{Customs}
use Rattle.apply_store.specs.CustomReadings.{AreCustoms, IsFirstUntyped}
use Rattle.apply_store.specs.FirstCustoms.{IfNames, owned}
use Rattle.apply_store.specs.declared.judging.CustomFault.{CustomFault}
use Rattle.apply_store.specs.declared.judging.CustomFault.TheVariants as fault
use Rattle.apply_store.proofs.FirstCustoms.{not_both}
use Rattle.edm_data.specs.Worlds.{World, entity_at}
use Rattle.edm_data.specs.DataFile.{DataReading, data_reading}
use Rattle.edm_data.specs.declared.DataRefused.{DataRefused}
use Rattle.edm_data.specs.declared.DataRefused.TheVariants as data_refused
use Rattle.run_messages.specs.Refusals.{IsDataFile, IsModelFile}

-- what holds anyhow holds of an answer
always : {T E P : Type 0} (r : Result (Option T) E) → P → IfOk r (λ o. IsSome o → P)
always (Ok o) p = λ some. p
always (Err e) p = tt

-- where something is always told, nothing is known of nothing
pub never_none : {T E : Type 0} (P : Type 0) (r : Result (Option T) E) → IfOk r IsSome → IfOk r (λ o. IsNone o → P)
never_none P (Ok (Some x)) some = λ none. absurd cc
never_none P (Ok None) some = absurd cc
never_none P (Err e) some = tt

-- a fault of the custom aggregates
pub custom_told : {T E : Type 0} (m : Model) (f : CustomFault) (r : Result (Option T) E) → IfNames f (λ u. IsFirstUntyped m (owned u)) → (f ≡ fault.Memory → IsErr r)
    → IfOk r (λ o. IsSome o → (c : Customs) → ¬ AreCustoms m c)
custom_told m fault.Memory r first memory = IfOk-from_err r _ (memory refl)
custom_told m (fault.Unread u) r first memory = always r (λ c all. not_both m c (owned u.now) all first)
custom_told m (fault.Untyped u) r first memory = always r (λ c all. not_both m c (owned u.now) all first)

same_model : (m n : Model) → ModelReading.Model' m ≡ ModelReading.Model' n → m ≡ n
same_model m n e = cc

no_model : (bytes : List ℕ) (r : ModelReading) → model_reading bytes ≡ r → ((m : Model) → r ≡ ModelReading.Model' m → ⊥) → ¬ IsModelFile bytes
no_model bytes r is other file = other file.0 (sym is ∙ file.2)

-- a model file that is refused
pub model_told : {T E : Type 0} (bytes : List ℕ) (f : ModelRefused) (r : Result (Option T) E)
    → (f ≡ refused.TooLong → model_reading bytes ≡ ModelReading.TooLong) → (f ≡ refused.Json → model_reading bytes ≡ ModelReading.NoJson)
    → (f ≡ refused.Model → model_reading bytes ≡ ModelReading.NoModel) → (f ≡ refused.Memory → IsErr r)
    → IfOk r (λ o. IsSome o → ¬ IsModelFile bytes)
model_told bytes refused.TooLong r long json model memory = always r (no_model bytes ModelReading.TooLong (long refl) (λ m e. absurd cc))
model_told bytes refused.Json r long json model memory = always r (no_model bytes ModelReading.NoJson (json refl) (λ m e. absurd cc))
model_told bytes refused.Model r long json model memory = always r (no_model bytes ModelReading.NoModel (model refl) (λ m e. absurd cc))
model_told bytes refused.Memory r long json model memory = IfOk-from_err r _ (memory refl)

-- something is told of a model file that is refused
pub model_found : {T E : Type 0} (bytes : List ℕ) (f : ModelRefused) (r : Result (Option T) E) → (f ≡ refused.Model → model_reading bytes ≡ ModelReading.NoModel)
    → (f ≡ refused.Model → IfOk r (λ o. IsNone o → model_reading bytes ≢ ModelReading.NoModel)) → (f ≢ refused.Model → IfOk r IsSome)
    → IfOk r (λ o. IsNone o → IsModelFile bytes)
model_found bytes refused.TooLong r model rule told = never_none _ r (told (λ e. absurd cc))
model_found bytes refused.Json r model rule told = never_none _ r (told (λ e. absurd cc))
model_found bytes refused.Model r model rule told = IfOk-weaker r _ _ (λ o other none. absurd (other none (model refl))) (rule refl)
model_found bytes refused.Memory r model rule told = never_none _ r (told (λ e. absurd cc))

-- a model file whose custom aggregates are taken
pub model_taken : {T E : Type 0} (bytes : List ℕ) (m : Model) (r : Result (Option T) E) → model_reading bytes ≡ ModelReading.Model' m
    → IfOk r (λ o. IsNone o → (c : Customs) × AreCustoms m c) → IfOk r (λ o. IsNone o → IsModelFile bytes)
model_taken bytes m r is taken = IfOk-weaker r _ _ (λ o customs none. let c = customs none in (m, c.0, is, c.1)) taken

-- a model whose custom aggregates are refused
pub model_of_customs_told : {T E : Type 0} (bytes : List ℕ) (m : Model) (r : Result (Option T) E) → model_reading bytes ≡ ModelReading.Model' m
    → IfOk r (λ o. IsSome o → (c : Customs) → ¬ AreCustoms m c) → IfOk r (λ o. IsSome o → ¬ IsModelFile bytes)
model_of_customs_told bytes m r is told =
    IfOk-weaker r _ _ (λ o none some file. none some file.1 (subst (λ n. AreCustoms n file.1) (same_model file.0 m (sym file.2 ∙ is)) file.3)) told

same_world : (bytes : List ℕ) (m n : Model) → m ≡ n → (r : DataReading) → data_reading m bytes ≡ r → data_reading n bytes ≡ r
same_world bytes m n e r is = subst (λ k. data_reading k bytes ≡ r) e is

no_data : (model_bytes bytes : List ℕ) (m : Model) (r : DataReading) → model_reading model_bytes ≡ ModelReading.Model' m → data_reading m bytes ≡ r
    → ((w : World) → r ≡ DataReading.World' w → ⊥) → ¬ IsDataFile model_bytes bytes
no_data model_bytes bytes m r read is other files =
    other files.1 (sym (same_world bytes m files.0 (same_model m files.0 (sym read ∙ files.2)) r is) ∙ files.3)

-- a data file that is refused
pub data_told : {T E : Type 0} (model_bytes bytes : List ℕ) (m : Model) (f : DataRefused) (r : Result (Option T) E) → model_reading model_bytes ≡ ModelReading.Model' m
    → (f ≡ data_refused.TooLong → data_reading m bytes ≡ DataReading.TooLong) → (f ≡ data_refused.Json → data_reading m bytes ≡ DataReading.NoJson)
    → ((name : List ℕ) → f ≡ data_refused.Set name → data_reading m bytes ≡ DataReading.Set name)
    → ((s k : ℕ) → f ≡ data_refused.Shape s k → data_reading m bytes ≡ DataReading.Shape (entity_at s k))
    → ((s k : ℕ) → f ≡ data_refused.TwiceKey s k → data_reading m bytes ≡ DataReading.TwiceKey (entity_at s k))
    → ((s k : ℕ) → f ≡ data_refused.Dangling s k → data_reading m bytes ≡ DataReading.Dangling (entity_at s k))
    → (f ≡ data_refused.Memory → IsErr r) → IfOk r (λ o. IsSome o → ¬ IsDataFile model_bytes bytes)
data_told mb b m data_refused.TooLong r read long json set shape twice dangling memory = always r (no_data mb b m _ read (long refl) (λ w e. absurd cc))
data_told mb b m data_refused.Json r read long json set shape twice dangling memory = always r (no_data mb b m _ read (json refl) (λ w e. absurd cc))
data_told mb b m (data_refused.Set name) r read long json set shape twice dangling memory = always r (no_data mb b m _ read (set name refl) (λ w e. absurd cc))
data_told mb b m (data_refused.Shape s k) r read long json set shape twice dangling memory = always r (no_data mb b m _ read (shape s k refl) (λ w e. absurd cc))
data_told mb b m (data_refused.TwiceKey s k) r read long json set shape twice dangling memory = always r (no_data mb b m _ read (twice s k refl) (λ w e. absurd cc))
data_told mb b m (data_refused.Dangling s k) r read long json set shape twice dangling memory = always r (no_data mb b m _ read (dangling s k refl) (λ w e. absurd cc))
data_told mb b m data_refused.Memory r read long json set shape twice dangling memory = IfOk-from_err r _ (memory refl)
