-- Custom aggregates that were typed over a model: where their ids and their names lead.
use Rattle.std.proofs.Common.{◌≡◌, sym, ◌∙◌, ap, ℕ, Bool, List, [], Option, Some}
use Rattle.std.specs.Prelude.{option_map, slice_get, unwrap_or}
use Rattle.edm_values.specs.declared.EdmType.{EdmType}
use Rattle.edm_values.specs.Lists.{same_text}
use Rattle.edm_values.specs.Names.{Name}
use Rattle.edm_values.proofs.OptionFacts.{chained, mapped, some_value}
use Rattle.edm_values.proofs.SameTexts.{same_texts}
use Rattle.edm_values.proofs.SearchFacts.{found-passes, found-numbered_at, found-All}
use Rattle.edm_model.specs.Models.{Custom, EntityType, Model, Part}
use Rattle.edm_model.specs.LookUps.{custom_named, custom_on, item_named, type_at}
use Rattle.context_typing.specs.Readings.{AreTypedOver, IsTypedCustom, reading_of, same_part, typed_at}
use Rattle.context_typing.specs.Typing.{custom_kind, custom_risky}
use Rattle.context_typing.specs.declared.customs.TypedCustom.{TypedCustom}
use Rattle.std.specs.List.{enumerate_from}
use Rattle.context_typing.proofs.CustomFacts.{same_part-is}

-- what a name finds stands at its place, and has the name
pub named-place : (m : Model) (t k : ℕ) (n : Name) (u : Custom) → custom_named m t n ≡ Some (k, u) → (custom_on m (record { of = t; at = k }) ≡ Some u) × (u.name ≡ n)
named-place m t k n u e =
    let test : ℕ × Custom → Bool = λ y. same_text (y.1).name n in
    let y = chained (λ (e : EntityType). item_named (λ (u : Custom). u.name) n e.customs) (type_at m t) (k, u) e in (
      ap (λ (o : Option EntityType). slice_get (unwrap_or (option_map (λ (e : EntityType). e.customs) o) []) k) y.1 ∙ found-numbered_at test (y.0).customs (k, u) y.2,
      same_texts u.name n (found-passes test (enumerate_from 0 (y.0).customs) (k, u) y.2),
    )

-- a typed custom aggregate is found by its name, and stands where its id says
pub typed-named : (m : Model) (x : TypedCustom) → IsTypedCustom m x → (u : Custom) × (custom_named m x.read.id.of x.name ≡ Some (x.read.id.at, u)) × (custom_kind m u (reading_of x) ≡ Some x.kind)
typed-named m x h =
    let f : ℕ × Custom → ℕ × Option EdmType × Bool = λ v. (v.0, custom_kind m v.1 (reading_of x), custom_risky m v.1 (reading_of x)) in
    let v = mapped f (custom_named m x.owner x.name) (x.read.id.at, Some x.kind, x.risky) h.1 in
    let place : (v.0).0 ≡ x.read.id.at = ap (λ (z : ℕ × Option EdmType × Bool). z.0) v.2 in
    ((v.0).1, ap (λ t. custom_named m t x.name) h.0 ∙ v.1 ∙ (λ i. Some (place i, (v.0).1)), ap (λ (z : ℕ × Option EdmType × Bool). z.1) v.2)

-- the typed custom aggregate of an id, over the one of the model
pub typed-found : (m : Model) (c : List TypedCustom) (id : Part) (u : Custom) (x : TypedCustom) → AreTypedOver m c → custom_on m id ≡ Some u → typed_at c id ≡ Some x
    → (x.owner ≡ id.of) × (custom_kind m u (reading_of x) ≡ Some x.kind)
typed-found m c id u x all on e =
    let test : TypedCustom → Bool = λ y. same_part y.read.id id in
    let typed = found-All (IsTypedCustom m) test c x all e in
    let same = same_part-is x.read.id id (found-passes test c x e) in
    let v = typed-named m x typed in
    let own : v.0 ≡ u = some_value (sym (named-place m x.read.id.of x.read.id.at x.name v.0 v.1).0 ∙ ap (custom_on m) same ∙ on) in
    (sym typed.0 ∙ ap (λ (p : Part). p.of) same, ap (λ u. custom_kind m u (reading_of x)) (sym own) ∙ v.2)
