-- A world that fits a sound model is well typed.
use Rattle.std.proofs.Common.{◌≡◌, refl, sym, ◌∙◌, ap, ℕ, zero, suc, ◌<◌, true, false, List, [], ◌∷◌, length, Some, inl, inr}
use Rattle.std.specs.Prelude.{option_map, unwrap_or, slice_get}
use Rattle.std.proofs.lemmas.Bool.{and_parts}
use Rattle.edm_values.specs.declared.Value.{Value}
use Rattle.edm_values.specs.Literals.{is_of_kind}
use Rattle.edm_values.specs.Values.{is_beyond, value_in}
use Rattle.edm_values.proofs.KindLaws.{null-fits}
use Rattle.edm_values.proofs.OptionFacts.{option_cases, some_value}
use Rattle.edm_values.proofs.TopPlaces.{element-there}
use Rattle.edm_model.specs.Models.{EntityType, Property, Model}
use Rattle.edm_model.specs.LookUps.{type_at, properties_of, navigations_of, set_type, set_of_type, navigation_on}
use Rattle.edm_model.specs.Soundness.{IsSound}
use Rattle.edm_data.specs.Worlds.{World}
use Rattle.edm_data.specs.References.{entities_of, property}
use Rattle.edm_data.specs.Fitting.{FitsModel, is_value_of, are_values_of}
use Rattle.apply_meaning.proofs.WellTyped.{IsWellTyped}

abbrev Good : Property → Value → Type 0
Good p v = (is_of_kind p.kind v ≡ true) × (is_beyond v ≡ false)

good-null : (p : Property) → Good p Value.Null
good-null p = (null-fits p.kind, refl)

good-value : (p : Property) (v : Value) → is_value_of p v ≡ true → Good p v
good-value p Value.Null h = good-null p
good-value p (Value.Bool b) h = ((and_parts _ _ h).0, refl)
good-value p (Value.Int z) h = ((and_parts _ _ h).0, refl)
good-value p (Value.Dec d) h = ((and_parts _ _ h).0, refl)
good-value p (Value.Text t) h = ((and_parts _ _ h).0, refl)
good-value p (Value.Day d) h = ((and_parts _ _ h).0, refl)
good-value p Value.Beyond h = let t = and_parts (is_of_kind p.kind Value.Beyond) false h in (t.0, cc)

good-row : (ps : List Property) (vs : List Value) (k : ℕ) (p : Property) → are_values_of ps vs ≡ true → slice_get ps k ≡ Some p → Good p (value_in vs k)
good-row [] vs k p a e = cc
good-row (q ∷ ps) [] k p a e = good-null p
good-row (q ∷ ps) (v ∷ vs) zero p a e =
    let same = some_value e in
    let g = good-value q v (and_parts (is_value_of q v) _ a).0 in
    (ap (λ z. is_of_kind z.kind v) (sym same) ∙ g.0, g.1)
good-row (q ∷ ps) (v ∷ vs) (suc k) p a e = good-row ps vs k p (and_parts (is_value_of q v) _ a).1 e

-- the lists of a type that is there
properties-at : (m : Model) (t : ℕ) (E : EntityType) → type_at m t ≡ Some E → properties_of m t ≡ E.properties
properties-at m t E h = ap (λ o. unwrap_or (option_map (λ e. e.properties) o) []) h

navigations-at : (m : Model) (t : ℕ) (E : EntityType) → type_at m t ≡ Some E → navigations_of m t ≡ E.navigations
navigations-at m t E h = ap (λ o. unwrap_or (option_map (λ e. e.navigations) o) []) h

-- a set that there is has its type
pub set-here : (m : Model) (s : ℕ) → s < length m.sets → option_map (λ x. x.of) (slice_get m.sets s) ≡ Some (set_type m s)
set-here m s h =
    let x = element-there m.sets s h in
    ap (option_map (λ x. x.of)) x.1 ∙ ap (λ z. Some z) (sym (ap (λ o. unwrap_or (option_map (λ x. x.of) o) 0) x.1))

pub well_typed : (w : World) → IsSound w.model → FitsModel w → IsWellTyped w
well_typed w M F = record {
  values = λ e t E k p h a b. elim (option_cases (slice_get (entities_of w e.set) e.at)) [
    | inl n ↦
        let is : property w e k ≡ Value.Null = ap (λ o. value_in (unwrap_or o []) k) n in
        (ap (is_of_kind p.kind) is ∙ null-fits p.kind, ap is_beyond is)
    | inr vs ↦
        let is : property w e k ≡ value_in vs.0 k = ap (λ o. value_in (unwrap_or o []) k) vs.1 in
        let type : set_type w.model e.set ≡ t = ap (λ o. unwrap_or o 0) h in
        let row : are_values_of E.properties vs.0 ≡ true = ap (λ ps. are_values_of ps vs.0) (sym (ap (properties_of w.model) type ∙ properties-at w.model t E a)) ∙ F.rows e.set e.at vs.0 vs.1 in
        let g = good-row E.properties vs.0 k p row b in
        (ap (is_of_kind p.kind) is ∙ g.0, ap is_beyond is ∙ g.1)
  ];
  targets = λ t E k v a b.
      let at : navigation_on w.model (record { of = t; at = k }) ≡ Some v = ap (λ vs. slice_get vs k) (navigations-at w.model t E a) ∙ b in
      let there = M.targets (record { of = t; at = k }) v at in
      set-here w.model (set_of_type w.model v.target) (M.type_sets v.target there) ∙ ap (λ z. Some z) (M.types_of_sets v.target there);
}
