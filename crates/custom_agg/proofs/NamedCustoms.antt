-- The custom aggregate of a name with its reading is that of the id that the name leads to.
use Rattle.std.proofs.Common.{◌≡◌, refl, sym, ◌∙◌, ap, ℕ, ◌==◌, ◌&&◌, Bool, true, List, [], ◌∷◌, Option, None, Some, cond, get_or}
use Rattle.std.specs.Prelude.{All, find, option_and_then, option_map}
use Rattle.std.proofs.lemmas.Bool.{and_from, and_parts, eq-eqb, eqb-true}
use Rattle.std.proofs.lemmas.List.Elements.{All-head, All-tail}
use Rattle.edm_values.specs.Lists.{same_text}
use Rattle.edm_values.specs.Names.{Name}
use Rattle.edm_values.proofs.OptionFacts.{some_value, same_bool}
use Rattle.edm_values.proofs.SameTexts.{same_texts, text-self}
use Rattle.edm_values.proofs.SearchFacts.{find-mapped}
use Rattle.edm_model.specs.Models.{Custom, Model, Part}
use Rattle.edm_model.specs.LookUps.{custom_named, custom_on}
use Rattle.context_typing.specs.Readings.{AreTypedOver, IsTypedCustom, is_named, reading_of, readings, same_part, typed_at}
use Rattle.context_typing.specs.Typing.{Reading, custom_at}
use Rattle.context_typing.specs.declared.customs.TypedCustom.{TypedCustom}
use Rattle.custom_agg.proofs.TypedCustoms.{named-place, typed-named}
use Rattle.context_typing.proofs.CustomFacts.{same_part-is}

-- two searches by tests that agree on each element
same-search : {X : Type 0} (p q : X → Bool) (xs : List X) → All (λ x. p x ≡ q x) xs → find p xs ≡ find q xs
same-search p q [] a = refl
same-search p q (x ∷ xs) a = λ i. cond (All-head (λ x. p x ≡ q x) x xs a i) (Some x) (same-search p q xs (All-tail (λ x. p x ≡ q x) x xs a) i)

-- a typed custom aggregate has the name where it has the id that the name leads to
same-one : (m : Model) (t k : ℕ) (n : Name) (u : Custom) (x : TypedCustom) → custom_named m t n ≡ Some (k, u) → IsTypedCustom m x → is_named t n x ≡ same_part x.read.id (record { of = t; at = k })
same-one m t k n u x e typed = same_bool (is_named t n x) (same_part x.read.id (record { of = t; at = k })) there back
  where
    there : is_named t n x ≡ true → same_part x.read.id (record { of = t; at = k }) ≡ true
    there h =
        let p = and_parts (x.owner == t) (same_text x.name n) h in
        let of : x.read.id.of ≡ t = typed.0 ∙ eqb-true x.owner t p.0 in
        let v = typed-named m x typed in
        let found = some_value (sym v.1 ∙ (λ i. custom_named m (of i) (same_texts x.name n p.1 i)) ∙ e) in
        and_from _ _ (eq-eqb x.read.id.of t of) (eq-eqb x.read.id.at k (ap (λ (z : ℕ × Custom). z.0) found))

    back : same_part x.read.id (record { of = t; at = k }) ≡ true → is_named t n x ≡ true
    back h =
        let same = same_part-is x.read.id (record { of = t; at = k }) h in
        let v = typed-named m x typed in
        let own = named-place m x.read.id.of x.read.id.at x.name v.0 v.1 in
        let other = named-place m t k n u e in
        let one : v.0 ≡ u = some_value (sym own.0 ∙ ap (custom_on m) same ∙ other.0) in
        let name : x.name ≡ n = sym own.1 ∙ ap (λ (u : Custom). u.name) one ∙ other.1 in
        and_from _ _ (eq-eqb x.owner t (sym typed.0 ∙ ap (λ (p : Part). p.of) same)) (ap (λ a. same_text a n) name ∙ text-self n)

-- the custom aggregate of a name with its reading, by the id that the name leads to
pub custom-named_from : (m : Model) (c : List TypedCustom) (t k : ℕ) (n : Name) (u : Custom) → AreTypedOver m c → custom_named m t n ≡ Some (k, u)
    → custom_at m (readings c) t n ≡ option_map {U = Custom × Reading} (λ x. (u, reading_of x)) (typed_at c (record { of = t; at = k }))
custom-named_from m c t k n u all e =
    let by_id : TypedCustom → Bool = λ y. same_part y.read.id (record { of = t; at = k }) in
    let found : find (λ r. (r.owner == t) && same_text r.name n) (readings c) ≡ option_map reading_of (find by_id c) =
    find-mapped (λ r. (r.owner == t) && same_text r.name n) (is_named t n) reading_of (λ x. refl) c
    ∙ ap (option_map reading_of) (same-search (is_named t n) by_id c (λ j d within. same-one m t k n u (get_or c j d) e (all j d within))) in
    (λ i. option_and_then (λ (y : ℕ × Custom). option_map {U = Custom × Reading} (λ r. (y.1, r)) (found i)) (e i)) ∙ beside-mapped (find by_id c)
  where
    beside-mapped : (o : Option TypedCustom) → option_map {U = Custom × Reading} (λ r. (u, r)) (option_map reading_of o) ≡ option_map {U = Custom × Reading} (λ x. (u, reading_of x)) o
    beside-mapped None = refl
    beside-mapped (Some x) = refl
