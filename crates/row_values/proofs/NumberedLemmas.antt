-- Aggregates of the values that have one number.
use Rattle.std.proofs.Common.{◌≡◌, ◌∙◌, ℕ, ◌+◌, ◌<◌, ◌≤◌, Bool, true, false, List, [], ◌∷◌, ◌++◌, Some, ap, arith, cond, drop, filter, get_or, length, map, nat_eq, refl, subst, sym, ⊎_elim}
use Rattle.std.specs.Prelude.{slice_get}
use Rattle.std.specs.List.{All, cons_option}
use Rattle.std.proofs.lemmas.Bool.{cases_eq}
use Rattle.std.proofs.lemmas.List.{get_or_append_left, get_or_default, get_or_push, length_push}
use Rattle.std.proofs.lemmas.Option.{slice_get-get_or}
use Rattle.edm_values.specs.declared.Method.{Method}
use Rattle.edm_values.specs.declared.Value.{Value}
use Rattle.edm_values.specs.Lists.{at_places, places}
use Rattle.edm_values.proofs.PlaceFacts.{map-agree_places}
use Rattle.edm_values.proofs.TopPlaces.{element-there, map-places}
use Rattle.apply_meaning.specs.Aggregates.{aggregate}
use Rattle.par_stages.specs.Placed.{placed}
use Rattle.aggregate_ops.specs.Partials.{values}
use Rattle.numbered_groups.specs.Numbered.{places_with}
use Rattle.row_values.specs.GroupFolds.{AreFoldsOf, ArePartialsBy, FoldsState, values_with}
use Rattle.row_values.proofs.GroupFoldLemmas.{left-read, left-rest, left-there}

-- ---- the values at places that have a number

numbered-from : (j : ℕ) (all : List ℕ) (whole : List Value) (n : ℕ) (ns : List ℕ) (vs : List Value) → drop n all ≡ ns → drop n whole ≡ vs → length ns ≡ length vs
    → values (values_with all j (placed n vs)) ≡ at_places whole (map (λ x. x.1) (filter (λ x. nat_eq x.0 j) (placed n ns)))
numbered-from j all whole n [] [] e f l = refl
numbered-from j all whole n [] (v ∷ vs) e f l = absurd (omega (arith, l))
numbered-from j all whole n (m ∷ ns) [] e f l = absurd (omega (arith, l))
numbered-from j all whole n (m ∷ ns) (v ∷ vs) e f l =
    go (nat_eq m j) refl (numbered-from j all whole (n + 1) ns vs (sym (left-rest all n m (m ∷ ns) ns (sym e) refl)) (sym (left-rest whole n v (v ∷ vs) vs (sym f) refl)) (omega (arith, l)))
  where
    kept : List (Value × ℕ)
    kept = values_with all j (placed (n + 1) vs)

    told : List (ℕ × ℕ)
    told = filter (λ x. nat_eq x.0 j) (placed (n + 1) ns)

    number : get_or all n 0 ≡ m
    number = sym (left-read all n m (m ∷ ns) ns 0 (sym e) refl)

    there : slice_get whole n ≡ Some v
    there = slice_get-get_or whole n v (left-there whole n v (v ∷ vs) vs (sym f) refl) ∙ ap Some (sym (left-read whole n v (v ∷ vs) vs v (sym f) refl))

    go : (b : Bool) → nat_eq m j ≡ b → values kept ≡ at_places whole (map (λ x. x.1) told)
        → values (cond (nat_eq (get_or all n 0) j) ((v, n) ∷ kept) kept) ≡ at_places whole (map (λ x. x.1) (cond (nat_eq m j) ((m, n) ∷ told) told))
    go true h rest =
        ap (λ b. values (cond b ((v, n) ∷ kept) kept)) (ap (λ i. nat_eq i j) number ∙ h)
        ∙ ap (λ l. v ∷ l) rest
        ∙ sym (ap (λ b. at_places whole (map (λ x. x.1) (cond b ((m, n) ∷ told) told))) h ∙ ap (λ o. cons_option o (at_places whole (map (λ x. x.1) told))) there)
    go false h rest =
        ap (λ b. values (cond b ((v, n) ∷ kept) kept)) (ap (λ i. nat_eq i j) number ∙ h)
        ∙ rest
        ∙ sym (ap (λ b. at_places whole (map (λ x. x.1) (cond b ((m, n) ∷ told) told))) h)

-- those of a list with its places are those at the places that have the number
pub values-numbered : (j : ℕ) (numbers : List ℕ) (vs : List Value) → length numbers ≡ length vs → values (values_with numbers j (placed 0 vs)) ≡ at_places vs (places_with numbers j)
values-numbered j numbers vs l = numbered-from j numbers vs 0 numbers vs refl refl l

-- so are their aggregates
pub aggregates-numbered : (m n : Method) (numbers numbers' : List ℕ) (count count' : ℕ) (vs : List Value) → n ≡ m → numbers' ≡ numbers → count' ≡ count → length numbers ≡ length vs
    → map (λ j. aggregate m (values (values_with numbers' j (placed 0 vs)))) (places count') ≡ map (λ j. aggregate n (at_places vs (places_with numbers j))) (places count)
aggregates-numbered m n numbers numbers' count count' vs s e f l =
    (λ i. map (λ j. aggregate (sym s i) (values (values_with (e i) j (placed 0 vs)))) (places (f i)))
    ∙ (λ i. map (λ j. aggregate n (values-numbered j numbers vs l i)) (places count))

-- ---- the aggregates of the groups one after the other

-- the aggregates of the first k groups are found
pub record AreTold {P : Type 0} (stands : P → List (Value × ℕ) → Type 0) (m : Method) (gs : List P) (found : List Value) (k : ℕ) : Type 0 where
  pub size : length found ≡ k
  pub few : k ≤ length gs
  pub told : (j : ℕ) → (d : P) → (xs : List (Value × ℕ)) → j < k → stands (get_or gs j d) xs → get_or found j Value.Null ≡ aggregate m (values xs)

module _ {P : Type 0} (stands : P → List (Value × ℕ) → Type 0) (m : Method) where
  pub told-none : (gs : List P) (found : List Value) → found ≡ [] → AreTold stands m gs found 0
  told-none gs found e = record { size = ap length e; few = omega arith; told = λ j d xs lt. absurd (omega arith) }

  pub told-next : (gs : List P) (found found' : List Value) (k : ℕ) (p : P) (v : Value) → k < length gs → p ≡ get_or gs k p → ((xs : List (Value × ℕ)) → stands p xs → v ≡ aggregate m (values xs)) → found' ≡ found ++ v ∷ []
      → AreTold stands m gs found k → AreTold stands m gs found' (k + 1)
  told-next gs found found' k p v there at made e t = record {
    size = ap length e ∙ length_push found v ∙ ap (λ n. n + 1) t.size;
    few = omega arith;
    told = λ j d xs lt s. ap (λ l. get_or l j Value.Null) e ∙ ⊎_elim
        (λ (q : j ≡ k). get_or_push found v Value.Null j (t.size ∙ sym q) ∙ made xs (subst (λ p. stands p xs) (ap (λ i. get_or gs i d) q ∙ get_or_default gs k d p there ∙ sym at) s))
        (λ q. get_or_append_left found (v ∷ []) Value.Null j (omega (arith, q, t.size)) ∙ t.told j d xs (omega (arith, q)) s)
        (cases_eq j k);
  }

  -- all are
  pub told-all : (s : FoldsState P) (gs : List P) (found : List Value) (k : ℕ) (xs : List (Value × ℕ)) → gs ≡ s.groups → length gs ≤ k → AreTold stands m gs found k → AreFoldsOf stands s xs
      → found ≡ map (λ j. aggregate m (values (values_with s.numbers j xs))) (places s.count)
  told-all s gs found k xs e whole t h =
      let long : length found ≡ s.count = omega (arith, t.size, t.few, whole, h.size, ap length e) in
      sym (map-places found Value.Null)
      ∙ map-agree_places (λ j. get_or found j Value.Null) (λ j. aggregate m (values (values_with s.numbers j xs))) (length found)
      (λ j lt. t.told j s.empty (values_with s.numbers j xs) (omega (arith, t.size)) (subst (λ l. stands (get_or l j s.empty) (values_with s.numbers j xs)) (sym e) (h.each j s.empty (omega (arith, h.size, long)))))
      ∙ ap (λ n. map (λ j. aggregate m (values (values_with s.numbers j xs))) (places n)) long

-- ---- partials of groups

-- what is kept of the groups of a list
pub partials-by : {P K : Type 0} (kind : P → K) (stands : P → List (Value × ℕ) → Type 0) (s : FoldsState P) (vs : List Value) (numbers : List ℕ) (count : ℕ) (ps : List P) → ps ≡ s.groups → All (λ p. kind p ≡ kind s.empty) ps
    → s.numbers ≡ numbers → s.count ≡ count → length numbers ≡ length vs → AreFoldsOf stands s (placed 0 vs) → ArePartialsBy kind stands vs numbers count ps
partials-by kind stands s vs numbers count ps e kinds n c l h =
    let size = ap length e ∙ h.size ∙ c in
    record {
      size = size;
      of = kind s.empty;
      kinds = λ j d lt. kinds j d (omega (arith, lt, size));
      each = λ j d lt. (
        values_with s.numbers j (placed 0 vs),
        subst (λ gs. stands (get_or gs j d) (values_with s.numbers j (placed 0 vs))) (sym e) (h.each j d (omega (arith, lt, c, h.size))),
        ap (λ ns. values (values_with ns j (placed 0 vs))) n ∙ values-numbered j numbers vs l,
      );
    }

-- all their aggregates are found
pub told-by : {P K : Type 0} (kind : P → K) (stands : P → List (Value × ℕ) → Type 0) (m : Method) (vs : List Value) (numbers : List ℕ) (count : ℕ) (gs : List P) (found : List Value) (n : ℕ) → length gs ≤ n → AreTold stands m gs found n
    → ArePartialsBy kind stands vs numbers count gs → found ≡ map (λ j. aggregate m (at_places vs (places_with numbers j))) (places count)
told-by kind stands m vs numbers count gs found n whole t h =
    let long : length found ≡ count = omega (arith, t.size, t.few, whole, h.size) in
    let one : (j : ℕ) → j < length found → get_or found j Value.Null ≡ aggregate m (at_places vs (places_with numbers j)) = λ j lt.
    let p = element-there gs j (omega (arith, lt, long, h.size)) in
    let own = h.each j p.0 (omega (arith, lt, long)) in
    t.told j p.0 own.0 (omega (arith, lt, t.size)) own.1 ∙ ap (aggregate m) own.2 in
    sym (map-places found Value.Null)
    ∙ map-agree_places (λ j. get_or found j Value.Null) (λ j. aggregate m (at_places vs (places_with numbers j))) (length found) one
    ∙ ap (λ n. map (λ j. aggregate m (at_places vs (places_with numbers j))) (places n)) long
