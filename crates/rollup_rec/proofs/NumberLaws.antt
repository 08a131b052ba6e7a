-- Rows that are told by the numbers of their nodes.
use Rattle.std.proofs.Common.{◌≡◌, ◌∙◌, ℕ, suc, ◌+◌, ◌<◌, true, false, ◌&&◌, ◌==◌, List, [], ◌∷◌, Option, Some, None, ap, arith, filter, get_or, length, map, nat_eq, option_map, refl, subst, sym, take, unwrap_or}
use Rattle.std.specs.Prelude.{slice_get, slice_index}
use Rattle.std.proofs.lemmas.Bool.{ne_eqb}
use Rattle.std.proofs.lemmas.List.{get_or-map, get_or-take, length-map, length-take-le}
use Rattle.std.proofs.lemmas.Option.{unwrap_or-slice_get}
use Rattle.std.proofs.lemmas.Simd.{map-map}
use Rattle.edm_values.specs.declared.Value.{Value}
use Rattle.edm_values.specs.Lists.{at_places, places}
use Rattle.edm_values.proofs.PlaceFacts.{map-agree_places}
use Rattle.edm_values.proofs.Reorderings.{reorders-same}
use Rattle.edm_values.proofs.TopPlaces.{places-first}
use Rattle.par_stages.specs.Placed.{placed}
use Rattle.par_stages.proofs.Passing.{filter-map}
use Rattle.hier_index.proofs.WalkLaws.{each_place_below, filter_same}
use Rattle.numbered_groups.specs.Numbered.{places_with}
use Rattle.row_values.specs.GroupFolds.{ArePartialsBy}
use Rattle.rollup_rec.specs.NodeFolds.{AreFolds}
use Rattle.rollup_rec.specs.NodeRows.{row_number, row_numbers, rows_at}
use Rattle.rollup_rec.proofs.NodeRowLaws.{filter_twice}

-- a list with its places, place by place
placed-is : (n : ℕ) (ns : List ℕ) → placed n ns ≡ map (λ i. (get_or ns i 0, n + i)) (places (length ns))
placed-is n [] = refl
placed-is n (x ∷ ns) =
    let at : ℕ → ℕ × ℕ = λ i. (get_or (x ∷ ns) i 0, n + i) in
    let zero-is : n ≡ n + 0 = omega arith in
    let rest : placed (n + 1) ns ≡ map (λ i. at (suc i)) (places (length ns)) =
    placed-is (n + 1) ns ∙ map-agree_places (λ i. (get_or ns i 0, n + 1 + i)) (λ i. at (suc i)) (length ns) (λ i h. ap (λ k. (get_or ns i 0, k)) (omega arith)) in
    (λ i. (x, zero-is i) ∷ rest i)
    ∙ ap (λ l. at 0 ∷ l) (sym (map-map at suc (places (length ns))))
    ∙ ap (map at) (sym (places-first (length ns)))

map-itself : (ks : List ℕ) → map (λ i. 0 + i) ks ≡ ks
map-itself [] = refl
map-itself (k ∷ ks) = let e : 0 + k ≡ k = omega arith in (λ i. e i ∷ map-itself ks i)

-- the places that have a number
pub places-with : (ns : List ℕ) (j : ℕ) → places_with ns j ≡ filter (λ i. nat_eq (get_or ns i 0) j) (places (length ns))
places-with ns j =
    let at : ℕ → ℕ × ℕ = λ i. (get_or ns i 0, 0 + i) in
    ap (λ l. map (λ x. x.1) (filter (λ x. nat_eq x.0 j) l)) (placed-is 0 ns)
    ∙ filter-map (λ x. x.1) (λ x. nat_eq x.0 j) at (places (length ns))
    ∙ map-itself (filter (λ i. nat_eq (get_or ns i 0) j) (places (length ns)))

module _ (numbers : List ℕ) (nodes : List (Option ℕ)) where
  abbrev told : List ℕ
  told = row_numbers numbers (length numbers) nodes

  pub told-long : length told ≡ length nodes
  told-long = length-map nodes (λ n. unwrap_or (option_map (slice_index numbers) n) (length numbers))

  module _ (j : ℕ) (h : j < length numbers) where
    test : (o : Option ℕ) → nat_eq (unwrap_or (option_map (slice_index numbers) o) (length numbers)) j ≡ (unwrap_or (option_map (λ (y : ℕ). true) o) false && (slice_index numbers (unwrap_or o 0) == j))
    test None = ne_eqb (length numbers) j (λ e. absurd (omega (arith, e, h)))
    test (Some y) = refl

    -- the rows of a number
    pub numbered-rows : places_with told j ≡ rows_at numbers nodes (length nodes) j
    numbered-rows =
        let has = λ (r : ℕ). unwrap_or (option_map (λ (y : ℕ). true) (unwrap_or (slice_get nodes r) None)) false in
        let own = λ (r : ℕ). row_number numbers nodes r == j in
        let of = λ (r : ℕ). nat_eq (get_or told r 0) j in
        let one : (r : ℕ) → r < length nodes → of r ≡ (has r && own r) = λ r lt.
        ap (λ m. nat_eq m j) (get_or-map (λ n. unwrap_or (option_map (slice_index numbers) n) (length numbers)) nodes r None 0 lt)
        ∙ ap (λ o. nat_eq (unwrap_or (option_map (slice_index numbers) o) (length numbers)) j) (sym (unwrap_or-slice_get nodes r None))
        ∙ test (unwrap_or (slice_get nodes r) None) in
        places-with told j
        ∙ ap (λ n. filter of (places n)) told-long
        ∙ filter_same of (λ r. has r && own r) (places (length nodes)) (each_place_below (length nodes) (λ r. of r ≡ (has r && own r)) one)
        ∙ sym (filter_twice has own (places (length nodes)))

  -- what is kept by these numbers is kept of the numbers of nodes
  pub folds-of : {P K : Type 0} (kind : P → K) (stands : P → List (Value × ℕ) → Type 0) (vs : List Value) (all own : List P) → (so : ArePartialsBy kind stands vs told (length numbers + 1) all) → own ≡ take (length numbers) all
      → AreFolds kind stands so.of numbers nodes vs (length numbers) (length nodes) own
  folds-of kind stands vs all own so e =
      let size = so.size in
      record {
        size = ap length e ∙ length-take-le (length numbers) all (omega (arith, size));
        each = λ j d h.
            let there : j < length numbers + 1 = omega (arith, h) in
            let is : get_or own j d ≡ get_or all j d = ap (λ l. get_or l j d) e ∙ get_or-take (length numbers) all j d h in
            let kept = so.each j d there in
            record {
              kind_is = ap kind is ∙ so.kinds j d there;
              list = kept.0;
              stands_so = subst (λ p. stands p kept.0) (sym is) kept.1;
              same = reorders-same (kept.2 ∙ ap (at_places vs) (numbered-rows j h));
            };
      }
