-- The rows of a node's interval are those at or below it.
use Rattle.std.proofs.Common.{◌≡◌, ℕ, ◌+◌, ◌<◌, ◌≤◌, true, false, not, ◌&&◌, List, length, get_or, drop, take, filter, ltb, map, refl, sym, ◌∙◌, ap, subst, arith, ⊎_elim, Option, Some, None, IfSome}
use Rattle.std.specs.Prelude.{nat_le, nat_lt, slice_get, slice_index, slice_index_or}
use Rattle.std.specs.List.{All}
use Rattle.std.specs.Option.{option_map, unwrap_or}
use Rattle.std.proofs.lemmas.Bool.{cases_lt, le-leb, le-ltb, lt-leb, lt-ltb, ltb-true}
use Rattle.std.proofs.lemmas.List.{get_or-map, length-map}
use Rattle.std.proofs.lemmas.List.Elements.{All-drop, All-take}
use Rattle.std.proofs.lemmas.List.Sorted.{IsStrictWeakOrder-by_number}
use Rattle.std.proofs.lemmas.Option.{slice_get-get_or, unwrap_or-slice_get}
use Rattle.edm_values.specs.declared.Method.{Method}
use Rattle.edm_values.specs.declared.Value.{Value}
use Rattle.edm_values.specs.Lists.{at_places, places}
use Rattle.edm_values.proofs.ListFacts.{all-at}
use Rattle.edm_values.proofs.Reorderings.{Reorders, reorders-back, reorders-filter, reorders-same}
use Rattle.edm_values.proofs.SortedLists.{reorders-sorted}
use Rattle.edm_data.specs.Hierarchies.{is_under, rows_under, rows_whose}
use Rattle.hier_index.specs.Indexes.{AreIntervals}
use Rattle.hier_index.proofs.WalkLaws.{filter_same, each_place_below}
use Rattle.apply_meaning.specs.Aggregates.{aggregate}
use Rattle.rollup_rec.proofs.NodeRowLaws.{between, filter_twice, rows_within}
use Rattle.rollup_rec.specs.NodeFolds.{AreAggregates, is_between, rows_between}
use Rattle.rollup_rec.specs.NodeRows.{IsByNumber, row_number}

upto : (n l : ℕ) → nat_lt n (l + 1) ≡ nat_le n l
upto n l = ⊎_elim
    (λ (less : n < l + 1). lt-ltb n (l + 1) less ∙ sym (le-leb n l (omega (arith, less))))
    (λ (more : l + 1 ≤ n). le-ltb n (l + 1) more ∙ sym (lt-leb n l (omega (arith, more))))
    (cases_lt n (l + 1))

module _ (parents : List (Option ℕ)) (numbers lasts : List ℕ) (so : AreIntervals parents numbers lasts) (nodes : List (Option ℕ)) (within : All (λ n. IfSome n (λ y. y < length parents)) nodes) where
  module _ (x : ℕ) (hx : x < length parents) where
    test : (o : Option ℕ) → ((y : ℕ) → o ≡ Some y → y < length parents)
        → (unwrap_or (option_map (λ y. true) o) false && is_between (slice_index numbers x) (slice_index lasts x + 1) (slice_index numbers (unwrap_or o 0))) ≡ unwrap_or (option_map (is_under parents x) o) false
    test None h = refl
    test (Some y) h = (λ i. nat_le (slice_index numbers x) (slice_index numbers y) && upto (slice_index numbers y) (slice_index lasts x) i) ∙ sym (so.under x y hx (h y refl))

    node_below : (r : ℕ) → r < length nodes → (y : ℕ) → unwrap_or (slice_get nodes r) None ≡ Some y → y < length parents
    node_below r h y e =
        let P : Option ℕ → Type 0 = λ o. IfSome o (λ y. y < length parents) in
        subst P (sym (unwrap_or-slice_get nodes r None) ∙ e) (within r None h)

    rows-under : rows_between numbers nodes (slice_index numbers x) (slice_index lasts x + 1) ≡ rows_under parents x nodes
    rows-under =
        let has = λ (r : ℕ). unwrap_or (option_map (λ y. true) (unwrap_or (slice_get nodes r) None)) false in
        let inner = λ (r : ℕ). is_between (slice_index numbers x) (slice_index lasts x + 1) (row_number numbers nodes r) in
        let under = λ (r : ℕ). unwrap_or (option_map (is_under parents x) (unwrap_or (slice_get nodes r) None)) false in
        filter_twice has inner (places (length nodes))
        ∙ filter_same (λ r. has r && inner r) under (places (length nodes)) (each_place_below (length nodes) (λ r. (has r && inner r) ≡ under r) (λ r h. test (unwrap_or (slice_get nodes r) None) (node_below r h)))

  -- the aggregates by the numbers of nodes are those at and below the nodes
  pub value-under : (m : Method) (vs found : List Value) → AreAggregates m numbers lasts nodes vs found → (x : ℕ) → x < length parents
      → slice_index_or (map (λ k. slice_index_or found k Value.Null) numbers) x Value.Null ≡ aggregate m (at_places vs (rows_under parents x nodes))
  value-under m vs found told x hx =
      let size = so.numbers_size in
      let there : x < length numbers = omega (arith, hx, size) in
      get_or-map (λ k. slice_index_or found k Value.Null) numbers x 0 Value.Null there
      ∙ told.each x Value.Null there
      ∙ ap (λ rs. aggregate m (at_places vs rs)) (rows-under x hx)

  pub size-under : (found : List Value) → length (map (λ k. slice_index_or found k Value.Null) numbers) ≡ length parents
  size-under found = length-map numbers (λ k. slice_index_or found k Value.Null) ∙ so.numbers_size

-- the run of an interval, whatever its order, has the rows between its numbers
pub run-between : (numbers : List ℕ) (nodes : List (Option ℕ)) (rows : List ℕ) → IsByNumber numbers nodes rows → (a l : ℕ)
    → Reorders (filter (λ r. not (nat_lt (row_number numbers nodes r) a)) (filter (λ r. nat_le (row_number numbers nodes r) l) rows)) (rows_between numbers nodes a (l + 1))
run-between numbers nodes rows ordered a l =
    let number = row_number numbers nodes in
    let all : List ℕ = rows_whose (λ y. true) nodes in
    let same : Reorders rows all = Reorders.join (reorders-same ordered.same) (reorders-back (reorders-sorted (λ r s. ltb (number r) (number s)) (IsStrictWeakOrder-by_number number) all)) in
    let test : (r : ℕ) → (nat_le (number r) l && not (nat_lt (number r) a)) ≡ is_between a (l + 1) (number r) = λ r. between (number r) a l ∙ ap (λ b. nat_le a (number r) && b) (sym (upto (number r) l)) in
    Reorders.join (reorders-filter (λ r. not (nat_lt (number r) a)) (reorders-filter (λ r. nat_le (number r) l) same))
    (reorders-same (filter_twice (λ r. nat_le (number r) l) (λ r. not (nat_lt (number r) a)) all ∙ (λ i. filter (λ r. test r i) all)))

-- it has places of rows
pub run-within : (numbers : List ℕ) (nodes : List (Option ℕ)) (rows : List ℕ) → IsByNumber numbers nodes rows → (b n : ℕ) → All (λ r. r < length nodes) (take n (drop b rows))
run-within numbers nodes rows ordered b n' =
    let n = length nodes in
    let whole : All (λ r. r < n) rows = λ k d h. ltb-true (get_or rows k d) n (all-at (λ r. nat_lt r n) rows k (get_or rows k d) (rows_within numbers nodes rows ordered) (slice_get-get_or rows k d h)) in
    All-take (λ r. r < n) n' (drop b rows) (All-drop (λ r. r < n) b rows whole)
