-- The rows of a number, from one row to the next.
use Rattle.std.proofs.Common.{◌≡◌, ℕ, suc, ◌+◌, ◌≤◌, Bool, true, false, cond, List, [], ◌∷◌, ◌++◌, ◌==◌, length, filter, ◌∙◌, ap, arith, Option, Some, None, option_map, unwrap_or}
use Rattle.std.specs.Prelude.{slice_get, slice_index}
use Rattle.std.proofs.lemmas.List.{append-nil}
use Rattle.std.proofs.lemmas.List.Elements.{filter-append}
use Rattle.edm_values.specs.Lists.{places}
use Rattle.edm_values.proofs.TopPlaces.{length-places}
use Rattle.rollup_rec.specs.NodeRows.{row_number, rows_at}
use Rattle.rollup_rec.proofs.NodeFoldLaws.{filter-few}

module _ (numbers : List ℕ) (nodes : List (Option ℕ)) where
  abbrev pub has_node : ℕ → Bool
  has_node r = unwrap_or (option_map (λ y. true) (unwrap_or (slice_get nodes r) None)) false

  pub rows-more : (row k : ℕ) → rows_at numbers nodes (row + 1) k ≡ rows_at numbers nodes row k ++ filter (λ r. row_number numbers nodes r == k) (filter has_node (row ∷ []))
  rows-more row k =
      let one : row + 1 ≡ suc row = omega arith in
      ap (λ n. rows_at numbers nodes n k) one
      ∙ ap (filter (λ r. row_number numbers nodes r == k)) (filter-append has_node (places row) (row ∷ []))
      ∙ filter-append (λ r. row_number numbers nodes r == k) (filter has_node (places row)) (filter has_node (row ∷ []))

  pub row-without : (row k : ℕ) → slice_get nodes row ≡ Some None → rows_at numbers nodes (row + 1) k ≡ rows_at numbers nodes row k
  row-without row k none =
      rows-more row k
      ∙ ap (λ l. rows_at numbers nodes row k ++ l) (ap (λ o. filter (λ r. row_number numbers nodes r == k) (cond (unwrap_or (option_map (λ y. true) (unwrap_or o None)) false) (row ∷ []) [])) none)
      ∙ append-nil (rows_at numbers nodes row k)

  pub row-with : (row k y : ℕ) → slice_get nodes row ≡ Some (Some y) → rows_at numbers nodes (row + 1) k ≡ rows_at numbers nodes row k ++ cond (slice_index numbers y == k) (row ∷ []) []
  row-with row k y node =
      rows-more row k
      ∙ ap (λ l. rows_at numbers nodes row k ++ l)
      (ap (λ o. filter (λ r. row_number numbers nodes r == k) (cond (unwrap_or (option_map (λ y. true) (unwrap_or o None)) false) (row ∷ []) [])) node
      ∙ ap (λ m. cond (m == k) (row ∷ []) []) (ap (λ o. slice_index numbers (unwrap_or (unwrap_or o None) 0)) node))

  -- there are no more of them than rows
  pub at-few : (row k : ℕ) → length (rows_at numbers nodes row k) ≤ row
  at-few row k =
      let a = filter-few (λ r. row_number numbers nodes r == k) (filter has_node (places row)) in
      let b = filter-few has_node (places row) in
      let c = length-places row in
      omega (arith, a, b, c)
