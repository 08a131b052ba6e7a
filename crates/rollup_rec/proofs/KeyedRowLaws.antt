-- The groups at a node are those of its rows' key lists, the rows in their order.
use Rattle.std.proofs.Common.{◌≡◌, ℕ, zero, suc, ◌+◌, ◌≤◌, Bool, true, false, cond, List, [], ◌∷◌, ◌++◌, length, filter, map, take, get_or, refl, sym, ap, ◌∙◌, arith, Option}
use Rattle.std.proofs.lemmas.List.{get_or_default, map-append, take_all}
use Rattle.std.specs.List.{All}
use Rattle.std.proofs.lemmas.List.Elements.{All-head, All-tail, filter-append}
use Rattle.edm_values.specs.declared.Value.{Value}
use Rattle.edm_values.specs.Lists.{places}
use Rattle.edm_data.specs.Hierarchies.{rows_under}
use Rattle.par_stages.specs.Placed.{placed}
use Rattle.par_stages.proofs.Places.{placed-more}
use Rattle.aggregate_ops.specs.KeyTables.{IsWide, groups_of}
use Rattle.rollup_rec.specs.Rollups.{groups_under, is_row_under}
use Rattle.rollup_rec.specs.RowTables.{keyed_rows}

-- of the first rows, those that pass, with their key lists
passing-rows : (q : ℕ → Bool) (keys : List (List Value)) (m : ℕ) → m ≤ length keys → filter (λ k. q k.1) (placed 0 (take m keys)) ≡ keyed_rows keys (filter q (places m))
passing-rows q keys zero h = refl
passing-rows q keys (suc m) h =
    let one : suc m ≡ m + 1 = omega arith in
    let at : List (List Value × ℕ) = (get_or keys m [], m) ∷ [] in
    ap (λ n. filter (λ k. q k.1) (placed 0 (take n keys))) one
    ∙ ap (filter (λ k. q k.1)) (sym (placed-more m keys (get_or keys m []) (omega arith) (get_or_default keys m [] (get_or keys m []) (omega arith))))
    ∙ filter-append (λ k. q k.1) (placed 0 (take m keys)) at
    ∙ ap (λ l. l ++ filter (λ k. q k.1) at) (passing-rows q keys m (omega arith))
    ∙ ap (λ l. keyed_rows keys (filter q (places m)) ++ l) (last (q m))
    ∙ sym (map-append (λ r. (get_or keys r [], r)) (filter q (places m)) (filter q (m ∷ [])))
    ∙ ap (keyed_rows keys) (sym (filter-append q (places m) (m ∷ [])))
  where
    last : (b : Bool) → cond b ((get_or keys m [], m) ∷ []) [] ≡ keyed_rows keys (cond b (m ∷ []) [])
    last true = refl
    last false = refl

-- the groups at a node, from the places of its rows
pub groups-of_rows_under : (parents nodes : List (Option ℕ)) (keys : List (List Value)) (x : ℕ) → length keys ≡ length nodes → groups_of (keyed_rows keys (rows_under parents x nodes)) ≡ groups_under parents nodes keys x
groups-of_rows_under parents nodes keys x size =
    ap groups_of (
    ap (λ n. keyed_rows keys (filter (is_row_under parents nodes x) (places n))) (sym size)
    ∙ sym (passing-rows (is_row_under parents nodes x) keys (length keys) (omega arith))
    ∙ ap (λ l. filter (λ k. is_row_under parents nodes x k.1) (placed 0 l)) (take_all (length keys) keys (omega arith))
    )

-- ---- key lists without values

bare : (k : List Value) → length k ≡ 0 → k ≡ []
bare [] e = refl
bare (v ∷ k) e = absurd (omega arith)

bare-at : (keys : List (List Value)) (r : ℕ) → All (IsWide 0) keys → get_or keys r [] ≡ []
bare-at [] zero a = refl
bare-at [] (suc r) a = refl
bare-at (k ∷ keys) zero a = bare k (All-head (IsWide 0) k keys a)
bare-at (k ∷ keys) (suc r) a = bare-at keys r (All-tail (IsWide 0) k keys a)

pub keyless-rows : (keys : List (List Value)) (rows : List ℕ) → All (IsWide 0) keys → keyed_rows keys rows ≡ map (λ r. ([], r)) rows
keyless-rows keys [] a = refl
keyless-rows keys (r ∷ rows) a = λ i. (bare-at keys r a i, r) ∷ keyless-rows keys rows a i
