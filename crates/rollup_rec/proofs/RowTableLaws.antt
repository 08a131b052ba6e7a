-- Tables of the key lists of rows: one row more, and the rows of a later table behind those of a table.
use Rattle.std.proofs.Common.{◌≡◌, ℕ, ◌<◌, List, [], ◌∷◌, ◌++◌, length, map, get_or, sym, ap, ◌∙◌, arith, subst, length-append}
use Rattle.std.proofs.lemmas.List.{get_or_read, map-append}
use Rattle.edm_values.specs.declared.Value.{Value}
use Rattle.aggregate_ops.specs.KeyTables.{TableState, ArePlacesOf}
use Rattle.rollup_rec.specs.RowTables.{IsRowTableOf, RowTableState, keyed_rows}

-- rows behind others
keyed_rows-append : (keys : List (List Value)) (xs ys : List (ℕ × ℕ)) → keyed_rows keys (map (λ (x : ℕ × ℕ). x.0) (xs ++ ys)) ≡ keyed_rows keys (map (λ (x : ℕ × ℕ). x.0) xs) ++ keyed_rows keys (map (λ (x : ℕ × ℕ). x.0) ys)
keyed_rows-append keys xs ys =
    ap (keyed_rows keys) (map-append (λ (x : ℕ × ℕ). x.0) xs ys)
    ∙ map-append (λ (r : ℕ). (get_or keys r [], r)) (map (λ (x : ℕ × ℕ). x.0) xs) (map (λ (x : ℕ × ℕ). x.0) ys)

-- one row more
pub IsRowTableOf-next : (s : RowTableState) (table : TableState) (key : List Value) (row place : ℕ) (xs : List (ℕ × ℕ)) → row < length s.keys → key ≡ get_or s.keys row key
    → ((us : List (List Value × ℕ)) → ArePlacesOf s.table us → ArePlacesOf table (us ++ (key, row) ∷ [])) → IsRowTableOf s xs → IsRowTableOf (record { keys = s.keys; table = table }) (xs ++ (row, place) ∷ [])
IsRowTableOf-next s table key row place xs there is added h =
    let rows : List (List Value × ℕ) = keyed_rows s.keys (map (λ (x : ℕ × ℕ). x.0) xs) in
    let both : ArePlacesOf table (rows ++ (key, row) ∷ []) = added rows h.table_is in
    let at : key ≡ get_or s.keys row [] = get_or_read s.keys row key there is [] in
    let own : rows ++ (key, row) ∷ [] ≡ keyed_rows s.keys (map (λ (x : ℕ × ℕ). x.0) (xs ++ (row, place) ∷ [])) = ap (λ k. rows ++ (k, row) ∷ []) at ∙ sym (keyed_rows-append s.keys xs ((row, place) ∷ [])) in
    record {
      count_is = omega (arith, length-append xs ((row, place) ∷ []), length-append rows ((key, row) ∷ []), h.count_is, h.table_is.count_is, both.count_is);
      table_is = subst (ArePlacesOf table) own both;
    }

-- a later table was added to a table
pub IsRowTableOf-append : (s t : RowTableState) (table : TableState) (xs ys : List (ℕ × ℕ)) → t.keys ≡ s.keys
    → ((us vs : List (List Value × ℕ)) → ArePlacesOf s.table us → ArePlacesOf t.table vs → ArePlacesOf table (us ++ vs)) → IsRowTableOf s xs → IsRowTableOf t ys
    → IsRowTableOf (record { keys = s.keys; table = table }) (xs ++ ys)
IsRowTableOf-append s t table xs ys same merged h k =
    let rows : List (List Value × ℕ) = keyed_rows s.keys (map (λ (x : ℕ × ℕ). x.0) xs) in
    let later : List (List Value × ℕ) = keyed_rows t.keys (map (λ (x : ℕ × ℕ). x.0) ys) in
    let both : ArePlacesOf table (rows ++ later) = merged rows later h.table_is k.table_is in
    let own : rows ++ later ≡ keyed_rows s.keys (map (λ (x : ℕ × ℕ). x.0) (xs ++ ys)) = ap (λ keys. rows ++ keyed_rows keys (map (λ (x : ℕ × ℕ). x.0) ys)) same ∙ sym (keyed_rows-append s.keys xs ys) in
    record {
      count_is = omega (arith, length-append xs ys, length-append rows later, h.count_is, k.count_is, h.table_is.count_is, k.table_is.count_is, both.count_is);
      table_is = subst (ArePlacesOf table) own both;
    }
