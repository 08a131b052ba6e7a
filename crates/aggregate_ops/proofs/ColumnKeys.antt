-- Key lists whose values stand in columns: a function's values on items and paths, a column for each path.
use Rattle.std.proofs.Common.{◌≡◌, ◌<◌, ◌≤◌, ◌∙◌, ℕ, zero, suc, List, [], ◌∷◌, ◌++◌, add-one, ap, arith, get_or, length, map, refl, subst, sym, take}
use Rattle.std.specs.Prelude.{All}
use Rattle.std.specs.Global.{Vec}
use Rattle.std.proofs.lemmas.List.{get_or-map, length-map, map-append, take_all, take_more}
use Rattle.std.proofs.lemmas.List.Elements.{All-cons, All-map, All-nil}
use Rattle.std.proofs.lemmas.Simd.{map-map}
use Rattle.edm_values.proofs.SearchFacts.{cons-head, cons-tail}
use Rattle.edm_values.proofs.TopPlaces.{length-places}
use Rattle.edm_values.specs.declared.Seen.{Seen}
use Rattle.edm_values.specs.declared.Value.{Value}
use Rattle.edm_values.specs.Lists.{places}
use Rattle.edm_values.specs.Values.{seen_value}
use Rattle.aggregate_ops.specs.Columns.{column_values, key_at, key_rows}
use Rattle.aggregate_ops.specs.KeyTables.{IsWide}

-- the value of each column at a place
abbrev across : List (List Value) → ℕ → List Value
across cs k = map (λ c. get_or c k Value.Null) cs

rows-across : (columns : List (Vec Seen)) (n : ℕ) → key_rows columns n ≡ map (across (map column_values columns)) (places n)
rows-across columns n = λ i. map (λ k. sym (map-map (λ c. get_or c k Value.Null) column_values columns) i) (places n)

-- each key list has a value of each column
pub rows-wide : (columns : List (Vec Seen)) (n : ℕ) → All (IsWide (length columns)) (key_rows columns n)
rows-wide columns n = All-map (IsWide (length columns)) (key_at columns) (places n) (λ i d h. length-map columns (λ c. get_or (column_values c) (get_or (places n) i d) Value.Null))

-- there are as many as are asked for
pub length-rows : (columns : List (Vec Seen)) (n : ℕ) → length (key_rows columns n) ≡ n
length-rows columns n = length-map (places n) (key_at columns) ∙ length-places n

module _ {X P : Type 0} (g : X → P → Value) where
  -- the columns of the values on items
  abbrev columns_of : List P → List X → List (List Value)
  columns_of ps xs = map (λ p. map (λ x. g x p) xs) ps

  at-item : (ps : List P) (xs : List X) (k : ℕ) (d : X) → k < length xs → across (columns_of ps xs) k ≡ map (g (get_or xs k d)) ps
  at-item [] xs k d h = refl
  at-item (p ∷ ps) xs k d h = λ i. get_or-map (λ x. g x p) xs k d Value.Null h i ∷ at-item ps xs k d h i

  up-to : (ps : List P) (xs : List X) (d : X) (n : ℕ) → n ≤ length xs → map (across (columns_of ps xs)) (places n) ≡ map (λ x. map (g x) ps) (take n xs)
  up-to ps xs d zero h = refl
  up-to ps xs d (suc n) h =
      map-append (across (columns_of ps xs)) (places n) (n ∷ [])
      ∙ (λ i. up-to ps xs d n (omega arith) i ++ at-item ps xs n d (omega arith) i ∷ [])
      ∙ sym (map-append (λ x. map (g x) ps) (take n xs) (get_or xs n d ∷ []))
      ∙ ap (map (λ x. map (g x) ps)) (sym (take_more xs n d (omega arith)))
      ∙ ap (λ m. map (λ x. map (g x) ps) (take m xs)) (add-one n)

  all-across : (ps : List P) (xs : List X) → map (across (columns_of ps xs)) (places (length xs)) ≡ map (λ x. map (g x) ps) xs
  all-across ps [] = refl
  all-across ps (x ∷ xs) = up-to ps (x ∷ xs) x (length (x ∷ xs)) (omega arith) ∙ ap (map (λ x. map (g x) ps)) (take_all (length (x ∷ xs)) (x ∷ xs) (omega arith))

  sized : (ps : List P) (xs : List X) (columns : List (Vec Seen)) → map column_values columns ≡ columns_of ps xs → All (λ c. length c.items ≡ length xs) columns
  sized ps xs [] e = All-nil (λ (c : Vec Seen). length c.items ≡ length xs)
  sized [] xs (c ∷ columns) e = absurd (cc)
  sized (p ∷ ps) xs (c ∷ columns) e =
      All-cons (λ (c : Vec Seen). length c.items ≡ length xs) c columns
      (sym (length-map c.items seen_value) ∙ ap length (cons-head e) ∙ length-map xs (λ x. g x p))
      (sized ps xs columns (cons-tail e))

  module _ (ps : List P) (xs : List X) (columns seen : List (Vec Seen)) (n : ℕ) (are : map column_values columns ≡ columns_of ps xs) (same : seen ≡ columns) (size : n ≡ length xs) where
    -- each column has so many values
    pub long-enough : All (λ c. n ≤ length c.items) seen
    long-enough =
        let long = sized ps xs columns are in
        let Q : List (Vec Seen) → Type 0 = λ cs. All (λ c. n ≤ length c.items) cs in
        subst Q (sym same) (λ i d h. let e = long i d h in omega arith)

    -- there is a column for each path
    pub as-many : length seen ≡ length ps
    as-many = ap length same ∙ sym (length-map columns column_values) ∙ ap length are ∙ length-map ps (λ p. map (λ x. g x p) xs)

    -- the key lists are those of the items
    pub keys-right : key_rows seen n ≡ map (λ x. map (g x) ps) xs
    keys-right =
        (λ i. key_rows (same i) (size i)) ∙ rows-across columns (length xs)
        ∙ (λ i. map (across (are i)) (places (length xs)))
        ∙ all-across ps xs
