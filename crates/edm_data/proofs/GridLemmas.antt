-- Rows that are kept by column.
use Rattle.std.proofs.Common.{◌≡◌, ℕ, zero, suc, ◌+◌, ◌<◌, ◌≤◌, List, [], ◌∷◌, ◌++◌, length, get_or, set, map, refl, sym, ◌∙◌, ap, arith, ⊎_elim, Some, add-one, length-append}
use Rattle.std.specs.Option.{option_map, unwrap_or}
use Rattle.std.specs.List.{slice_get}
use Rattle.std.proofs.lemmas.List.{length-map}
use Rattle.std.proofs.lemmas.Option.{slice_get-map, slice_get-get_or, slice_get_past, slice_get_read}
use Rattle.std.proofs.lemmas.Bool.{cases_lt}
use Rattle.edm_values.specs.Lists.{places}
use Rattle.edm_values.specs.Values.{value_in}
use Rattle.edm_values.specs.declared.Value.{Value}
use Rattle.edm_data.specs.Columns.{ValueList, grid_of, row_at, AreColumns}
use Rattle.edm_values.proofs.TopPlaces.{length-places}
use Rattle.edm_values.proofs.ListFacts.{slice_get-last}
use Rattle.edm_values.proofs.PlaceFacts.{map-agree_places}
use Rattle.edm_data.proofs.PlaceLemmas.{get_or-places, slice_get-push_before}
use Rattle.edm_data.proofs.ColumnLemmas.{map_places_more}

pub grid_count : (cs : List ValueList) (n : ℕ) → length ((grid_of cs n).rows) ≡ n
grid_count cs n = length-map (places n) (row_at cs) ∙ length-places n

past_end : (c : ValueList) (k : ℕ) → length c ≤ k → value_in c k ≡ Value.Null
past_end c k h = ap (λ o. unwrap_or o Value.Null) (slice_get_past c k h)

-- ---- the value at a place of a row

grid_row : (cs : List ValueList) (n k : ℕ) → k < n → unwrap_or (slice_get (map (row_at cs) (places n)) k) [] ≡ row_at cs k
grid_row cs n k less =
    let first : k < length (places n) = rw (length-places n) less in
    ap (λ o. unwrap_or o []) (slice_get-map (row_at cs) (places n) k ∙ ap (option_map (row_at cs)) (slice_get-get_or (places n) k 0 first ∙ ap Some (get_or-places n k 0 less)))

row_value : (cs : List ValueList) (k p : ℕ) → value_in (row_at cs k) p ≡ unwrap_or (option_map (λ c. value_in c k) (slice_get cs p)) Value.Null
row_value cs k p = ap (λ o. unwrap_or o Value.Null) (slice_get-map (λ c. value_in c k) cs p)

no_value : (cs : List ValueList) (n k p : ℕ) → AreColumns cs n → n ≤ k → unwrap_or (option_map (λ c. value_in c k) (slice_get cs p)) Value.Null ≡ Value.Null
no_value [] n k p all past = refl
no_value (c ∷ cs) n k zero all past = past_end c k (rw all.0 past)
no_value (c ∷ cs) n k (suc p) all past = no_value cs n k p all.1 past

pub grid_value : (cs : List ValueList) (n k p : ℕ) → AreColumns cs n → value_in (unwrap_or (slice_get ((grid_of cs n).rows) k) []) p ≡ unwrap_or (option_map (λ c. value_in c k) (slice_get cs p)) Value.Null
grid_value cs n k p all = ⊎_elim
    (λ less. ap (λ r. value_in r p) (grid_row cs n k less) ∙ row_value cs k p)
    (λ more. ap (λ o. value_in (unwrap_or o []) p) (slice_get_past ((grid_of cs n).rows) k (rw (grid_count cs n) more)) ∙ sym (no_value cs n k p all more))
    (cases_lt k n)

-- ---- one row more

-- columns of which the first p have one value more
pub grown : ℕ → List ValueList → List Value → List ValueList
grown zero cs vs = cs
grown (suc p) [] vs = []
grown (suc p) (c ∷ cs) [] = c ∷ cs
grown (suc p) (c ∷ cs) (v ∷ vs) = (c ++ v ∷ []) ∷ grown p cs vs

pub grown-none : (cs : List ValueList) (vs : List Value) → grown 0 cs vs ≡ cs
unfolding grown
grown-none cs vs = refl

pub grown-length : (p : ℕ) (cs : List ValueList) (vs : List Value) → length (grown p cs vs) ≡ length cs
unfolding grown
grown-length zero cs vs = refl
grown-length (suc p) [] vs = refl
grown-length (suc p) (c ∷ cs) [] = refl
grown-length (suc p) (c ∷ cs) (v ∷ vs) = ap suc (grown-length p cs vs)

pub grown-next : (p : ℕ) (cs : List ValueList) (vs : List Value) (d : ValueList) → p < length cs → get_or (grown p cs vs) p d ≡ get_or cs p d
unfolding grown
grown-next zero cs vs d h = refl
grown-next (suc p) [] vs d h = refl
grown-next (suc p) (c ∷ cs) [] d h = refl
grown-next (suc p) (c ∷ cs) (v ∷ vs) d h = grown-next p cs vs d (omega arith)

grown-suc : (p : ℕ) (cs : List ValueList) (vs : List Value) (d : ValueList) (e : Value) → p < length cs → length vs ≡ length cs → set (grown p cs vs) p (get_or cs p d ++ get_or vs p e ∷ []) ≡ grown (suc p) cs vs
unfolding grown
grown-suc p [] vs d e h size = absurd (omega arith)
grown-suc p (c ∷ cs) [] d e h size = absurd (omega arith)
grown-suc zero (c ∷ cs) (v ∷ vs) d e h size = refl
grown-suc (suc p) (c ∷ cs) (v ∷ vs) d e h size = ap (λ l. (c ++ v ∷ []) ∷ l) (grown-suc p cs vs d e (omega arith) (omega arith))

pub grown-more : (p : ℕ) (cs : List ValueList) (vs : List Value) (d : ValueList) (e : Value) → p < length cs → length vs ≡ length cs → set (grown p cs vs) p (get_or cs p d ++ get_or vs p e ∷ []) ≡ grown (p + 1) cs vs
grown-more p cs vs d e h size = rw add-one (grown-suc p cs vs d e h size)

pub grown-columns : (n k : ℕ) (cs : List ValueList) (vs : List Value) → length cs ≤ k → length vs ≡ length cs → AreColumns cs n → AreColumns (grown k cs vs) (n + 1)
unfolding grown
grown-columns n zero [] vs past size all = tt
grown-columns n (suc k) [] vs past size all = tt
grown-columns n zero (c ∷ cs) vs past size all = absurd (omega arith)
grown-columns n (suc k) (c ∷ cs) [] past size all = absurd (omega arith)
grown-columns n (suc k) (c ∷ cs) (v ∷ vs) past size all = (length-append c (v ∷ []) ∙ ap (λ m. m + 1) all.0, grown-columns n k cs vs (omega arith) (omega arith) all.1)

old_row : (n k j : ℕ) (cs : List ValueList) (vs : List Value) → j < n → AreColumns cs n → row_at (grown k cs vs) j ≡ row_at cs j
unfolding grown
old_row n zero j cs vs less all = refl
old_row n (suc k) j [] vs less all = refl
old_row n (suc k) j (c ∷ cs) [] less all = refl
old_row n (suc k) j (c ∷ cs) (v ∷ vs) less all =
    let first : value_in (c ++ v ∷ []) j ≡ value_in c j = ap (λ o. unwrap_or o Value.Null) (slice_get-push_before c v j (rw all.0 less)) in
    rw (first, old_row n k j cs vs less all.1) refl

new_row : (n k : ℕ) (cs : List ValueList) (vs : List Value) → length cs ≤ k → length vs ≡ length cs → AreColumns cs n → row_at (grown k cs vs) n ≡ vs
unfolding grown
new_row n zero [] [] past size all = refl
new_row n (suc k) [] [] past size all = refl
new_row n zero [] (v ∷ vs) past size all = absurd (omega arith)
new_row n (suc k) [] (v ∷ vs) past size all = absurd (omega arith)
new_row n zero (c ∷ cs) vs past size all = absurd (omega arith)
new_row n (suc k) (c ∷ cs) [] past size all = absurd (omega arith)
new_row n (suc k) (c ∷ cs) (v ∷ vs) past size all =
    let first : value_in (c ++ v ∷ []) n ≡ v = rw (← all.0) (ap (λ o. unwrap_or o Value.Null) (slice_get-last c v)) in
    rw (first, new_row n k cs vs (omega arith) (omega arith) all.1) refl

pub grown-rows : (n k : ℕ) (cs : List ValueList) (vs : List Value) → length cs ≤ k → length vs ≡ length cs → AreColumns cs n → (grid_of (grown k cs vs) (n + 1)).rows ≡ (grid_of cs n).rows ++ vs ∷ []
grown-rows n k cs vs past size all = map_places_more (row_at (grown k cs vs)) n ∙ rw (map-agree_places (row_at (grown k cs vs)) (row_at cs) n (λ j less. old_row n k j cs vs less all), new_row n k cs vs past size all) refl

-- the length of a column
pub column_length : (n p : ℕ) (cs : List ValueList) (c : ValueList) → AreColumns cs n → p < length cs → c ≡ get_or cs p c → length c ≡ n
column_length n p [] c all h is = absurd (omega arith)
column_length n zero (x ∷ cs) c all h is = ap length is ∙ all.0
column_length n (suc p) (x ∷ cs) c all h is = column_length n p cs c all.1 (omega arith) is

-- the value at a place within the columns, and past them
pub grid_value_there : (cs : List ValueList) (n k p : ℕ) (c : ValueList) → AreColumns cs n → p < length cs → c ≡ get_or cs p c → value_in (unwrap_or (slice_get ((grid_of cs n).rows) k) []) p ≡ value_in c k
grid_value_there cs n k p c all within is = grid_value cs n k p all ∙ ap (λ o. unwrap_or (option_map (λ c. value_in c k) o) Value.Null) (slice_get_read cs (length cs) p c refl within is)

pub grid_value_past : (cs : List ValueList) (n k p : ℕ) → AreColumns cs n → length cs ≤ p → value_in (unwrap_or (slice_get ((grid_of cs n).rows) k) []) p ≡ Value.Null
grid_value_past cs n k p all past = grid_value cs n k p all ∙ ap (λ o. unwrap_or (option_map (λ c. value_in c k) o) Value.Null) (slice_get_past cs p past)
