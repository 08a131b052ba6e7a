-- The distinct values of the rows of an interval.
use Rattle.std.proofs.Common.{◌≡◌, ◌≢◌, ◌∙◌, ℕ, ◌+◌, ◌-◌, ◌<◌, Bool, true, false, not, List, [], ◌∷◌, ◌++◌, Option, length, get_or, drop, take, filter, map, refl, sym, ap, subst, arith, ⊎_elim, get_or-set_same, get_or-set_other}
use Rattle.std.specs.Prelude.{All, nat_eq, nat_le, nat_lt, pos, set, slice_get, slice_index}
use Rattle.std.specs.Cmp.{unsigned_Decides}
use Rattle.std.proofs.lemmas.Bool.{cases_eq}
use Rattle.std.proofs.lemmas.List.{get_or_append_left, get_or_push}
use Rattle.edm_values.specs.declared.Method.TheVariants as by
use Rattle.edm_values.specs.declared.Value.{Value}
use Rattle.edm_values.specs.Lists.{at_places, distinct}
use Rattle.edm_values.specs.Values.{is_null, same_value, value_in}
use Rattle.edm_values.proofs.Reorderings.{reorders-filter_map}
use Rattle.edm_values.proofs.ValueOrders.{same_value_tests}
use Rattle.apply_meaning.proofs.AggregateOrders.{aggregate-reorders}
use Rattle.apply_meaning.specs.Aggregates.{aggregate}
use Rattle.value_codes.specs.Codes.{AreCodes, CodeList}
use Rattle.rollup_rec.specs.NodeDistincts.{AreToldBy}
use Rattle.rollup_rec.specs.NodeFolds.{AreLasts, rows_between}
use Rattle.rollup_rec.specs.NodeRows.{IsByNumber, row_number}
use Rattle.rollup_rec.proofs.DistinctCounts.{counted}
use Rattle.rollup_rec.proofs.UnderLaws.{run-between, run-within}

-- how many numbers that are not those of nulls these rows have
abbrev pub many_among : List ℕ → List Bool → List ℕ → ℕ
many_among told nulls run = length (filter (λ k. not (get_or nulls k false)) (distinct nat_eq (map (λ r. slice_index told r) run)))

-- the values of the rows of an interval are counted by their numbers
pub run-counted : (vs : List Value) (codes : CodeList) (nulls : List Bool) → AreToldBy vs codes nulls → (numbers : List ℕ) (nodes : List (Option ℕ)) (rows : List ℕ) → IsByNumber numbers nodes rows → length codes.codes ≡ length nodes → (a l b n : ℕ)
    → take n (drop b rows) ≡ filter (λ r. not (nat_lt (row_number numbers nodes r) a)) (filter (λ r. nat_le (row_number numbers nodes r) l) rows)
    → Value.Int (pos (many_among codes.codes nulls (take n (drop b rows)))) ≡ aggregate by.CountDistinct (at_places vs (rows_between numbers nodes a (l + 1)))
run-counted vs codes nulls so numbers nodes rows ordered size a l b n is =
    let long : length nodes ≡ length vs = sym size ∙ so.codes_are.size in
    let within : All (λ r. r < length vs) (take n (drop b rows)) = subst (λ m. All (λ r. r < m) (take n (drop b rows))) long (run-within numbers nodes rows ordered b n) in
    sym (counted vs codes nulls so (take n (drop b rows)) within)
    ∙ ap (λ rs. aggregate by.CountDistinct (at_places vs rs)) is
    ∙ aggregate-reorders by.CountDistinct (reorders-filter_map (slice_get vs) (run-between numbers nodes rows ordered a l))

-- what is found of the numbers before n
abbrev pub AreCountedTo : List Value → List ℕ → List ℕ → List (Option ℕ) → ℕ → List Value → Type 0
AreCountedTo vs numbers lasts nodes n found = (x : ℕ) (d : Value) → x < length numbers → slice_index numbers x < n
    → get_or found (slice_index numbers x) d ≡ aggregate by.CountDistinct (at_places vs (rows_between numbers nodes (slice_index numbers x) (slice_index lasts x + 1)))

-- one number more
pub counted-more : (vs : List Value) (numbers lasts : List ℕ) (nodes : List (Option ℕ)) (n : ℕ) (found found' : List Value) (v : Value) (ends : List ℕ) (last : ℕ) → AreLasts numbers lasts (length numbers) ends → length found ≡ n → found' ≡ found ++ v ∷ [] → last ≡ slice_index ends n
    → v ≡ aggregate by.CountDistinct (at_places vs (rows_between numbers nodes n (last + 1))) → AreCountedTo vs numbers lasts nodes n found → AreCountedTo vs numbers lasts nodes (n + 1) found'
counted-more vs numbers lasts nodes n found found' v ends last told long grown last-is own so = λ x d hx less.
    let k = slice_index numbers x in
    ⊎_elim
    (λ (e : k ≡ n).
    let ends-is : last ≡ slice_index lasts x = last-is ∙ ap (slice_index ends) (sym e) ∙ told.known x hx in
    (λ i. get_or (grown i) (e i) d)
    ∙ get_or_push found v d n long
    ∙ own
    ∙ (λ i. aggregate by.CountDistinct (at_places vs (rows_between numbers nodes (sym e i) (ends-is i + 1)))))
    (λ (ne : k ≢ n).
    let before : k < n = omega (arith, less, ne) in
    ap (λ l. get_or l k d) grown ∙ get_or_append_left found (v ∷ []) d k (omega (arith, before, long)) ∙ so x d hx before)
    (cases_eq k n)

-- ---- numbers of nulls

-- the values of one number are null together
pub nulls-more : (vs : List Value) (codes : CodeList) → AreCodes vs codes → (nulls : List Bool) (row : ℕ) (d : Value) → row < length vs → slice_index codes.codes row < length nulls
    → ((i : ℕ) → i < row → get_or nulls (get_or codes.codes i 0) false ≡ is_null (value_in vs i))
    → (i : ℕ) → i < row + 1 → get_or (set nulls (slice_index codes.codes row) (is_null (value_in vs row))) (get_or codes.codes i 0) false ≡ is_null (value_in vs i)
nulls-more vs codes so nulls row d hr there before i less =
    let k = slice_index codes.codes row in
    let j = get_or codes.codes i 0 in
    let hi : i < length vs = omega (arith, less, hr) in
    ⊎_elim
    (λ (e : j ≡ k).
    let tests : same_value (value_in vs i) (value_in vs row) ≡ true = so.same i row hi hr ∙ ap (λ m. nat_eq m k) e ∙ (unsigned_Decides k k).1 refl in
    ap (λ m. get_or (set nulls k (is_null (value_in vs row))) m false) e
    ∙ get_or-set_same nulls k (is_null (value_in vs row)) false there
    ∙ ap is_null (sym (same_value_tests.same (value_in vs i) (value_in vs row) tests)))
    (λ (ne : j ≢ k).
    let other : i ≢ row = λ e. ne (ap (λ m. get_or codes.codes m 0) e) in
    get_or-set_other nulls k j (is_null (value_in vs row)) false ne ∙ before i (omega (arith, less, other)))
    (cases_eq j k)
