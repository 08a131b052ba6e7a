-- What is kept of the values at the nodes of a hierarchy, which are told by their numbers. The lists of nodes and of values have one entry for each row, a node none where the row has none.
use Rattle.std.specs.Prelude.{◌≡◌, ℕ, ◌+◌, ◌<◌, ◌≤◌, ◌⊎◌, ◌&&◌, Bool, true, List, [], ◌∷◌, ◌++◌, filter, get_or, length, nat_le, nat_lt, slice_index, Option}
use Rattle.edm_values.specs.declared.Method.{Method}
use Rattle.edm_values.specs.declared.Value.{Value}
use Rattle.edm_values.specs.Lists.{at_places}
use Rattle.edm_values.proofs.Reorderings.{Reorders}
use Rattle.edm_data.specs.Hierarchies.{rows_whose}
use Rattle.apply_meaning.specs.Aggregates.{aggregate}
use Rattle.aggregate_ops.specs.Partials as partials
use Rattle.rollup_rec.specs.NodeRows.{row_number, rows_at}

-- the number is at least a, and less than e
abbrev pub is_between : ℕ → ℕ → ℕ → Bool
is_between a e n = nat_le a n && nat_lt n e

-- the rows whose nodes have such a number
abbrev pub rows_between : List ℕ → List (Option ℕ) → ℕ → ℕ → List ℕ
rows_between numbers nodes a e = filter (λ r. is_between a e (row_number numbers nodes r)) (rows_whose (λ y. true) nodes)

-- it is of this kind, and stands for the values at these rows, in some order
pub record HasValues {P K : Type 0} (kind : P → K) (stands : P → List (Value × ℕ) → Type 0) (k : K) (vs : List Value) (rows : List ℕ) (p : P) : Type 0 where
  pub kind_is : kind p ≡ k
  pub list : List (Value × ℕ)
  pub stands_so : stands p list
  pub same : Reorders (partials.values list) (at_places vs rows)

-- what is kept of each number stands for the values at the rows before row n that have it
pub record AreFolds {P K : Type 0} (kind : P → K) (stands : P → List (Value × ℕ) → Type 0) (k : K) (numbers : List ℕ) (nodes : List (Option ℕ)) (vs : List Value) (count n : ℕ) (ps : List P) : Type 0 where
  pub size : length ps ≡ count
  pub each : (j : ℕ) (d : P) → j < count → HasValues kind stands k vs (rows_at numbers nodes n j) (get_or ps j d)

-- what is kept of each number stands for the values at all rows that have it
pub record AreKept {P K : Type 0} (kind : P → K) (stands : P → List (Value × ℕ) → Type 0) (numbers : List ℕ) (nodes : List (Option ℕ)) (ps : List P) : Type 0 where
  pub of : K
  pub vs : List Value
  pub folds : AreFolds kind stands of numbers nodes vs (length numbers) (length nodes) ps

-- it is the last number of the node that has a number, or 0
abbrev pub IsLast : List ℕ → List ℕ → ℕ → ℕ → ℕ → Type 0
IsLast numbers lasts n first last = (last ≡ 0) ⊎ ((x : ℕ) × (x < n) × (slice_index numbers x ≡ first) × (last ≡ slice_index lasts x))

-- the last numbers of the first n nodes stand at their numbers
pub record AreLasts (numbers lasts : List ℕ) (n : ℕ) (found : List ℕ) : Type 0 where
  pub size : length found ≡ length numbers
  pub known : (x : ℕ) → x < n → slice_index found (slice_index numbers x) ≡ slice_index lasts x
  pub told : (j : ℕ) → j < length found → IsLast numbers lasts n j (slice_index found j)

-- intervals of numbers, each of which lies in those of the nodes that it begins in
pub record AreNested (numbers lasts : List ℕ) : Type 0 where
  pub within : (x : ℕ) → x < length numbers → slice_index numbers x ≤ slice_index lasts x
  pub fits : (x : ℕ) → x < length numbers → slice_index lasts x < length numbers
  pub nested : (x y z : ℕ) → x < length numbers → y < length numbers → z < length numbers → slice_index numbers x ≤ slice_index numbers y → slice_index numbers y ≤ slice_index lasts x
      → slice_index numbers y ≤ slice_index numbers z → slice_index numbers z ≤ slice_index lasts y → slice_index numbers z ≤ slice_index lasts x

-- it stands for the values at the numbers from a on before e, which lie in the interval of each node that a lies in
pub record IsRun {P K : Type 0} (kind : P → K) (stands : P → List (Value × ℕ) → Type 0) (k : K) (numbers lasts : List ℕ) (nodes : List (Option ℕ)) (vs : List Value) (a e : ℕ) (p : P) : Type 0 where
  pub up : a < e
  pub holds : HasValues kind stands k vs (rows_between numbers nodes a e) p
  pub inside : (x z : ℕ) → x < length numbers → z < length numbers → slice_index numbers x < a → a ≤ slice_index lasts x → a ≤ slice_index numbers z → slice_index numbers z < e → slice_index numbers z ≤ slice_index lasts x

-- runs that stand one before the other, the first of them before n, and the last from m on
abbrev pub AreOpen : {P K : Type 0} → (P → K) → (P → List (Value × ℕ) → Type 0) → K → List ℕ → List ℕ → List (Option ℕ) → List Value → ℕ → ℕ → List (ℕ × P) → Type 0
AreOpen kind stands k numbers lasts nodes vs n m [] = n ≡ m
AreOpen kind stands k numbers lasts nodes vs n m (r ∷ rs) = IsRun kind stands k numbers lasts nodes vs r.0 n r.1 × AreOpen kind stands k numbers lasts nodes vs r.0 m rs

-- it stands for the values at the number `first` and at the numbers that follow, before those of the runs, and all of these are in the interval that ends with `last`
pub record HasRuns {P K : Type 0} (kind : P → K) (stands : P → List (Value × ℕ) → Type 0) (k : K) (numbers lasts : List ℕ) (nodes : List (Option ℕ)) (vs : List Value) (first last : ℕ) (p : P) (runs : List (ℕ × P)) : Type 0 where
  pub end : ℕ
  pub up : first < end
  pub left : AreOpen kind stands k numbers lasts nodes vs (length numbers) end runs
  pub holds : HasValues kind stands k vs (rows_between numbers nodes first end) p
  pub inside : (z : ℕ) → z < length numbers → first < slice_index numbers z → slice_index numbers z < end → slice_index numbers z ≤ last

-- the runs that are left begin past this number
abbrev pub ArePast : {P : Type 0} → ℕ → List (ℕ × P) → Type 0
ArePast {P} last runs = (rs : List (ℕ × P)) (r : ℕ × P) → runs ≡ rs ++ r ∷ [] → last < r.0

-- at the number of each node there is the aggregate of the values at the numbers of its interval
pub record AreAggregates (m : Method) (numbers lasts : List ℕ) (nodes : List (Option ℕ)) (vs : List Value) (found : List Value) : Type 0 where
  pub size : length found ≡ length numbers
  pub each : (x : ℕ) (d : Value) → x < length numbers → get_or found (slice_index numbers x) d ≡ aggregate m (at_places vs (rows_between numbers nodes (slice_index numbers x) (slice_index lasts x + 1)))
