-- Places of columns in ascending order of their paths, by which a column is found.
use Rattle.std.specs.Prelude.{◌≡◌, ℕ, ◌<◌, ◌≤◌, ◌==◌, All, List, [], length, map, slice_index_or, false}
use Rattle.std.specs.Cmp.Lexicographic.{slice_cmp}
use Rattle.std.specs.List.Sorted.{IsStrictlySortedBy}
use Rattle.std.specs.Ordering.{nat_cmp, is_lt}
use Rattle.std.specs.declared.cmp.Ordering.{Ordering}
use Rattle.std.specs.declared.cmp.Ordering.TheVariants.{Less}
use Rattle.edm_values.specs.Lists.{are_distinct}
use Rattle.edm_values.specs.Names.{Path}
use Rattle.edm_values.specs.declared.EdmType.{EdmType}
use Rattle.context_typing.specs.Paths.{same_path, at_path}
use Rattle.context_typing.specs.Shapes.{ColumnShape}

-- how two paths stand to each other, name by name
abbrev pub path_cmp : Path → Path → Ordering
path_cmp = slice_cmp (slice_cmp nat_cmp)

-- what stands for a column that is not there
abbrev pub no_column : ColumnShape
no_column = record { path = []; kind = EdmType.Bool; declared = false; absent = false; risky = false }

-- the columns at these places
abbrev pub columns_at : List ColumnShape → List ℕ → List ColumnShape
columns_at cs ks = map (λ k. slice_index_or cs k no_column) ks

-- the paths of columns
abbrev pub column_paths : List ColumnShape → List Path
column_paths cs = map (λ c. c.path) cs

-- so many of the paths stand before this one, and the others not
pub record IsLowerBound (ps : List Path) (p : Path) (n : ℕ) : Type 0 where
  pub within : n ≤ length ps
  pub before : (i : ℕ) → i < n → path_cmp (slice_index_or ps i []) p ≡ Less
  pub after : (i : ℕ) → n ≤ i → i < length ps → is_lt (path_cmp (slice_index_or ps i []) p) ≡ false

-- the places are those of columns, in ascending order of their paths, and each path has the column there that it has in the list; there are as many places as columns where no two columns have one path
pub record IsOrder (cs : List ColumnShape) (ks : List ℕ) : Type 0 where
  pub within : All (λ k. k < length cs) ks
  pub rising : IsStrictlySortedBy path_cmp (column_paths (columns_at cs ks))
  pub same : (p : Path) → at_path (λ c. c.path) (columns_at cs ks) p ≡ at_path (λ c. c.path) cs p
  pub few : length ks ≤ length cs
  pub each : are_distinct same_path (column_paths cs) ≡ (length ks == length cs)
