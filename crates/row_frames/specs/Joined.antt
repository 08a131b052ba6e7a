-- Frames that are copied, or that stand one behind the other.
use Rattle.std.specs.Prelude.{◌≡◌, ℕ, ◌+◌}
use Rattle.row_frames.specs.Frames.{columns_at, prefixes_at, root_at}
use Rattle.row_frames.specs.declared.tables.Table.{Table}
use Rattle.row_frames.specs.declared.tables.Pick.{Pick}

-- the second table has the rows of the first
pub record IsShared (t u : Table) : Type 0 where
  pub roots : (k : ℕ) → root_at u.roots k ≡ root_at t.roots k
  pub prefixes : (k : ℕ) → prefixes_at u k ≡ prefixes_at t k
  pub columns : (k : ℕ) → columns_at u k ≡ columns_at t k

-- the pick of a table that stands behind so many others
abbrev pub shifted : ℕ → Pick → Pick
shifted n x = record { table = n + x.table; row = x.row }
