-- What instances that are shown in one form have in common.
use Rattle.std.specs.Prelude.{ℕ, Option, option_map}
use Rattle.edm_values.specs.Names.{Path}
use Rattle.edm_values.specs.declared.Value.{Value}
use Rattle.edm_data.specs.Worlds.{Entity}

-- a prefix with the set of its entity, if it has one
abbrev pub prefix_set : Path × Option Entity → Path × Option ℕ
prefix_set x = (x.0, option_map (λ e. e.set) x.1)

-- the path of a column
abbrev pub column_path : Path × Value → Path
column_path c = c.0
