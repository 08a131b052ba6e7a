-- The world that tables are.
use Rattle.std.specs.Prelude.{map, Vec}
use Rattle.std.specs.declared.alloc.Global.{Global}
use Rattle.edm_model.specs.Models.{Model}
use Rattle.edm_data.specs.Columns.{Grid}
use Rattle.edm_data.specs.Worlds.{World}

-- the world of a model and of the rows of its sets
abbrev pub world_in : Model → Vec Grid Global → World
world_in m sets = record { model = m; entities = map (λ g. g.rows) sets.items }
