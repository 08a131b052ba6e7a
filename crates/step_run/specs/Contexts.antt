-- What a run works with.
use Rattle.std.specs.Prelude.{List}
use Rattle.edm_data.specs.Worlds.{World}
use Rattle.context_typing.specs.declared.customs.TypedCustom.{TypedCustom}
use Rattle.hier_states.specs.declared.states.HierState.{HierState}

-- a world, with the custom aggregates of its model and the states of its hierarchies
pub record Context : Type 0 where
  pub world : World
  pub customs : List TypedCustom
  pub hiers : List HierState
