-- The states of a model's hierarchies over loaded data, and which of them a pipeline names (Data Aggregation 4.0, section 5.5.2).
use Rattle.std.specs.Prelude.{◌≡◌, List, slice_get, position, Option, Some, None, option_map, option_and_then}
use Rattle.std.specs.List.{AllZip}
use Rattle.edm_values.specs.Lists.{find_map}
use Rattle.edm_model.specs.Models.{Model, Part}
use Rattle.edm_model.specs.LookUps.{HierarchyPlace, set_named, set_type, found_part, hierarchy_of_type_named}
use Rattle.edm_model.specs.IdLists.{hierarchy_parts}
use Rattle.edm_data.specs.Worlds.{World, Entity}
use Rattle.edm_data.specs.Hierarchies.{cycle_node}
use Rattle.edm_data.specs.Nodes.{parents_of, node_entity}
use Rattle.apply_ast.specs.Trees.{HierName}
use Rattle.context_typing.specs.Readings.{same_part}
use Rattle.context_typing.specs.Typing.{hierarchy_at}
use Rattle.hier_index.specs.Parents.{hierarchy_parents}
use Rattle.hier_states.specs.declared.states.HierState.{HierState}
use Rattle.hier_states.specs.declared.states.HierState.TheVariants.{Ready, Cyclic}

-- ---- states

-- the state is what building the hierarchy's index comes to
abbrev pub IsStateOf : World → Part → HierState → Type 0
IsStateOf w id (Ready parents) = (parents ≡ hierarchy_parents w id) × (cycle_node (hierarchy_parents w id) ≡ None)
IsStateOf w id (Cyclic x) = cycle_node (hierarchy_parents w id) ≡ Some x

-- one state for each hierarchy, in the order of the model's hierarchies
abbrev pub AreStates : World → List HierState → Type 0
AreStates w states = AllZip (IsStateOf w) (hierarchy_parts w.model) states

-- ---- hierarchies by their names

-- the id of the hierarchy that is named in a pipeline
abbrev pub hierarchy_id : Model → HierName → Option Part
hierarchy_id m h = option_and_then (λ s. found_part (set_type m s) (hierarchy_of_type_named m (set_type m s) h.qualifier)) (set_named m h.set)

-- the state of the hierarchy of an id
abbrev pub state_of : Model → List HierState → Part → Option HierState
state_of m states id = option_and_then (slice_get states) (position (same_part id) (hierarchy_parts m))

-- the state of the hierarchy that is named in a pipeline
abbrev pub state_at : Model → List HierState → HierName → Option HierState
state_at m states h = option_and_then (state_of m states) (hierarchy_id m h)

-- its state is an index of the parents of its nodes
abbrev pub IsReadyAt : World → List HierState → HierName → Type 0
IsReadyAt w states h = (f : HierarchyPlace) → hierarchy_at w.model h ≡ Some f → state_at w.model states h ≡ Some (Ready (parents_of w f))

-- ---- cyclic hierarchies

-- the node of the hierarchy that is named, where it is cyclic: its first whose chain of parents comes to no root
abbrev pub cycle_at : World → HierName → Option Entity
cycle_at w h = option_and_then (λ f. option_map (node_entity f) (cycle_node (parents_of w f))) (hierarchy_at w.model h)

-- the node of the first of these hierarchies that is cyclic
abbrev pub first_cycle : World → List HierName → Option Entity
first_cycle w hs = find_map (cycle_at w) hs
