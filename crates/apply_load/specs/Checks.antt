-- What is told of files that make a world: this project's own form.
use Rattle.std.specs.Prelude.{ℕ, List, ◌++◌, length, map, flat_map, sum, codes, decimal, option_map, unwrap_or}
use Rattle.edm_values.specs.Lists.{places}
use Rattle.edm_values.specs.Literals.{plain_text}
use Rattle.edm_model.specs.Models.{Part}
use Rattle.edm_model.specs.LookUps.{hierarchy_on, set_of_type, type_name}
use Rattle.edm_model.specs.IdLists.{hierarchy_parts}
use Rattle.edm_data.specs.Worlds.{World}
use Rattle.edm_data.specs.References.{count, key}
use Rattle.edm_data.specs.Hierarchies.{cycle_node}
use Rattle.hier_index.specs.Parents.{hierarchy_parents}
use Rattle.apply_load.specs.RefusedFiles.{json_string}

-- the number of entities, over all sets
abbrev pub entity_total : World → ℕ
entity_total w = sum (map (count w) (places (length w.model.sets)))

-- the qualifier of a hierarchy
abbrev pub qualifier : World → Part → List ℕ
qualifier w h = unwrap_or (option_map (λ q. q.qualifier) (hierarchy_on w.model h)) (codes "")

-- that the hierarchy is cyclic, with the identifier of its first node whose chain of parents comes to no root
abbrev pub cycle_text : World → Part → ℕ → List ℕ
cycle_text w h x = codes " cycle " ++ json_string (plain_text (key w (record { set = set_of_type w.model h.of; at = x })))

-- whether the hierarchy is cyclic
abbrev pub state_text : World → Part → List ℕ
state_text w h = unwrap_or (option_map (cycle_text w h) (cycle_node (hierarchy_parents w h))) (codes " ok")

-- the line of a hierarchy: the name of its type, its qualifier and its state
abbrev pub hierarchy_line : World → Part → List ℕ
hierarchy_line w h = codes "hierarchy " ++ type_name w.model h.of ++ codes " " ++ qualifier w h ++ state_text w h ++ codes "\n"

-- the number of entities, and the state of each hierarchy, by type name and then by qualifier
abbrev pub check_text : World → List ℕ
check_text w = codes "entities " ++ decimal (entity_total w) ++ codes "\n" ++ flat_map (hierarchy_line w) (hierarchy_parts w.model)
