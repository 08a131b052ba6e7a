-- What is asked of the keys of a grouping, as functions that the code has.
use Rattle.std.specs.Prelude.{Bool, false, List, ◌++◌, Option, Some, None, find, option_and_then, option_map}
use Rattle.edm_values.specs.Names.{Name, Path}
use Rattle.edm_model.specs.Models.{Model}
use Rattle.apply_ast.specs.Trees.{HierName, Key, Keys, OptPipe}
use Rattle.context_typing.specs.Grouping.{is_rollup_key}
use Rattle.context_typing.specs.Shapes.{Shape, set_shape}
use Rattle.context_typing.specs.Typing.{Customs, RollupPart, group_keys, hierarchy_at, inner_shape, is_risky, plain_paths, rollup_part}
use Rattle.rewrite_laws.specs.Rewrites.{rollup_keys_in_every_row}

-- the first key that is no plain path
abbrev pub first_rollup : List Key → Option Key
first_rollup ks = find is_rollup_key ks

-- what a key is besides plain ones
abbrev pub key_part : Key → RollupPart
key_part (Key.Plain p) = RollupPart.NoRollup
key_part (Key.Rollup all ps) = RollupPart.Levels all ps
key_part (Key.Recursive h p T) = RollupPart.Nodes h p

-- what the first key is that is no plain path, where there is one
abbrev pub part_of : Option Key → RollupPart
part_of None = RollupPart.NoRollup
part_of (Some k) = key_part k

-- a plain key whose column may be past its range
abbrev pub is_plain_risky : Shape → Key → Bool
is_plain_risky S (Key.Plain p) = is_risky S p
is_plain_risky S k = false

-- the keys that stand in every row of a grouping
abbrev pub in_every_row : Keys → List Path
in_every_row ks = plain_paths ks ++ rollup_keys_in_every_row (rollup_part (group_keys ks))

-- the hierarchy, the path and the pipeline of a recursive rollup
abbrev pub recursive : Key → Option (HierName × (Path × OptPipe))
recursive (Key.Recursive h p T) = Some (h, (p, T))
recursive k = None

-- the same of the first key that is no plain path
abbrev pub recursive_key : List Key → Option (HierName × (Path × OptPipe))
recursive_key ks = option_and_then recursive (first_rollup ks)

-- the shape of the nodes that a pipeline chooses, with the name of their key
abbrev pub chosen_nodes : Model → Customs → HierName → OptPipe → Option (Shape × Name)
chosen_nodes m c h T = option_and_then (λ f. option_map (λ N. (N, f.key.name)) (inner_shape m c (set_shape f.type) (set_shape f.type) T)) (hierarchy_at m h)
