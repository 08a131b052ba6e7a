-- The columns of a grouping's keys, where each path has a typing.
use Rattle.std.specs.Prelude.{◌≡◌, IsTrue, Bool, true, false, not, ◌&&◌, ◌||◌, ◌++◌, List, [], ◌∷◌, Option, Some, None, map, option_map, option_and_then, length, nat_le, if◌then◌else◌}
use Rattle.std.specs.List.{list_any}
use Rattle.edm_values.specs.Lists.{all_some, are_distinct, is_nonempty}
use Rattle.edm_values.specs.Names.{Path}
use Rattle.edm_model.specs.Models.{Model}
use Rattle.apply_ast.specs.Trees.{Key}
use Rattle.apply_ast.specs.Views.{keys_from}
use Rattle.context_typing.specs.Paths.{is_prefix, same_path}
use Rattle.context_typing.specs.Shapes.{Shape, ColumnShape}
use Rattle.context_typing.specs.Typing.{GroupKeys, RollupPart, all_prefixes, is_nodes, key_column, overlaps, path_kind, rollup_part, rollup_parts}

-- the column of a key, where its path has a typing
abbrev pub typed_key : Model → Shape → Bool → Path → Option ColumnShape
typed_key m S absent p = option_map (λ k. key_column m S absent p) (path_kind m S p)

-- the columns of the levels of a rollup, where each path has a typing
abbrev pub level_columns : Model → Shape → Bool → List Path → Option (List ColumnShape)
level_columns m S all [] = Some []
level_columns m S all (p ∷ ps) = option_and_then (λ c. option_map (λ cs. c ∷ cs) (all_some (map (typed_key m S true) ps))) (typed_key m S all p)

-- the column of a recursive rollup, where its path has a typing
abbrev pub node_columns : Model → Shape → Path → Option (List ColumnShape)
node_columns m S p = option_map (λ c. record c { risky = false } ∷ []) (typed_key m S false p)

-- the columns of a key that is no plain path, where each of its paths has a typing
abbrev pub rollup_key_columns : Model → Shape → Key → Option (List ColumnShape)
rollup_key_columns m S (Key.Plain p) = Some []
rollup_key_columns m S (Key.Rollup all ps) = level_columns m S all ps
rollup_key_columns m S (Key.Recursive h p T) = node_columns m S p

-- the columns of what stands among the keys besides plain ones, where each path has a typing
abbrev pub part_columns : Model → Shape → RollupPart → Option (List ColumnShape)
part_columns m S RollupPart.NoRollup = Some []
part_columns m S (RollupPart.Levels all ps) = level_columns m S all ps
part_columns m S (RollupPart.Nodes h p) = node_columns m S p

-- the columns of all keys, where each path has a typing and at most one key is no plain path
abbrev pub typed_columns : Model → Shape → GroupKeys → Option (List ColumnShape)
typed_columns m S g =
    if nat_le (length g.parts) 1
    then option_and_then (λ cs. option_map (λ ds. cs ++ ds) (part_columns m S (rollup_part g))) (all_some (map (typed_key m S false) g.plain)) else None

-- a key is no plain path
abbrev pub is_rollup_key : Key → Bool
is_rollup_key (Key.Plain p) = false
is_rollup_key _ = true

-- a key is a recursive rollup
abbrev pub is_recursive_key : Key → Bool
is_recursive_key (Key.Recursive h p T) = true
is_recursive_key _ = false

-- the columns of the keys are some, differ, and overlap nothing of what each group becomes, which has no prefix where a key is a recursive rollup
abbrev pub may_stand : GroupKeys → List ColumnShape → Shape → Bool
may_stand g cs G =
    (is_nonempty cs && are_distinct same_path (map (λ c. c.path) cs))
    && (not (list_any (λ c. overlaps (map (λ c. c.path) cs) c.path) G.columns) && not (list_any (λ x. overlaps (map (λ c. c.path) cs) x.path) G.prefixes))
    && (not (is_nodes (rollup_part g)) || not (is_nonempty (all_prefixes G)))

-- the path of a plain key
abbrev pub plain_of : Key → List Path
plain_of (Key.Plain p) = p ∷ []
plain_of _ = []

-- what a key is that is not plain
abbrev pub part_of : Key → List RollupPart
part_of (Key.Plain p) = []
part_of (Key.Rollup all ps) = RollupPart.Levels all ps ∷ []
part_of (Key.Recursive h p T) = RollupPart.Nodes h p ∷ []

-- the first key that is no plain path, with the keys behind it, or none where all are plain
abbrev pub IsFirstRollup : List Key → Option (Key × List Key) → Type 0
IsFirstRollup ks None = rollup_parts (keys_from ks) ≡ []
IsFirstRollup ks (Some x) = IsTrue (is_rollup_key x.0) × (rollup_parts (keys_from ks) ≡ part_of x.0 ++ rollup_parts (keys_from x.1))
