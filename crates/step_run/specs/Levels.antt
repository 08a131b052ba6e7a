-- The levels of a grouping, each with its groups (Data Aggregation 4.0, sections 3.2.3.1, 3.2.3.2 and 6.3).
use Rattle.std.specs.Prelude.{◌≡◌, ◌⊎◌, ℕ, Bool, false, true, List, [], ◌∷◌, ◌++◌, Option, Some, None, map, option_map}
use Rattle.std.specs.declared.result.Result as result
use Rattle.std.specs.Global.{Vec}
use Rattle.edm_values.specs.declared.Value.{Value}
use Rattle.edm_values.specs.declared.refusals.Refused.{Refused}
use Rattle.edm_values.specs.Lists.{at_places}
use Rattle.edm_values.specs.Names.{Path}
use Rattle.edm_values.specs.Refusals.{Returns}
use Rattle.edm_model.specs.LookUps.{HierarchyPlace}
use Rattle.edm_data.specs.Nodes.{identifier, parents_of}
use Rattle.edm_data.specs.Worlds.{World}
use Rattle.apply_ast.specs.Trees.{Keys}
use Rattle.context_typing.specs.Typing.{Customs, RollupPart, group_keys, hierarchy_at, key_paths, plain_paths, rollup_part}
use Rattle.apply_meaning.specs.Instances.{Instance, extended, no_instance}
use Rattle.apply_meaning.specs.Meaning.{Outcome, joined, key_list, keyed, keys_shown, level_paths, node}
use Rattle.group_rollup.specs.Groupings.{groups, has_beyond_key}
use Rattle.rollup_rec.specs.Rollups.{rolled}

-- plain keys, and the flag and the paths of a rollup if there is one
pub record LevelKeys : Type 0 where
  pub plain : List Path
  pub rollup : Option (Bool × List Path)

-- the rollup as a part of keys
abbrev pub part_of : Option (Bool × List Path) → RollupPart
part_of None = RollupPart.NoRollup
part_of (Some r) = RollupPart.Levels r.0 r.1

-- these are the keys of a grouping
pub record AreKeys (ks : Keys) (k : LevelKeys) : Type 0 where
  pub plain : k.plain ≡ plain_paths ks
  pub rollup : part_of k.rollup ≡ rollup_part (group_keys ks)

-- the paths of a level with the groups by them: each a key list and the places of its rows
abbrev pub Level : Type 0
Level = List Path × List (List Value × List ℕ)

-- the groups of a list by these paths
abbrev pub level_on : World → List Instance → List Path → Level
level_on w l level = (level, groups w level l)

-- the paths of each level of a grouping, the finest first
abbrev pub levels_of : Keys → List (List Path)
levels_of ks = level_paths (plain_paths ks) (rollup_part (group_keys ks))

-- groups whose keys end with the identifier of a node, where there is one
abbrev pub with_node : Option Value → List (List Value × List ℕ) → List (List Value × List ℕ)
with_node None gs = gs
with_node (Some v) gs = map (λ g. (g.0 ++ v ∷ [], g.1)) gs

-- a node and its groups as a level by these paths
abbrev pub node_level : World → HierarchyPlace → List Path → ℕ × List (List Value × List ℕ) → Level
node_level w f level x = (level, with_node (Some (identifier w f x.0)) x.1)

-- the levels of a recursive rollup: one for each node that is shown and that has instances at it or below it
abbrev pub node_levels : World → HierarchyPlace → List Path → Path → List ℕ → List Instance → List Level
node_levels w f ks p shown l = map (node_level w f (ks ++ p ∷ [])) (rolled (parents_of w f) (map (node w f p) l) (map (key_list w ks) l) shown)

-- the levels by each level's paths, or for each node that is shown
abbrev pub levels_by : World → RollupPart → List Path → List ℕ → List Instance → List Level
levels_by w (RollupPart.Nodes h p) ks shown l = elim (hierarchy_at w.model h) [ None ↦ [] | Some f ↦ node_levels w f ks p shown l ]
levels_by w part ks shown l = map (level_on w l) (level_paths ks part)

-- the levels of a grouping on a list, where the recursive rollup among its keys, if there is one, shows these nodes
abbrev pub levels_on : World → Keys → List ℕ → List Instance → List Level
levels_on w ks shown l = levels_by w (rollup_part (group_keys ks)) (plain_paths ks) shown l

-- what is made of a group, each result with the columns of the group's key
abbrev pub group_made : List Path → (List Instance → Outcome) → List Instance → List Value × List ℕ → Outcome
group_made ks f l g = option_map (map (λ r. extended r (keyed ks g.0))) (f (at_places l g.1))

-- what is made of the groups of a level
abbrev pub level_made : (List Instance → Outcome) → List Instance → Level → Outcome
level_made f l level = joined (map (group_made level.0 f l) level.1)

-- the instances of each group of a level
abbrev pub level_lists : List Instance → Level → List (List Instance)
level_lists l level = map (λ g. at_places l g.1) level.1

-- these are the levels of a grouping without a recursive rollup on the list
abbrev pub AreLevels : World → Keys → List Instance → List Level → Type 0
AreLevels w ks l levels = levels ≡ map (level_on w l) (levels_of ks)

-- what a grouping without a recursive rollup found on a list: the groups of all levels, or a refusal where a key is Beyond; `Memory` says nothing
abbrev pub GivesFlatLevels : result.Result (Vec Level) Refused → World → Keys → List Instance → Type 0
GivesFlatLevels r w ks l = Returns (λ (v : Vec Level). AreLevels w ks l v.items × (has_beyond_key w (key_paths (group_keys ks)) l ≡ false)) (has_beyond_key w (key_paths (group_keys ks)) l ≡ true) r

-- the same of a recursive rollup over these nodes
abbrev pub GivesNodeLevels : result.Result (Vec Level) Refused → World → HierarchyPlace → List Path → Path → List ℕ → List Instance → Type 0
GivesNodeLevels r w f ks p shown l = Returns (λ (v : Vec Level). (v.items ≡ node_levels w f ks p shown l) × (has_beyond_key w (ks ++ p ∷ []) l ≡ false)) (has_beyond_key w (ks ++ p ∷ []) l ≡ true) r

-- what a grouping found on a list: the groups of all levels, or a refusal where a key is Beyond or the nodes that are shown are refused; `Memory` says nothing
abbrev pub GivesLevels : result.Result (Vec Level) Refused → World → Customs → Keys → List Instance → Type 0
GivesLevels r w c ks l = Returns (λ (v : Vec Level). (shown : List ℕ) × (keys_shown w c ks ≡ Some shown) × (v.items ≡ levels_on w ks shown l) × (has_beyond_key w (key_paths (group_keys ks)) l ≡ false)) ((keys_shown w c ks ≡ None) ⊎ (has_beyond_key w (key_paths (group_keys ks)) l ≡ true)) r

-- the instance of a group by these paths, with the columns of its key alone
abbrev pub group_row : List Path → List Value × List ℕ → Instance
group_row ks g = record no_instance { columns = keyed ks g.0 }

-- the instances of the groups of a level
abbrev pub level_rows : Level → List Instance
level_rows level = map (group_row level.0) level.1
