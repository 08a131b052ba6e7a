-- The cost of a pipeline: how many rows may be made while it runs.
use Rattle.std.specs.Prelude.{ℕ, ◌+◌, List, [], ◌∷◌, length, sum, Some, None, map, filter, flat_map, if◌then◌else◌}
use Rattle.edm_data.specs.Worlds.{World}
use Rattle.edm_values.specs.Lists.{is_nonempty}
use Rattle.edm_values.specs.Names.{Path}
use Rattle.apply_ast.specs.Trees.{Pipe, Step, OptPipe, Pipes, Key, Keys, TraverseStep}
use Rattle.context_typing.specs.Typing.{hierarchy_at, Customs, RollupPart, GroupKeys, group_keys, rollup_part, join_navigation, after, shape_of_set}
use Rattle.edm_data.specs.References.{count}
use Rattle.context_typing.specs.Shapes.{Shape, set_shape}
use Rattle.apply_meaning.specs.Instances.{Instance, rows}
use Rattle.apply_meaning.specs.Meaning.{Outcome, mean, step_mean, keys_shown, keys, group, level_paths, related_rows, at_or_below}

-- the length of a result, 0 where it is refused
abbrev pub result_length : Outcome → ℕ
result_length None = 0
result_length (Some l) = length l

-- the groups of a list by key paths
abbrev pub groups : World → List Path → List Instance → List (List Instance)
groups w ks l = map (λ k. group w ks k l) (keys w ks l)

-- the lists on which a grouping evaluates what is made of each group
abbrev pub group_lists : World → GroupKeys → List ℕ → List Instance → List (List Instance)
group_lists w g shown l = elim (rollup_part g) [
  | RollupPart.Nodes h p ↦ elim (hierarchy_at w.model h) [ None ↦ [] | Some t ↦ flat_map (λ x. groups w g.plain (filter (at_or_below w t p x) l)) shown ]
  | _ ↦ flat_map (λ level. groups w level l) (level_paths g.plain (rollup_part g))
]

-- what one application of an inner pipeline counts: the list, the cost on it, and the result
abbrev pub application : (List Instance → ℕ) → (List Instance → Outcome) → List Instance → ℕ
application cost mean l = length l + cost l + result_length (mean l)

-- what a walk counts beside its result: with an order, the nodes
abbrev pub walk_cost : World → TraverseStep → ℕ
walk_cost w t = if is_nonempty t.items then elim (hierarchy_at w.model t.hier) [ None ↦ 0 | Some f ↦ count w f.set ] else 0

unfoldable mutual
  -- the cost of a pipeline on a list: that of its transformations, up to and with the first that is refused
  pub cost : World → Customs → Shape → Pipe → List Instance → ℕ
  cost w c S Pipe.End l = 0
  cost w c S (Pipe.Then s p) l =
      result_length (step_mean w c S s l) + inner_costs w c S s l + elim (step_mean w c S s l) [ None ↦ 0 | Some r ↦ cost w c (after w.model c S s) p r ]

  -- what the applications of an inner pipeline to these lists count; where there is no pipeline, what those of identity would
  pub applications : World → Customs → Shape → OptPipe → List (List Instance) → ℕ
  applications w c S OptPipe.NoPipe ls = sum (map (application length (λ l. Some l)) ls)
  applications w c S (OptPipe.SomePipe p) ls = sum (map (application (cost w c S p) (mean w c S p)) ls)

  -- the same, where no pipeline counts nothing
  pub given_applications : World → Customs → Shape → OptPipe → List (List Instance) → ℕ
  given_applications w c S OptPipe.NoPipe ls = 0
  given_applications w c S (OptPipe.SomePipe p) ls = sum (map (application (cost w c S p) (mean w c S p)) ls)

  -- what the applications of the branches to a list count
  pub branch_costs : World → Customs → Shape → Pipes → List Instance → ℕ
  branch_costs w c S Pipes.NoPipes l = 0
  branch_costs w c S (Pipes.MorePipes p ps) l = application (cost w c S p) (mean w c S p) l + branch_costs w c S ps l

  -- what the pipeline that chooses a recursive rollup's nodes counts
  pub key_cost : World → Customs → Key → ℕ
  key_cost w c (Key.Recursive h p T) = elim (hierarchy_at w.model h) [ None ↦ 0 | Some f ↦ given_applications w c (set_shape f.type) T (rows w f.set ∷ []) ]
  key_cost w c k = 0

  -- the same over all keys
  pub keys_cost : World → Customs → Keys → ℕ
  keys_cost w c Keys.NoKeys = 0
  keys_cost w c (Keys.MoreKeys k ks) = key_cost w c k + keys_cost w c ks

  -- what a transformation counts beside its result: its inner pipelines, and what a walk counts
  pub inner_costs : World → Customs → Shape → Step → List Instance → ℕ
  inner_costs w c S (Step.GroupBy ks T) l =
      keys_cost w c ks + elim (keys_shown w c ks) [ None ↦ 0 | Some shown ↦ given_applications w c S T (group_lists w (group_keys ks) shown l) ]
  inner_costs w c S (Step.Concat ps) l = branch_costs w c S ps l
  inner_costs w c S (Step.Join outer n a T) l = elim (join_navigation w.model S n) [ None ↦ 0 | Some v ↦ applications w c (set_shape v.target) T (map (related_rows w v) l) ]
  inner_costs w c S (Step.Climb up h p T d keep) l = application (cost w c S T) (mean w c S T) l
  inner_costs w c S (Step.Traverse t) l = walk_cost w t
  inner_costs w c S s l = 0

-- the cost of an inner pipeline, where there is one: the lists beside it are counted by the applications
abbrev pub inner_cost : World → Customs → Shape → OptPipe → List Instance → ℕ
inner_cost w c S OptPipe.NoPipe l = 0
inner_cost w c S (OptPipe.SomePipe p) l = cost w c S p l

-- the cost of one transformation
abbrev pub step_cost : World → Customs → Shape → Step → List Instance → ℕ
step_cost w c S s l = result_length (step_mean w c S s l) + inner_costs w c S s l

-- the cost of a request's pipeline: the entities of its set, and the cost on their instances
abbrev pub total_cost : World → Customs → ℕ → Pipe → ℕ
total_cost w c s p = count w s + cost w c (shape_of_set w.model s) p (rows w s)
