-- What the rules look for in a grouping, and what they make of it, as functions that the code has.
use Rattle.std.specs.Prelude.{Bool, List, [], ◌∷◌, ◌&&◌, Option, Some, None, find, option_map}
use Rattle.edm_values.specs.Lists.{is_nonempty}
use Rattle.edm_values.specs.Literals.{is_boolean_kind}
use Rattle.edm_values.specs.Names.{Name, Path}
use Rattle.edm_model.specs.Models.{Model}
use Rattle.apply_ast.specs.Trees.{Expr, Keys, OptPipe, Step}
use Rattle.context_typing.specs.Shapes.{Shape}
use Rattle.context_typing.specs.Typing.{RollupPart, has_kind, is_nodes, is_sure}
use Rattle.rewrite_laws.specs.Rewrites.{behind, ended_keys, is_levels, is_no_rollup, movable, on_node, over, paths}
use Rattle.rewrite_rules.specs.declared.groups.Grouping.{Grouping}
use Rattle.rewrite_rules.specs.declared.groups.Grouping.TheVariants as grouping

-- the keys of a grouping, and what is made of each group
abbrev pub grouped_by : Step → Option (Keys × OptPipe)
grouped_by (Step.GroupBy ks T) = Some (ks, T)
grouped_by s = None

-- what stands beside plain keys is of this kind
abbrev pub is_of : Grouping → RollupPart → Bool
is_of grouping.Plain = is_no_rollup
is_of grouping.Levels = is_levels
is_of grouping.Nodes = is_nodes

-- a filter on this path alone is sure, and is a sure test of nodes with the name of their key in place of the path
abbrev pub is_node_test : Model → Shape → Path → Shape × Name → Expr → Bool
is_node_test m S p N b = is_nonempty (paths b) && over (p ∷ []) b && is_sure m S b && has_kind is_boolean_kind m N.0 (on_node N.1 b) && is_sure m N.0 (on_node N.1 b)

-- the steps after the nearest filter on this path alone has gone into the pipeline that chooses the nodes, on the shape behind the grouping
abbrev pub into_nodes : Model → Shape → Keys → OptPipe → Path → Shape × Name → List Step → Option (List Step)
into_nodes m S ks T p N ss =
    option_map (λ r. behind (Step.GroupBy (ended_keys (Step.Filter (on_node N.1 r.last)) ks) T) r) (find (λ r. is_node_test m S p N r.last) (movable m S ss))
