-- Which filters pass a step and which go into it, by the forms that the code has.
use Rattle.std.specs.Prelude.{Bool, not, ◌&&◌, ◌||◌, ◌++◌, List, Option, None, option_and_then, if◌then◌else◌}
use Rattle.std.specs.Bool.{then_some}
use Rattle.std.specs.List.{list_all}
use Rattle.edm_values.specs.Lists.{is_some_and}
use Rattle.edm_values.specs.Literals.{is_boolean_kind}
use Rattle.edm_model.specs.Models.{Model}
use Rattle.apply_ast.specs.Trees.{Expr, Keys, Pipe}
use Rattle.context_typing.specs.Shapes.{Shape}
use Rattle.context_typing.specs.Typing.{Customs, group_keys, has_kind, is_nodes, plain_paths, rollup_part, steps_shape}
use Rattle.rewrite_laws.specs.Rewrites.{node_shape, on_node, over, rollup_keys_in_every_row}
use Rattle.walk_laws.specs.Walks.{Rules, Test, chooses_nodes, is_late}

-- a filter may pass a grouping by these keys
abbrev pub grouping_passes : Rules → Keys → Test → Bool
grouping_passes r ks t = (is_late r || not (is_nodes (rollup_part (group_keys ks)))) && over (plain_paths ks ++ rollup_keys_in_every_row (rollup_part (group_keys ks))) t.expr && t.sure

-- a filter may pass a walk over nodes
abbrev pub walk_passes : Rules → Test → Bool
walk_passes r t = is_late r && t.sure

-- as what a filter goes to the nodes that a grouping shows, where they may be chosen
abbrev pub nodes_enter : Model → Customs → Keys → Bool → Test → Option Expr
nodes_enter m c ks may t =
    if may && is_nodes (rollup_part (group_keys ks)) && t.sure
    then option_and_then (λ N. then_some (chooses_nodes m ks N t.expr) (on_node N.1 t.expr)) (node_shape m c ks) else None

-- as what a filter goes into branches
abbrev pub branches_enter : Model → Customs → Shape → List Pipe → Test → Option Expr
branches_enter m c S ps t = then_some (list_all (λ p. is_some_and (λ S'. has_kind is_boolean_kind m S' t.expr) (steps_shape m c S p)) ps) t.expr
