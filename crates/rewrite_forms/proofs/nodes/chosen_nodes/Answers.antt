use Rattle.std.proofs.Common.{sym, ◌∙◌, ap}
use Rattle.std.specs.Prelude.{option_map}
use Rattle.apply_ast.specs.Views.{hier_of, inner_of, pipe_of}
use Rattle.context_typing.specs.Nodes.{nodes_pair}
use Rattle.context_typing.specs.Readings.{readings}
use Rattle.rewrite_forms.proofs.NodeShapes.{nodes-chosen, nodes-none, nodes-shaped}
use Rattle.rewrite_forms.proofs.nodes.chosen_nodes.Goals as goal

pub chosen_shape-requires-clause-typed : goal.chosen_shape-requires-clause-typed
chosen_shape-requires-clause-typed c =
    nodes-shaped c.args.m.now (readings c.args.c.now) (hier_of c.args.hier.now) (inner_of (option_map pipe_of c.args.chosen.now)) (nodes_pair c.in-Some.nodes)
    (sym (ap (option_map nodes_pair) c.in-Some.is) ∙ c.nodes_of.ensures.value) c.requires.typed

pub returns-in_ok-key-in-Some-clause-value : goal.returns-in_ok-key-in-Some-clause-value
returns-in_ok-key-in-Some-clause-value c =
    nodes-chosen c.args.m.now (readings c.args.c.now) (hier_of c.args.hier.now) (inner_of (option_map pipe_of c.args.chosen.now)) (nodes_pair c.in-Some.nodes) c.in_ok-shape-in-Some.shape c.in_ok-key-in-Some.key
    (sym (ap (option_map nodes_pair) c.in-Some.is) ∙ c.nodes_of.ensures.value) c.in_ok-shape-in-Some.ensures.value c.in_ok-key-in-Some.ensures

pub returns-in-None-clause-value : goal.returns-in-None-clause-value
returns-in-None-clause-value c =
    nodes-none c.args.m.now (readings c.args.c.now) (hier_of c.args.hier.now) (inner_of (option_map pipe_of c.args.chosen.now)) (sym (ap (option_map nodes_pair) c.in-None.is) ∙ c.nodes_of.ensures.value)
