use Rattle.std.proofs.Common.{ap}
use Rattle.std.specs.Prelude.{option_map}
use Rattle.apply_ast.specs.Views.{hier_of, inner_of, pipe_of}
use Rattle.context_typing.specs.Readings.{readings}
use Rattle.rewrite_places.proofs.TypedPlaces.{typed-nodes}
use Rattle.rewrite_places.proofs.typed.nodes_are_typed.Goals as goal

pub returns : goal.returns
returns c =
    typed-nodes c.args.m.now (readings c.args.c.now) (hier_of c.args.hier.now) c.args.path.now (inner_of (option_map pipe_of c.args.inner.now)) (pipe_of c.args.nodes.now) c.args.of.now (ap (λ i. inner_of (option_map pipe_of i)) c.requires.nodes) c.requires.of c.requires.typed
