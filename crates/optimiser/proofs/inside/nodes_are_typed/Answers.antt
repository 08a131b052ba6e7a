use Rattle.apply_ast.specs.Views.{hier_of, key_of, pipe_of}
use Rattle.context_typing.specs.Readings.{readings}
use Rattle.optimiser.proofs.TypedInside.{key-on}
use Rattle.optimiser.proofs.inside.nodes_are_typed.Goals as goal

pub returns : goal.returns
returns c = key-on c.args.m.now (readings c.args.c.now) pipe_of c.args.inner.now (key_of c.args.key.now) (hier_of c.args.hier.now) c.args.path.now c.args.of.now c.requires.recursive c.requires.of c.requires.typed
