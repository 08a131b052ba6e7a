use Rattle.apply_ast.specs.declared.steps.JoinStep.{out-JoinStep}
use Rattle.apply_ast.specs.Views.{join_of, pipe_of}
use Rattle.apply_ast.proofs.ViewEquations.{join_of-is}
use Rattle.context_typing.specs.Readings.{readings}
use Rattle.optimiser.proofs.TypedInside.{join-on}
use Rattle.optimiser.proofs.inside.related_is_typed.Goals as goal

pub returns : goal.returns
returns c =
    let j = out-JoinStep c.args.join.now in
    join-on c.args.m.now (readings c.args.c.now) pipe_of j.inner c.args.shape.now j.outer j.nav j.alias (join_of c.args.join.now) c.args.of.now (join_of-is c.args.join.now) c.requires.of c.requires.typed
