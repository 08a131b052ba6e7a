use Rattle.apply_ast.specs.Views.{pipe_of, pipes_in}
use Rattle.context_typing.specs.Readings.{readings}
use Rattle.optimiser.proofs.TypedInside.{one-branch}
use Rattle.optimiser.proofs.inside.branch_is_typed.Goals as goal

pub returns : goal.returns
returns c = one-branch c.args.m.now (readings c.args.c.now) c.args.shape.now pipe_of c.args.branches.now (pipes_in c.args.whole.now) c.args.i c.args.branch.now c.requires.whole c.requires.within c.requires.branch c.requires.typed
