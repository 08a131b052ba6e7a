use Rattle.apply_ast.specs.Views.{pipe_of, pipes_of}
use Rattle.context_typing.specs.Readings.{readings}
use Rattle.rewrite_places.proofs.TypedPlaces.{typed-branch}
use Rattle.rewrite_places.proofs.typed.branch_is_typed.Goals as goal

pub returns : goal.returns
returns c = typed-branch c.args.m.now (readings c.args.c.now) pipe_of c.args.shape.now c.args.branches.now c.args.i c.args.branch.now (pipes_of c.args.whole.now) c.requires.within c.requires.branch c.requires.whole c.requires.typed
