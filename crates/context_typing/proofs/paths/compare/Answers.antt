use Rattle.std.proofs.Common.{arith}
use Rattle.context_typing.proofs.PathOrders.{cmp-ended}
use Rattle.context_typing.proofs.paths.compare.Goals as goal

pub returns-then-a-b : goal.returns-then-a-b
returns-then-a-b c = cmp-ended c.args.a.now c.args.b.now c.loop-i.i (omega arith) (omega arith) c.loop-i.invariant.rest
