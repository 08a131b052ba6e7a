use Rattle.std.proofs.Common.{◌+◌, arith}
use Rattle.par_stages.proofs.Cuts.{cut_at-le}
use Rattle.par_stages.proofs.bounds.piece_bounds.Goals as goal

pub returns-clause-order : goal.returns-clause-order
returns-clause-order c = rw (c.cut.ensures.place, c.cut-2.ensures.place) (cut_at-le c.args.n c.args.k c.args.j (c.args.j + 1) (omega arith) (omega arith))
