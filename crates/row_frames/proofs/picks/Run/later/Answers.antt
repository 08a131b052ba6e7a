use Rattle.std.proofs.Common.{◌≡◌, ◌-◌, arith}
use Rattle.std.specs.Prelude.{min}
use Rattle.row_frames.proofs.RunLemmas.{rows-length, run-later}
use Rattle.row_frames.proofs.picks.Run.later.Goals as goal

pub overflow_cast-ahead : goal.overflow_cast-ahead
overflow_cast-ahead c = omega (arith, rows-length c.args.self.from (c.args.self.to - c.args.self.from))

pub overflow_add-from : goal.overflow_add-from
overflow_add-from c = omega (arith, rows-length c.args.self.from (c.args.self.to - c.args.self.from))

pub returns : goal.returns
returns c =
    let from = c.args.self.from in
    let to = c.args.self.to in
    let most : c.min-most.result ≡ min c.args.n (to - from) = omega (arith, rows-length from (to - from)) in
    run-later from to c.args.n c.min-most.result most
