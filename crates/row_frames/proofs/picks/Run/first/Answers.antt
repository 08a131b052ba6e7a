use Rattle.std.proofs.Common.{◌≡◌, ◌-◌, arith}
use Rattle.std.specs.Prelude.{min}
use Rattle.row_frames.proofs.RunLemmas.{rows-length, run-first}
use Rattle.row_frames.proofs.picks.Run.first.Goals as goal

pub overflow_cast-ahead : goal.overflow_cast-ahead
overflow_cast-ahead c = omega (arith, rows-length c.args.self.from (c.args.self.to - c.args.self.from))

pub overflow_add-to : goal.overflow_add-to
overflow_add-to c = omega (arith, rows-length c.args.self.from (c.args.self.to - c.args.self.from))

pub returns : goal.returns
returns c =
    let from = c.args.self.from in
    let to = c.args.self.to in
    let most : c.min-most.result ≡ min c.args.n (to - from) = omega (arith, rows-length from (to - from)) in
    run-first from to c.args.n c.min-most.result most
