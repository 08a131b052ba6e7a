use Rattle.std.proofs.Common.{◌-◌, ◌<◌, arith, sym}
use Rattle.row_frames.proofs.RunLemmas.{rows-at, rows-length}
use Rattle.row_frames.proofs.picks.Run.at.Goals as goal

pub overflow_cast-ahead : goal.overflow_cast-ahead
overflow_cast-ahead c = omega (arith, rows-length c.args.self.from (c.args.self.to - c.args.self.from))

pub overflow_add-row : goal.overflow_add-row
overflow_add-row c = omega (arith, rows-length c.args.self.from (c.args.self.to - c.args.self.from))

pub returns : goal.returns
returns c = λ d.
    let n = c.args.self.to - c.args.self.from in
    let within : c.args.k < n = omega (arith, rows-length c.args.self.from n) in
    sym (rows-at c.args.self.from n c.args.k d within)
