use Rattle.std.proofs.Common.{◌-◌, arith}
use Rattle.row_frames.proofs.RunLemmas.{rows-length}
use Rattle.row_frames.proofs.picks.Run.len.Goals as goal

pub returns : goal.returns
returns c = omega (arith, rows-length c.args.self.from (c.args.self.to - c.args.self.from))
