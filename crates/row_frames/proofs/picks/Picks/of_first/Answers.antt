use Rattle.std.proofs.Common.{◌≡◌, ◌∙◌, ◌-◌, ap, arith}
use Rattle.row_frames.specs.Runs.{rows_from}
use Rattle.row_frames.proofs.RunLemmas.{rows-places}
use Rattle.row_frames.proofs.picks.Picks.of_first.Goals as goal

pub returns : goal.returns
returns c = let e : c.args.n - 0 ≡ c.args.n = omega arith in ap (rows_from 0) e ∙ rows-places c.args.n
