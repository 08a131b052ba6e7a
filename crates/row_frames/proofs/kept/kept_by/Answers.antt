use Rattle.std.proofs.Common.{arith}
use Rattle.row_frames.proofs.KeptLemmas.{kept-step}
use Rattle.row_frames.proofs.kept.kept_by.Goals as goal

pub loop-k-preserved : goal.loop-k-preserved
loop-k-preserved c =
    let same = c.requires in
    kept-step c.args.answers.now c.args.picks.now c.loop-k.k _ _ c.loop-k.kept.items c.in_ok-kept-in-Some.kept.items c.in-Some.keep c.loop-k.invariant (omega (arith, same)) c.loop-k-test.true c.in-Some.is c.in_ok-kept-in-Some.ensures
