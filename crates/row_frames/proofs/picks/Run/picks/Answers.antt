use Rattle.std.proofs.Common.{◌∙◌, ◌<◌, arith, ap, length, refl, take}
use Rattle.std.proofs.lemmas.List.{take_all}
use Rattle.row_frames.specs.Runs.{run_rows}
use Rattle.row_frames.specs.declared.tables.Pick.{Pick}
use Rattle.row_frames.proofs.RunLemmas.{map-self, more-taken}
use Rattle.row_frames.proofs.picks.Run.picks.Goals as goal

pub loop-k-preserved : goal.loop-k-preserved
loop-k-preserved c =
    let xs = run_rows c.args.self in
    let within : c.loop-k.k < length xs = omega arith in
    more-taken (λ (x : Pick). x) xs c.loop-k.k c.at.result c.at.result c.loop-k.picks.items c.push.new.self.items within (c.at.ensures c.at.result) refl c.in_ok-push.ensures.items c.loop-k.invariant

pub returns : goal.returns
returns c =
    let xs = run_rows c.args.self in
    c.loop-k.invariant ∙ map-self (take c.loop-k.k xs) ∙ take_all c.loop-k.k xs (omega arith)
