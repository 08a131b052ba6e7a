use Rattle.std.proofs.Common.{◌≡◌, ◌∙◌, ◌-◌}
use Rattle.row_frames.proofs.RunLemmas.{rows-length, run-has, run-has-none}
use Rattle.row_frames.proofs.computed.run_has_pick.Goals as goal

pub returns-then-n-eq0 : goal.returns-then-n-eq0
returns-then-n-eq0 c =
    let from = c.args.run.from in
    let n = c.args.run.to - from in
    run-has from n c.args.n c.len.result c.if-n-eq0.true (c.len.ensures ∙ rows-length from n)

pub returns : goal.returns
returns c = run-has-none c.args.run.from (c.args.run.to - c.args.run.from) c.args.n c.if-n-eq0.false
