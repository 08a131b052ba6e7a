use Rattle.std.proofs.Common.{◌-◌, ◌∙◌, ap, take}
use Rattle.row_frames.specs.Frames.{all_picked}
use Rattle.row_frames.specs.Runs.{part_rows}
use Rattle.row_frames.proofs.ShownLemmas.{part-picked}
use Rattle.row_frames.proofs.shown.part_of.Goals as goal

pub returns : goal.returns
returns c =
    let ts = c.args.tables.now in
    let n = c.args.to - c.args.from in
    c.shown_rows.ensures ∙ ap (all_picked ts) (c.first.ensures ∙ ap (take n) c.later.ensures) ∙ part-picked ts n c.args.from (part_rows c.args.picks.now)
