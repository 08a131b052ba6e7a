use Rattle.std.proofs.Common.{◌∙◌, ap, length, sym}
use Rattle.std.proofs.lemmas.List.{length-map}
use Rattle.row_frames.specs.Frames.{picked}
use Rattle.row_frames.specs.Runs.{part_rows}
use Rattle.row_frames.proofs.shown.FrameRows.len.Goals as goal

pub returns : goal.returns
returns c = record { value = c.len.ensures ∙ sym (length-map (part_rows c.self.inside.picks) (picked c.self.inside.tables.now)) ∙ ap length c.self.view_is }
