use Rattle.std.proofs.Common.{◌∙◌, ap, length, sym}
use Rattle.std.proofs.lemmas.List.{length-map}
use Rattle.row_frames.specs.Frames.{read_at}
use Rattle.row_frames.proofs.frame_readers.FrameReader.len.Goals as goal

pub returns : goal.returns
returns c = record { value = c.len.ensures ∙ sym (length-map c.self.inside.picks.now (read_at c.self.inside.readers.items)) ∙ ap length c.self.view_is }
