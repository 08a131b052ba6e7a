use Rattle.std.proofs.Common.{◌∙◌, ap, length, sym}
use Rattle.std.proofs.lemmas.List.{length-map}
use Rattle.row_frames.specs.Frames.{picked}
use Rattle.row_frames.proofs.frames.Frame.len.Goals as goal

pub returns : goal.returns
returns c = record { value = c.len.ensures ∙ sym (length-map c.self.inside.picks (picked c.self.inside.tables.items)) ∙ ap length c.self.view_is }
