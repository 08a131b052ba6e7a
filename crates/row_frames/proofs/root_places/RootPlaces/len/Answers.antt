use Rattle.std.proofs.Common.{◌∙◌, ap, length, sym}
use Rattle.std.proofs.lemmas.List.{length-map}
use Rattle.row_frames.specs.declared.tables.Pick.{Pick}
use Rattle.row_frames.specs.Frames.{place_in}
use Rattle.row_frames.proofs.root_places.RootPlaces.len.Goals as goal

pub returns : goal.returns
returns c = record { value = c.len.ensures ∙ sym (length-map c.self.inside.picks.now (λ (x : Pick). place_in c.self.inside.roots.now x.row)) ∙ ap length c.self.view_is }
