use Rattle.std.proofs.Common.{◌∙◌, ap, take}
use Rattle.row_frames.proofs.FrameLemmas.{top-picked}
use Rattle.row_frames.proofs.frames.Frame.top.Goals as goal

pub returns : goal.returns
returns c = record {
  value = top-picked c.self.inside.tables.items c.args.n c.self.inside.picks c.first-picks.result c.first-picks.ensures
      ∙ ap (take c.args.n) c.self.view_is;
}
