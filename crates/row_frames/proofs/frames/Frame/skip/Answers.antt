use Rattle.std.proofs.Common.{◌∙◌, ap, drop}
use Rattle.row_frames.proofs.FrameLemmas.{skip-picked}
use Rattle.row_frames.proofs.frames.Frame.skip.Goals as goal

pub returns : goal.returns
returns c = record {
  value = skip-picked c.self.inside.tables.items c.args.n c.self.inside.picks c.later-picks.result c.later-picks.ensures
      ∙ ap (drop c.args.n) c.self.view_is;
}
