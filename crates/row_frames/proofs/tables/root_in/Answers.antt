use Rattle.std.proofs.Common.{◌∙◌}
use Rattle.row_frames.proofs.TableLemmas.{root-of}
use Rattle.row_frames.proofs.tables.root_in.Goals as goal

pub returns : goal.returns
returns c = c.root_at.ensures ∙ root-of c.args.table.now c.args.k c.requires.paths
