use Rattle.std.proofs.Common.{get_or, sym}
use Rattle.row_frames.proofs.gathered.gathered_roots.Goals as goal

pub returns-in-None : goal.returns-in-None
returns-in-None c = λ k d h. sym (c.roots_set.ensures.none (get_or c.args.rows.now k d) c.in-None.is)
