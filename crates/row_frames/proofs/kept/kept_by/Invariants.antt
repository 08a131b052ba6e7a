use Rattle.row_frames.proofs.KeptLemmas.{KeptUpto}
use Rattle.row_frames.proofs.kept.kept_by.Given as goal

-- the picks that are kept so far
abbrev pub invariant-loop-k : goal.invariant-loop-k
invariant-loop-k l = KeptUpto l.answers l.picks l.k l.kept.items
