use Rattle.row_frames.proofs.references.reference.Given as goal

-- nothing has to be known
abbrev pub invariant-loop-nav : goal.invariant-loop-nav
invariant-loop-nav l = Unit {0}
