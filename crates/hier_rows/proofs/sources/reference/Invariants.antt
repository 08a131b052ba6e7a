use Rattle.hier_rows.proofs.sources.reference.Given as goal

-- nothing has to be known
abbrev pub invariant-loop-nav : goal.invariant-loop-nav
invariant-loop-nav l = Unit {0}
