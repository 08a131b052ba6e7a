use Rattle.std.proofs.Common.{◌≡◌, drop}
use Rattle.row_frames.specs.Hops.{reached}
use Rattle.row_frames.proofs.hops.property_over.Given as goal

-- what is left to follow leads where all does
abbrev pub invariant-loop-hop : goal.invariant-loop-hop
invariant-loop-hop l = reached l.store l.at (drop l.hop-index l.hops) ≡ reached l.store l.fn.root l.hops
