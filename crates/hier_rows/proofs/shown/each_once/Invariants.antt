use Rattle.std.proofs.Common.{◌≡◌, nat_eq, take}
use Rattle.edm_values.specs.Lists.{distinct}
use Rattle.hier_rows.proofs.ShownLaws.{AreMarked}
use Rattle.hier_rows.proofs.shown.each_once.Given as goal

-- the nodes so far are found once, and these are marked
abbrev pub invariant-loop-node : goal.invariant-loop-node
invariant-loop-node l = (l.found.items ≡ distinct nat_eq (take l.node-index l.nodes)) × AreMarked l.count l.found.items l.marks.items
