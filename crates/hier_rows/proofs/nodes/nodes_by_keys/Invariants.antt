use Rattle.hier_rows.proofs.KeyNodes.{AreLeft}
use Rattle.hier_rows.proofs.nodes.nodes_by_keys.Given as goal

-- the nodes so far and those of the keys that are left are all; a `Beyond` key is left
abbrev pub invariant-loop-k : goal.invariant-loop-k
invariant-loop-k l = AreLeft l.store l.set l.keys l.nodes.items l.k
