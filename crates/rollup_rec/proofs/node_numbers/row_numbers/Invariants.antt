use Rattle.std.proofs.Common.{◌≡◌, take}
use Rattle.rollup_rec.specs.NodeRows.{row_numbers}
use Rattle.rollup_rec.proofs.node_numbers.row_numbers.Given as goal

-- those of the rows so far
abbrev pub invariant-loop-node : goal.invariant-loop-node
invariant-loop-node l = l.found.items ≡ row_numbers l.numbers l.none (take l.node-index l.nodes)
