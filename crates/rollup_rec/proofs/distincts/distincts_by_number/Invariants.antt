use Rattle.std.proofs.Common.{◌≡◌, ◌≤◌, List, length}
use Rattle.std.specs.Prelude.{All}
use Rattle.edm_values.specs.declared.Value.{Value}
use Rattle.rollup_rec.specs.NodeDistincts.{AreToldBy}
use Rattle.rollup_rec.proofs.DistinctRuns.{AreCountedTo}
use Rattle.rollup_rec.proofs.distincts.distincts_by_number.Given as goal

-- the marks are those of the runs so far, whose values are counted
abbrev pub invariant-loop-first : goal.invariant-loop-first
invariant-loop-first l = record {
  size : length l.marks.items ≡ length l.nulls;
  marks : All (λ m. m ≤ l.first) l.marks.items;
  long : length l.found.items ≡ l.first;
  told : (vs : List Value) → AreToldBy vs l.codes l.nulls → AreCountedTo vs l.rows.numbers.now l.rows.lasts.now l.rows.nodes.now l.first l.found.items;
}
