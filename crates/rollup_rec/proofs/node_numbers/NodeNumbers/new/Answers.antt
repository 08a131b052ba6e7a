use Rattle.std.proofs.Common.{◌∙◌, ap, sym}
use Rattle.rollup_rec.specs.NodeRows.{row_numbers}
use Rattle.rollup_rec.proofs.node_numbers.NodeNumbers.new.Goals as goal

pub invariant_of-result : goal.invariant_of-result
invariant_of-result c =
    let intervals = c.intervals.ensures.value in
    record {
      intervals = intervals;
      within = c.requires.there;
      told = c.in_ok-of_rows.ensures ∙ ap (λ n. row_numbers c.intervals.result.0.now n c.args.nodes.now) (c.count.ensures.value ∙ sym intervals.numbers_size);
    }
