use Rattle.std.proofs.Common.{◌∙◌, length-set, refl}
use Rattle.aggregate_ops.proofs.FrontLemmas.{row-goes, rows-gone}
use Rattle.aggregate_ops.proofs.fronts.put_rows.Goals as goal

pub loop-row-init : goal.loop-row-init
loop-row-init c = record { size = refl; put = λ n keys fronts apart start told. start }

pub loop-row-preserved : goal.loop-row-preserved
loop-row-preserved c = record {
  size = length-set c.loop-row.groups.items _ _ ∙ c.loop-row.invariant.size;
  put = λ n keys fronts apart start told.
      row-goes n keys fronts c.args.numbers.now c.loop-row.groups.items c.loop-row.row c.index_mut.result.now _ apart told c.loop-row-test.true (c.loop-row.invariant.put n keys fronts apart start told) c.index_mut.ensures.value c.in_ok-add.ensures;
}

pub returns : goal.returns
returns c = λ n keys fronts apart start told. c.loop-row.invariant.put n keys fronts apart start told ∙ rows-gone n keys fronts c.args.numbers.now c.loop-row.row told c.loop-row-test.false
