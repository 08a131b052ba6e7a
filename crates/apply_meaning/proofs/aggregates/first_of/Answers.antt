use Rattle.std.proofs.Common.{◌∙◌, ap, arith}
use Rattle.edm_values.specs.Values.{seen_value}
use Rattle.apply_meaning.specs.Meaning.{item_before}
use Rattle.apply_meaning.proofs.AggregateForms.{first-before, picked}
use Rattle.apply_meaning.proofs.aggregates.first_of.Goals as goal

pub loop-k-preserved : goal.loop-k-preserved
loop-k-preserved c =
    c.earlier-first.ensures ∙ ap (picked (item_before c.args.descends) (seen_value c.index-values-k.result)) c.loop-k.invariant
    ∙ first-before c.args.descends c.args.values.now c.loop-k.k c.index-values-k.result (omega (arith, c.loop-k-test.true)) (omega (arith, c.loop-k.auto.k)) c.index-values-k.is
