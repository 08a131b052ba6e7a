use Rattle.std.proofs.Common.{◌∙◌, ap, arith, sym}
use Rattle.edm_values.specs.Values.{is_beyond}
use Rattle.json_render.proofs.SlotLemmas.{beyond-more, beyond-there}
use Rattle.json_render.proofs.body.has_beyond.Goals as goal

pub returns-then-is_beyond : goal.returns-then-is_beyond
returns-then-is_beyond c =
    sym (beyond-there c.args.row.now.columns c.loop-k.k (ap is_beyond (sym c.column.ensures) ∙ sym c.is_beyond.ensures.value ∙ c.if-is_beyond.true))

pub loop-k-preserved : goal.loop-k-preserved
loop-k-preserved c =
    let end = c.column_count-k-end.ensures in
    beyond-more c.args.row.now.columns c.loop-k.k (omega (arith, c.loop-k-test.true, end)) (ap is_beyond (sym c.column.ensures) ∙ sym c.is_beyond.ensures.value ∙ c.if-is_beyond.false) c.loop-k.invariant
