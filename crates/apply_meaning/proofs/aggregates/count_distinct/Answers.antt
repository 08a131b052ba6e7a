use Rattle.std.proofs.Common.{◌∙◌, ap, sym, map, take}
use Rattle.edm_values.specs.Lists.{distinct}
use Rattle.apply_meaning.proofs.SumLaws.{kept}
use Rattle.edm_values.specs.Values.{same_value, seen_value}
use Rattle.indexmap.specs.IndexSet.{insert_key}
use Rattle.apply_meaning.proofs.AggregateForms.{distinct-more, distinct-same}
use Rattle.apply_meaning.proofs.aggregates.count_distinct.Goals.{then-not-is_null+in_ok-own+in_ok-insert, else-not-is_null}
use Rattle.apply_meaning.proofs.aggregates.count_distinct.Goals as goal

pub loop-value-preserved : goal.loop-value-preserved
loop-value-preserved c =
    let vs = c.args.values.now in
    let k = c.loop-value.value-index in
    let v = c.value-item.result in
    elim c.if-not-is_null.branch [
      | then-not-is_null+in_ok-own+in_ok-insert w ↦
          rw w.seen-is (w.in_ok-insert.ensures.keys
          ∙ ap (λ ks. insert_key same_value ks w.in_ok-own.field-0) c.loop-value.invariant
          ∙ ap (insert_key same_value (distinct same_value (kept (map seen_value (take k vs))))) w.in_ok-own.ensures.value
          ∙ distinct-more vs k v c.loop-value-test.true c.value-item.is (sym c.is_null.ensures.value ∙ w.if-not-is_null.true))
      | else-not-is_null w ↦ rw w.seen-is (c.loop-value.invariant ∙ distinct-same vs k v c.loop-value-test.true c.value-item.is (sym c.is_null.ensures.value ∙ w.if-not-is_null.false))
    ]
