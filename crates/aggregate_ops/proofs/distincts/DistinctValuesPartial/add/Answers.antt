use Rattle.std.proofs.Common.{◌∙◌, ap, subst, sym}
use Rattle.indexmap.specs.IndexSet.{insert_key}
use Rattle.edm_values.specs.Values.{is_null, same_value}
use Rattle.aggregate_ops.specs.Partials.{IsDistinctOf}
use Rattle.aggregate_ops.proofs.PartialLemmas.{IsDistinctOf-more}
use Rattle.aggregate_ops.proofs.distincts.DistinctValuesPartial.add.Goals as goal

pub returns-in_ok-insert-clause-added : goal.returns-in_ok-insert-clause-added
returns-in_ok-insert-clause-added c = λ xs h.
    rw (c.is_beyond.ensures.value, c.value-value.ensures.value)
    (IsDistinctOf-more _ c.insert.new.self.keys xs c.args.item.now _ (ap is_null (sym c.value-value.ensures.value) ∙ sym c.is_null.ensures.value ∙ c.if-not-is_null.true)
    (c.in_ok-insert.ensures.keys ∙ ap (insert_key same_value c.self.inside.values.keys) c.in_ok-again.ensures)
    (subst (λ s. IsDistinctOf s xs) (sym c.self.view_is) h))
