use Rattle.std.proofs.Common.{◌∙◌, ap, length, map, subst, sym}
use Rattle.std.specs.Prelude.{IfOk, IfSome}
use Rattle.std.proofs.lemmas.List.{length-map}
use Rattle.edm_values.specs.declared.Method.TheVariants as by
use Rattle.edm_values.specs.Values.{seen_value}
use Rattle.apply_ast.specs.Views.{expr_of}
use Rattle.apply_meaning.specs.Instances.{val}
use Rattle.rollup_rec.specs.NodeFolds.{AreAggregates}
use Rattle.rollup_rec.proofs.node_numbers.distincts_on.Goals as goal

pub distinct_aggregates-requires-clause-size : goal.distinct_aggregates-requires-clause-size
distinct_aggregates-requires-clause-size g c κs within =
    ap length c.as_slice.ensures.value ∙ sym (length-map c.in_ok-seen.seen.items (λ v. seen_value v)) ∙ ap length c.in_ok-seen.ensures.value ∙ length-map c.args.list.now (λ i. val c.args.store.now i (expr_of c.args.e.now)) ∙ c.requires.size

pub returns : goal.returns
returns g c =
    let rows = c.args.rows.now in
    subst (λ vs. IfOk c.distinct_aggregates.result (λ o. IfSome o (λ found. AreAggregates by.CountDistinct rows.numbers.now rows.lasts.now rows.nodes.now vs found.items)))
    (ap (map (λ v. seen_value v)) c.as_slice.ensures.value ∙ c.in_ok-seen.ensures.value) c.distinct_aggregates.ensures
