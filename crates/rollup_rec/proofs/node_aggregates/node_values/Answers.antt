use Rattle.std.proofs.Common.{arith, map, subst}
use Rattle.std.specs.Prelude.{IfSome}
use Rattle.edm_values.specs.Values.{seen_value}
use Rattle.rollup_rec.specs.NodeFolds.{AreAggregates}
use Rattle.rollup_rec.proofs.NestedNumbers.{are-nested}
use Rattle.rollup_rec.proofs.NumberLists.{numbers-below}
use Rattle.rollup_rec.proofs.UnderLaws.{value-under}
use Rattle.rollup_rec.proofs.node_aggregates.node_values.Goals as goal

pub aggregates_by-requires-clause-numbers : goal.aggregates_by-requires-clause-numbers
aggregates_by-requires-clause-numbers g c κs within = numbers-below c.args.index.now _ _ c.intervals.ensures.value

pub aggregates_by-requires-clause-nests : goal.aggregates_by-requires-clause-nests
aggregates_by-requires-clause-nests g c κs within = are-nested c.args.index.now _ _ c.intervals.ensures.value

pub invariant_of-result : goal.invariant_of-result
invariant_of-result g c = λ k d h.
    let vs = map (λ v. seen_value v) c.args.values.now in
    let told = subst (λ o. IfSome o (λ found. AreAggregates c.args.method c.intervals.result.0.now c.intervals.result.1.now c.args.nodes.now vs found.items)) c.in-Some.is c.in_ok-values.ensures in
    let below = numbers-below c.args.index.now c.intervals.result.0.now c.intervals.result.1.now c.intervals.ensures.value k d h in
    let size = told.size in
    omega (arith, below, size)

pub returns-in-Some-clause-value : goal.returns-in-Some-clause-value
returns-in-Some-clause-value g c = λ x hx.
    let vs = map (λ v. seen_value v) c.args.values.now in
    let told = subst (λ o. IfSome o (λ found. AreAggregates c.args.method c.intervals.result.0.now c.intervals.result.1.now c.args.nodes.now vs found.items)) c.in-Some.is c.in_ok-values.ensures in
    value-under c.args.index.now c.intervals.result.0.now c.intervals.result.1.now c.intervals.ensures.value c.args.nodes.now c.requires.there c.args.method vs _ told x hx
