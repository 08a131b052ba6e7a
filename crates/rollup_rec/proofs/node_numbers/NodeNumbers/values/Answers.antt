use Rattle.std.proofs.Common.{◌≡◌, ◌∙◌, ◌<◌, ℕ, ap, arith, length, subst, sym}
use Rattle.std.specs.Prelude.{IfSome, slice_index_or}
use Rattle.edm_values.specs.declared.Value.TheVariants.{Null}
use Rattle.edm_values.specs.Lists.{at_places}
use Rattle.edm_data.specs.Hierarchies.{rows_under}
use Rattle.apply_ast.specs.Views.{expr_of}
use Rattle.apply_meaning.specs.Aggregates.{aggregate}
use Rattle.apply_meaning.specs.Meaning.{values}
use Rattle.rollup_rec.specs.NodeFolds.{AreAggregates}
use Rattle.rollup_rec.specs.NodeRows.{NodeNumbersState}
use Rattle.rollup_rec.proofs.NestedNumbers.{are-nested}
use Rattle.rollup_rec.proofs.NumberLists.{numbers-below}
use Rattle.rollup_rec.proofs.UnderLaws.{size-under, value-under}
use Rattle.rollup_rec.proofs.node_numbers.NodeNumbers.values.Goals as goal

pub aggregates_on-requires-clause-numbers : goal.aggregates_on-requires-clause-numbers
aggregates_on-requires-clause-numbers g c κs within = numbers-below c.self.inside.index.now _ _ c.self.invariant.intervals

pub aggregates_on-requires-clause-nests : goal.aggregates_on-requires-clause-nests
aggregates_on-requires-clause-nests g c κs within = are-nested c.self.inside.index.now _ _ c.self.invariant.intervals

pub aggregates_on-requires-clause-size : goal.aggregates_on-requires-clause-size
aggregates_on-requires-clause-size g c κs within =
    let P : NodeNumbersState → Type 0 = λ t. length c.args.list.now ≡ length t.nodes in
    subst P (sym c.self.view_is) c.requires.size

pub new-requires : goal.new-requires
new-requires g c = λ k d h.
    let s = c.self.inside in
    let vs = values c.args.store.now (expr_of c.args.e.now) c.args.list.now in
    let told = subst (λ o. IfSome o (λ found. AreAggregates c.args.method s.numbers.now s.lasts.now s.nodes.now vs found.items)) c.in-Some.is c.in_ok-found.ensures in
    let below = numbers-below s.index.now s.numbers.now s.lasts.now c.self.invariant.intervals k d h in
    let size = told.size in
    omega (arith, below, size)

pub returns-in-Some-clause-size : goal.returns-in-Some-clause-size
returns-in-Some-clause-size g c =
    let s = c.self.inside in
    let P : NodeNumbersState → Type 0 = λ t. length c.new.result ≡ length t.parents in
    subst P c.self.view_is (ap length c.new.ensures ∙ size-under s.index.now s.numbers.now s.lasts.now c.self.invariant.intervals s.nodes.now c.self.invariant.within c.in-Some.values.items)

pub returns-in-Some-clause-value : goal.returns-in-Some-clause-value
returns-in-Some-clause-value g c =
    let s = c.self.inside in
    let vs = values c.args.store.now (expr_of c.args.e.now) c.args.list.now in
    let told = subst (λ o. IfSome o (λ found. AreAggregates c.args.method s.numbers.now s.lasts.now s.nodes.now vs found.items)) c.in-Some.is c.in_ok-found.ensures in
    let P : NodeNumbersState → Type 0 = λ t. (x : ℕ) → x < length t.parents → slice_index_or c.new.result x Null ≡ aggregate c.args.method (at_places vs (rows_under t.parents x t.nodes)) in
    subst P c.self.view_is
    (λ x hx. ap (λ l. slice_index_or l x Null) c.new.ensures ∙ value-under s.index.now s.numbers.now s.lasts.now c.self.invariant.intervals s.nodes.now c.self.invariant.within c.args.method vs c.in-Some.values.items told x hx)
