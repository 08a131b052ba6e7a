use Rattle.std.proofs.Common.{◌≡◌, ◌∙◌, ◌+◌, ◌++◌, ◌∷◌, [], ◌<◌, ap, arith, length, length-append, subst, sym}
use Rattle.std.specs.Prelude.{slice_index}
use Rattle.std.proofs.lemmas.List.{get_or_default}
use Rattle.rollup_rec.specs.NodeFolds.{AreAggregates, AreOpen, HasRuns, IsLast}
use Rattle.rollup_rec.proofs.FoldSteps.{Told, found-all, next-kept, own-rest, step}
use Rattle.rollup_rec.proofs.node_folds.aggregates_of.Goals as goal

pub loop-kept-init : goal.loop-kept-init
loop-kept-init g c = λ kept.
    let k = kept.of in
    let vs = kept.vs in
    let numbers = c.args.rows.now.numbers.now in
    let f = kept.folds in
    let size = f.size in
    record {
      own = λ j d h. f.each j d (omega (arith, h, size));
      sum = omega (arith, size, ap length c.in_ok-found.ensures.items);
      runs = subst (λ rs. AreOpen g.P.Partial.kind g.P.Partial.stands_for k c.args.rows.now.numbers.now c.args.rows.now.lasts.now c.args.rows.now.nodes.now vs (length numbers) (length c.args.own.items) rs) (sym c.new-runs.ensures.items) (sym size);
      told = λ x d hx low. absurd (let there = c.requires.numbers x 0 hx in omega (arith, there, low, size));
    }

pub index-requires : goal.index-requires
index-requires g c =
    let inv = c.loop-kept.invariant c.requires.kept in
    let long = ap length c.in-Some.ensures.items ∙ length-append c.pop.new.self.items (c.in-Some.kept ∷ []) in
    let sum = inv.sum in
    let size = c.in_ok-ends.ensures.size in
    omega (arith, long, sum, size, c.len-first.ensures, c.pop.new.self.ok.0, c.in_ok-ends.ends.ok.0)

pub with_runs-requires-clause-last : goal.with_runs-requires-clause-last
with_runs-requires-clause-last g c κs within =
    let inv = c.loop-kept.invariant c.requires.kept in
    let numbers = c.args.rows.now.numbers.now in
    let first = c.len-first.result in
    let long = ap length c.in-Some.ensures.items ∙ length-append c.pop.new.self.items (c.in-Some.kept ∷ []) in
    let sum = inv.sum in
    let so = c.in_ok-ends.ensures in
    let size = so.size in
    let here : first < length numbers = omega (arith, long, sum, c.len-first.ensures, c.pop.new.self.ok.0) in
    let there : first < length c.in_ok-ends.ends.items = omega (arith, here, size) in
    let last-is : c.index.result.now ≡ slice_index c.in_ok-ends.ends.items first = c.index.ensures ∙ get_or_default c.in_ok-ends.ends.items first c.index.result.now 0 there in
    subst (IsLast numbers c.args.rows.now.lasts.now (length numbers) first) (sym last-is) (so.told first there)

pub with_runs-requires-clause-kept : goal.with_runs-requires-clause-kept
with_runs-requires-clause-kept g c κs within =
    let k = c.requires.kept.of in
    let vs = c.requires.kept.vs in
    let inv = c.loop-kept.invariant c.requires.kept in
    let at : c.len-first.result ≡ length c.pop.new.self.items = omega (arith, c.len-first.ensures, c.pop.new.self.ok.0) in
    let next = next-kept g.P.Partial.kind g.P.Partial.stands_for k vs c.args.rows.now.numbers.now c.args.rows.now.lasts.now c.args.rows.now.nodes.now g.P.Aggregated.method c.loop-kept.own.items c.pop.new.self.items c.in-Some.kept c.len-first.result c.loop-kept.runs.items c.in-Some.ensures.items at inv.own inv.runs in
    (vs, next.1, next.2)

pub loop-kept-preserved : goal.loop-kept-preserved
loop-kept-preserved g c = λ kept.
    let k = kept.of in
    let vs = kept.vs in
    let inv = c.loop-kept.invariant kept in
    let numbers = c.args.rows.now.numbers.now in
    let rest = c.pop.new.self.items in
    let first = c.len-first.result in
    let long = ap length c.in-Some.ensures.items ∙ length-append rest (c.in-Some.kept ∷ []) in
    let at : first ≡ length rest = omega (arith, c.len-first.ensures, c.pop.new.self.ok.0) in
    let next = next-kept g.P.Partial.kind g.P.Partial.stands_for k vs c.args.rows.now.numbers.now c.args.rows.now.lasts.now c.args.rows.now.nodes.now g.P.Aggregated.method c.loop-kept.own.items rest c.in-Some.kept first c.loop-kept.runs.items c.in-Some.ensures.items at inv.own inv.runs in
    let sum = inv.sum in
    let here : first < length numbers = omega (arith, long, at, sum) in
    let size = c.in_ok-ends.ensures.size in
    let last-is : c.index.result.now ≡ slice_index c.in_ok-ends.ends.items first = c.index.ensures ∙ get_or_default c.in_ok-ends.ends.items first c.index.result.now 0 (omega (arith, here, size)) in
    let runs = subst (λ q. HasRuns g.P.Partial.kind g.P.Partial.stands_for q c.args.rows.now.numbers.now c.args.rows.now.lasts.now c.args.rows.now.nodes.now vs first c.index.result.now c.in_ok-kept.kept c.with_runs.new.runs.items) next.0 (c.in_ok-kept.ensures.runs vs next.1 next.2) in
    let left : length c.loop-kept.own.items ≡ first + 1 = omega (arith, long, at) in
    let s = step g.P.Partial.kind g.P.Partial.stands_for k vs c.args.rows.now.numbers.now c.args.rows.now.lasts.now c.args.rows.now.nodes.now g.P.Aggregated.method c.in_ok-ends.ends.items first c.index.result.now c.in_ok-kept.kept c.with_runs.new.runs.items c.loop-kept.found.items c.in_ok-outcome.field-0 c.in_ok-ends.ensures c.requires.nests c.requires.nodes c.requires.numbers
    here last-is runs c.in_ok-kept.ensures.past c.in_ok-outcome.ensures.value (omega (arith, sum, long, at)) (λ x d hx low. inv.told x d hx (omega (arith, low, left))) in
    record {
      own = own-rest g.P.Partial.kind g.P.Partial.stands_for k vs c.args.rows.now.numbers.now c.args.rows.now.lasts.now c.args.rows.now.nodes.now g.P.Aggregated.method c.loop-kept.own.items rest c.in-Some.kept c.in-Some.ensures.items inv.own;
      sum = omega (arith, sum, long, ap length c.in_ok-push.ensures.items ∙ length-append c.loop-kept.found.items (c.in_ok-outcome.field-0 ∷ []));
      runs = subst (λ rs. AreOpen g.P.Partial.kind g.P.Partial.stands_for k c.args.rows.now.numbers.now c.args.rows.now.lasts.now c.args.rows.now.nodes.now vs (length numbers) (length rest) rs) (sym c.in_ok-push-2.ensures.items) (subst (λ n. AreOpen g.P.Partial.kind g.P.Partial.stands_for k c.args.rows.now.numbers.now c.args.rows.now.lasts.now c.args.rows.now.nodes.now vs (length numbers) n (c.with_runs.new.runs.items ++ (first, c.in_ok-kept.kept) ∷ [])) at s.0);
      told = λ x d hx low. subst (Told g.P.Partial.kind g.P.Partial.stands_for k vs c.args.rows.now.numbers.now c.args.rows.now.lasts.now c.args.rows.now.nodes.now g.P.Aggregated.method first) (sym c.in_ok-push.ensures.items) s.1 x d hx (omega (arith, low, at));
    }

pub returns : goal.returns
returns g c = λ kept.
    let k = kept.of in
    let vs = kept.vs in
    let inv = c.loop-kept.invariant kept in
    let gone : length c.loop-kept.own.items ≡ 0 = omega (arith, c.in_default.ensures.cases.0, c.loop-kept.own.ok.0) in
    let sum = inv.sum in
    subst (AreAggregates g.P.Aggregated.method c.args.rows.now.numbers.now c.args.rows.now.lasts.now c.args.rows.now.nodes.now vs) (sym c.reverse.ensures.items)
    (found-all g.P.Partial.kind g.P.Partial.stands_for k vs c.args.rows.now.numbers.now c.args.rows.now.lasts.now c.args.rows.now.nodes.now g.P.Aggregated.method c.loop-kept.found.items c.requires.numbers (omega (arith, sum, gone)) (λ x d hx low. inv.told x d hx (omega (arith, gone))))
