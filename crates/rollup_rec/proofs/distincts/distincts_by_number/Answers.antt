use Rattle.std.proofs.Common.{◌≡◌, ◌∙◌, ◌-◌, ◌∷◌, [], ◌<◌, ap, arith, drop, length, length-append, subst, sym, take}
use Rattle.std.specs.Prelude.{All, pos}
use Rattle.std.proofs.lemmas.List.{get_or_default}
use Rattle.edm_values.specs.declared.Value.{Value}
use Rattle.rollup_rec.specs.NodeRows.{IsByNumber}
use Rattle.rollup_rec.proofs.DistinctRuns.{counted-more, many_among, run-counted}
use Rattle.rollup_rec.proofs.UnderLaws.{run-within}
use Rattle.rollup_rec.proofs.distincts.distincts_by_number.Goals as goal

pub distinct_among-many-requires-clause-rows : goal.distinct_among-many-requires-clause-rows
distinct_among-many-requires-clause-rows c =
    let numbers = c.args.rows.now.numbers.now in
    let nodes = c.args.rows.now.nodes.now in
    let places = c.as_slice-places.result.now in
    let ordered = subst (IsByNumber numbers nodes) (sym c.as_slice-places.ensures.value) c.in_ok-ordered.ensures in
    let long : length nodes ≡ length c.as_slice-told.result.now = sym (ap length c.as_slice-told.ensures.value ∙ c.requires.size) in
    subst (λ n. All (λ r. r < n) (take (c.bounds-begin.result.1 - c.bounds-begin.result.0) (drop c.bounds-begin.result.0 places))) long
    (run-within numbers nodes places ordered c.bounds-begin.result.0 (c.bounds-begin.result.1 - c.bounds-begin.result.0))

pub loop-first-preserved : goal.loop-first-preserved
loop-first-preserved c =
    let numbers = c.args.rows.now.numbers.now in
    let nodes = c.args.rows.now.nodes.now in
    let lasts = c.args.rows.now.lasts.now in
    let places = c.as_slice-places.result.now in
    let first = c.loop-first.first in
    let ordered = subst (IsByNumber numbers nodes) (sym c.as_slice-places.ensures.value) c.in_ok-ordered.ensures in
    let long = c.loop-first.invariant.long in
    let begin = c.bounds-begin.result.0 in
    let end = c.bounds-begin.result.1 in
    record {
      size = c.distinct_among-many.ensures.size;
      marks = c.distinct_among-many.ensures.marks;
      long = omega (arith, long, ap length c.in_ok-push.ensures.items ∙ length-append c.loop-first.found.items (c.in_ok-count.field-0 ∷ []));
      told = λ vs so.
          counted-more vs numbers lasts nodes first c.loop-first.found.items c.push.new.self.items c.in_ok-count.field-0 c.in_ok-ends.ends.items c.index.result.now c.in_ok-ends.ensures long c.in_ok-push.ensures.items (c.index.ensures ∙ get_or_default c.in_ok-ends.ends.items first c.index.result.now 0 (omega (arith, c.loop-first-test.true, c.len-first-end.ensures, c.in_ok-ends.ends.ok.0)))
          (c.in_ok-count.ensures.value ∙ ap (λ n. Value.Int (pos n)) (c.distinct_among-many.ensures.value ∙ ap (λ ts. many_among ts c.args.nulls.now (take (end - begin) (drop begin places))) c.as_slice-told.ensures.value)
          ∙ run-counted vs c.args.codes.now c.args.nulls.now so numbers nodes places ordered c.requires.size first c.index.result.now begin (end - begin) c.bounds-begin.ensures.value)
          (c.loop-first.invariant.told vs so);
    }

pub returns : goal.returns
returns c = λ vs so.
    let long = c.loop-first.invariant.long in
    let size = c.in_ok-ends.ensures.size in
    let all : length c.loop-first.found.items ≡ length c.args.rows.now.numbers.now = omega (arith, long, size, c.loop-first-test.false, c.loop-first.auto.first-end, c.len-first-end.ensures, c.in_ok-ends.ends.ok.0) in
    record {
      size = all;
      each = λ x d hx. c.loop-first.invariant.told vs so x d hx (let low = c.requires.numbers x 0 hx in omega (arith, low, all, long));
    }
