use Rattle.std.proofs.Common.{◌≤◌, sym, ◌∙◌, ap, arith, length, map}
use Rattle.std.specs.List.{list_all}
use Rattle.std.proofs.Math.ListN.{drop_of_length-le}
use Rattle.apply_ast.specs.Views.{expr_of}
use Rattle.optimiser.specs.HeldSegments.{is_right, segments_of}
use Rattle.walk_laws.specs.Walks as spec
use Rattle.optimiser.proofs.HeldLists.{filters-next}
use Rattle.optimiser.proofs.putting.put_filters.Goals as goal

pub put_filter-requires-clause-right : goal.put_filter-requires-clause-right
put_filter-requires-clause-right c = ap (list_all (λ x. is_right c.args.m.now x.1)) c.loop-e.invariant.kept ∙ c.requires.right

pub loop-e-preserved : goal.loop-e-preserved
loop-e-preserved c = record {
  value = λ w. filters-next c.args.m.now c.args.shape.now expr_of c.args.es.now c.loop-e.e-index c.e-item.result (expr_of c.in_ok-copy.field-0) _ _ c.loop-e-test.true c.e-item.is c.in_ok-copy.ensures.value (c.in_ok-put_filter.ensures.value w) ∙ c.loop-e.invariant.value w;
  kept = c.in_ok-put_filter.ensures.kept ∙ c.loop-e.invariant.kept;
}

pub returns-clause-value : goal.returns-clause-value
returns-clause-value c w =
    let end : length c.args.es.now ≤ c.loop-e.e-index = omega (arith, c.loop-e-test.false) in
    sym (ap (λ l. spec.put_filters c.args.m.now c.args.shape.now (map expr_of l) (segments_of c.args.m.now w c.loop-e.segments.items)) (drop_of_length-le c.args.es.now end)) ∙ c.loop-e.invariant.value w
