use Rattle.std.proofs.Common.{◌∙◌, ◌++◌, ◌+◌, ap, drop, sym}
use Rattle.edm_values.specs.Lists.{at_places}
use Rattle.apply_ast.specs.Views.{expr_of}
use Rattle.apply_meaning.specs.Instances.{val}
use Rattle.apply_meaning.specs.Meaning.{values}
use Rattle.apply_meaning.specs.RowViews.{is_of}
use Rattle.row_values.proofs.PlacedLemmas.{next-at, taken-passes}
use Rattle.row_values.proofs.lists.row_values_at.Goals as goal

pub value_on-requires : goal.value_on-requires
value_on-requires c = taken-passes (is_of c.args.store.now) c.args.rows.now c.args.places.now c.loop-at.at-index c.index-rows-at.result c.requires.within c.loop-at-test.true c.index-rows-at.is c.requires.of

pub loop-at-preserved : goal.loop-at-preserved
loop-at-preserved c =
    let w = c.args.store.now in
    let e = expr_of c.args.e.now in
    next-at (λ i. val w i e) c.args.rows.now c.args.places.now c.loop-at.at-index c.index-rows-at.result c.loop-at.found.items c.in_ok-value_on.field-0 c.requires.within c.loop-at-test.true c.index-rows-at.is c.in_ok-value_on.ensures c.loop-at.invariant
    ∙ ap (λ vs. vs ++ values w e (at_places c.args.rows.now (drop (c.loop-at.at-index + 1) c.args.places.now))) (sym c.in_ok-push.ensures.items)
