use Rattle.std.proofs.Common.{◌∙◌, ◌∷◌, [], ◌++◌, ap, sym, subst, refl, map, take, arith, IsTrue}
use Rattle.std.specs.Prelude.{is_some}
use Rattle.std.proofs.lemmas.List.{take_all}
use Rattle.apply_ast.specs.Views.{agg_of}
use Rattle.context_typing.specs.Readings.{readings}
use Rattle.context_typing.specs.Typing.{item_column}
use Rattle.apply_meaning.specs.Instances.{no_instance}
use Rattle.apply_meaning.specs.Meaning.{item_value}
use Rattle.apply_meaning.specs.RowViews.{IsRow, columns_differ}
use Rattle.step_run.proofs.CustomLemmas.{columns-more, typed-at}
use Rattle.step_run.proofs.aggregations.aggregate_row.Goals as goal

pub item_value-requires-clause-ready : goal.item_value-requires-clause-ready
item_value-requires-clause-ready g c κs within =
    let x = c.args.context.now in
    let r = c.requires.ready in (
      r.0,
      record {
        root_is = (r.1).root_is;
        typed = ap (λ i. is_some (item_column x.world.model (readings x.customs) r.0 (agg_of i))) c.item-item.is
            ∙ typed-at (λ i. is_some (item_column x.world.model (readings x.customs) r.0 i)) c.args.items.now c.loop-item.item-index c.item-item.result (r.1).typed c.loop-item-test.true;
        fit = (r.1).fit;
      },
    )

pub loop-item-preserved : goal.loop-item-preserved
loop-item-preserved g c = λ S h.
    let x = c.args.context.now in
    let l = c.args.rows.now in
    c.in_ok-push.ensures.items
    ∙ ap (λ xs. xs ++ c.in_ok-item_value.field-0 ∷ []) (c.loop-item.invariant S h)
    ∙ ap (λ y. map (item_value x.world (readings x.customs) S l) (map agg_of (take c.loop-item.item-index c.args.items.now)) ++ y ∷ []) (c.in_ok-item_value.ensures S h)
    ∙ sym (columns-more x.world (readings x.customs) S l c.args.items.now c.loop-item.item-index c.item-item.result c.loop-item-test.true c.item-item.is)

pub make-requires : goal.make-requires
make-requires g c =
    let x = c.args.context.now in
    let r = c.requires.ready in
    let whole = c.loop-item.invariant r.0 (r.1).root_is ∙ ap (λ xs. map (item_value x.world (readings x.customs) r.0 c.args.rows.now) (map agg_of xs)) (take_all c.loop-item.item-index c.args.items.now (omega (arith, c.loop-item-test.false))) in
    subst (λ ps. IsRow ps c.loop-item.columns.items) (sym c.new.ensures.items) (record { paths = refl; prefixes = refl; columns = subst (λ cs. IsTrue (columns_differ cs)) (sym whole) (r.1).differ })

pub returns-clause-row : goal.returns-clause-row
returns-clause-row g c = λ S h.
    let x = c.args.context.now in
    let whole = c.loop-item.invariant S h ∙ ap (λ xs. map (item_value x.world (readings x.customs) S c.args.rows.now) (map agg_of xs)) (take_all c.loop-item.item-index c.args.items.now (omega (arith, c.loop-item-test.false))) in
    rw c.make.ensures.row ((λ i. record no_instance { prefixes = c.new.ensures.items i; columns = whole i }))
