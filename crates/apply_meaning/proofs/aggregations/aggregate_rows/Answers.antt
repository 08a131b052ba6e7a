use Rattle.std.proofs.Common.{◌∙◌, ◌∷◌, [], ◌++◌, ap, sym, subst, refl, map, take, arith, IsTrue}
use Rattle.std.proofs.lemmas.List.{take_all}
use Rattle.apply_ast.specs.Views.{agg_of}
use Rattle.apply_meaning.specs.Instances.{no_instance}
use Rattle.apply_meaning.specs.Meaning.{item_value}
use Rattle.apply_meaning.specs.RowViews.{IsRow, columns_differ}
use Rattle.apply_meaning.specs.Running.{IsSummable, is_standard}
use Rattle.apply_meaning.proofs.AggregationLemmas.{columns-more, standard-at, summable-at}
use Rattle.apply_meaning.proofs.aggregations.aggregate_rows.Goals as goal

pub item_value-requires-clause-standard : goal.item_value-requires-clause-standard
item_value-requires-clause-standard g c =
    ap (λ x. is_standard (agg_of x)) c.item-item.is ∙ standard-at c.args.items.now c.loop-item.item-index c.item-item.result c.requires.standard c.loop-item-test.true

pub item_value-requires-clause-summable : goal.item_value-requires-clause-summable
item_value-requires-clause-summable g c =
    subst (λ x. IsSummable c.args.store.now c.args.rows.now (agg_of x)) (sym c.item-item.is) (summable-at c.args.store.now c.args.rows.now c.args.items.now c.loop-item.item-index c.item-item.result c.requires.summable c.loop-item-test.true)

pub loop-item-preserved : goal.loop-item-preserved
loop-item-preserved g c = λ c' S.
    let w = c.args.store.now in
    let l = c.args.rows.now in
    c.in_ok-push.ensures.items
    ∙ ap (λ xs. xs ++ c.in_ok-item_value.field-0 ∷ []) (c.loop-item.invariant c' S)
    ∙ ap (λ x. map (item_value w c' S l) (map agg_of (take c.loop-item.item-index c.args.items.now)) ++ x ∷ []) (c.in_ok-item_value.ensures c' S)
    ∙ sym (columns-more w c' S l c.args.items.now c.loop-item.item-index c.item-item.result c.loop-item-test.true c.item-item.is)

pub make-requires : goal.make-requires
make-requires g c =
    let d = c.requires.differ in
    let whole = c.loop-item.invariant d.0 d.1 ∙ ap (λ xs. map (item_value c.args.store.now d.0 d.1 c.args.rows.now) (map agg_of xs)) (take_all c.loop-item.item-index c.args.items.now (omega (arith, c.loop-item-test.false))) in
    subst (λ ps. IsRow ps c.loop-item.columns.items) (sym c.new.ensures.items) (record { paths = refl; prefixes = refl; columns = subst (λ cs. IsTrue (columns_differ cs)) (sym whole) d.2 })

pub returns-clause-row : goal.returns-clause-row
returns-clause-row g c = λ c' S.
    let whole = c.loop-item.invariant c' S ∙ ap (λ xs. map (item_value c.args.store.now c' S c.args.rows.now) (map agg_of xs)) (take_all c.loop-item.item-index c.args.items.now (omega (arith, c.loop-item-test.false))) in
    rw c.make.ensures.row ((λ i. record no_instance { prefixes = c.new.ensures.items i; columns = whole i }))
