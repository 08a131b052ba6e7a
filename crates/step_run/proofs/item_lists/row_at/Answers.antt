use Rattle.std.proofs.Common.{◌∙◌, ◌∷◌, [], ◌++◌, ap, sym, subst, refl, map, take, arith, IsTrue}
use Rattle.std.specs.Prelude.{is_some}
use Rattle.std.proofs.lemmas.List.{take_all}
use Rattle.edm_values.specs.Lists.{at_places}
use Rattle.apply_ast.specs.Views.{agg_of}
use Rattle.context_typing.specs.Readings.{readings}
use Rattle.context_typing.specs.Typing.{item_column}
use Rattle.apply_meaning.specs.Instances.{no_instance}
use Rattle.apply_meaning.specs.Meaning.{item_value}
use Rattle.apply_meaning.specs.RowViews.{IsRow, columns_differ}
use Rattle.step_run.proofs.CustomLemmas.{columns-more, typed-at}
use Rattle.step_run.proofs.ItemLists.{read-list}
use Rattle.step_run.proofs.item_lists.row_at.Goals as goal

pub value_at-requires-clause-list : goal.value_at-requires-clause-list
value_at-requires-clause-list g c κs within = λ v e.
    c.requires.lists c.loop-k.k (agg_of c.index-items-k.result) v (read-list agg_of c.args.items.now c.loop-k.k c.index-items-k.result c.loop-k-test.true c.index-items-k.is) (sym c.list_at-list.ensures ∙ e)

pub value_at-requires-clause-ready : goal.value_at-requires-clause-ready
value_at-requires-clause-ready g c κs within =
    let x = c.args.context.now in
    let r = c.requires.ready in (
      r.0,
      record {
        root_is = (r.1).root_is;
        typed = ap (λ i. is_some (item_column x.world.model (readings x.customs) r.0 (agg_of i))) c.index-items-k.is
            ∙ typed-at (λ i. is_some (item_column x.world.model (readings x.customs) r.0 i)) c.args.items.now c.loop-k.k c.index-items-k.result (r.1).typed c.loop-k-test.true;
        fit = (r.1).fit;
      },
    )

pub loop-k-preserved : goal.loop-k-preserved
loop-k-preserved g c = λ S h.
    let x = c.args.context.now in
    let l = at_places c.args.rows.now c.args.places.now in
    c.in_ok-push.ensures.items
    ∙ ap (λ xs. xs ++ c.in_ok-value_at.field-0 ∷ []) (c.loop-k.invariant S h)
    ∙ ap (λ y. map (item_value x.world (readings x.customs) S l) (map agg_of (take c.loop-k.k c.args.items.now)) ++ y ∷ []) (c.in_ok-value_at.ensures S h)
    ∙ sym (columns-more x.world (readings x.customs) S l c.args.items.now c.loop-k.k c.index-items-k.result c.loop-k-test.true c.index-items-k.is)

pub make-requires : goal.make-requires
make-requires g c =
    let x = c.args.context.now in
    let r = c.requires.ready in
    let whole = c.loop-k.invariant r.0 (r.1).root_is ∙ ap (λ xs. map (item_value x.world (readings x.customs) r.0 (at_places c.args.rows.now c.args.places.now)) (map agg_of xs)) (take_all c.loop-k.k c.args.items.now (omega (arith, c.loop-k-test.false))) in
    subst (λ ps. IsRow ps c.loop-k.columns.items) (sym c.new.ensures.items) (record { paths = refl; prefixes = refl; columns = subst (λ cs. IsTrue (columns_differ cs)) (sym whole) (r.1).differ })

pub returns-clause-row : goal.returns-clause-row
returns-clause-row g c = λ S h.
    let x = c.args.context.now in
    let whole = c.loop-k.invariant S h ∙ ap (λ xs. map (item_value x.world (readings x.customs) S (at_places c.args.rows.now c.args.places.now)) (map agg_of xs)) (take_all c.loop-k.k c.args.items.now (omega (arith, c.loop-k-test.false))) in
    rw c.make.ensures.row ((λ i. record no_instance { prefixes = c.new.ensures.items i; columns = whole i }))
