use Rattle.std.proofs.Common.{◌∙◌, ◌-◌, ◌∷◌, [], ◌++◌, ap, sym, subst, arith, length, map, drop, take, Some}
use Rattle.std.specs.Prelude.{is_some}
use Rattle.std.proofs.lemmas.List.{take_all}
use Rattle.edm_values.specs.Lists.{at_places}
use Rattle.apply_ast.specs.Views.{agg_of}
use Rattle.context_typing.specs.Readings.{readings}
use Rattle.context_typing.specs.Typing.{item_column}
use Rattle.apply_meaning.specs.Meaning.{item_value}
use Rattle.apply_meaning.specs.MeaningLaws.{AllFit}
use Rattle.step_run.specs.ItemLists.{item_list}
use Rattle.step_run.specs.Totals.{item_outcome}
use Rattle.step_run.proofs.CustomLemmas.{columns-more, typed-at}
use Rattle.step_run.proofs.ItemLists.{read-list}
use Rattle.step_run.proofs.PlacedRuns.{list-long, part-within, placed-list}
use Rattle.step_run.proofs.totals.columns_between.Goals as goal

pub at-own-requires : goal.at-own-requires
at-own-requires g c = part-within (length c.args.rows.now) c.args.first (c.args.end - c.args.first) c.args.places.now c.requires.within

pub values_between-values-requires-clause-within : goal.values_between-values-requires-clause-within
values_between-values-requires-clause-within g c u e =
    let w = c.args.context.now.world in
    let l = c.args.rows.now in
    let item = agg_of c.index-items-k.result in
    let known = c.requires.lists c.loop-k.k item u (read-list agg_of c.args.items.now c.loop-k.k c.index-items-k.result c.loop-k-test.true c.index-items-k.is) e in
    let long = list-long w l item c.args.places.now u.items c.requires.within known in
    let last = c.requires.end in
    omega (arith, long, last)

pub item_column-requires-clause-values : goal.item_column-requires-clause-values
item_column-requires-clause-values g c κs within = λ v e.
    let w = c.args.context.now.world in
    let l = c.args.rows.now in
    let item = agg_of c.index-items-k.result in
    let t = c.values_between-values.ensures v e in
    let known = c.requires.lists c.loop-k.k item t.0 (read-list agg_of c.args.items.now c.loop-k.k c.index-items-k.result c.loop-k-test.true c.index-items-k.is) t.1 in
    ap (λ ls. item_list w ls item) c.at-own.ensures.value
    ∙ placed-list w l item c.args.first (c.args.end - c.args.first) c.args.places.now (t.0).items c.requires.within known
    ∙ ap Some (sym t.2)

pub item_column-requires-clause-known : goal.item_column-requires-clause-known
item_column-requires-clause-known g c κs within = λ v e.
    let w = c.args.context.now.world in
    let item = agg_of c.index-items-k.result in
    let t = c.requires.known c.loop-k.k item v (read-list agg_of c.args.items.now c.loop-k.k c.index-items-k.result c.loop-k-test.true c.index-items-k.is) (c.known_at-at_nodes.ensures v e) in
    (t.0, ap (λ ls. item_outcome w ls item) c.at-own.ensures.value ∙ t.1)

pub item_column-requires-clause-ready : goal.item_column-requires-clause-ready
item_column-requires-clause-ready g c κs within =
    let x = c.args.context.now in
    let r = c.requires.ready in (
      r.0,
      record {
        root_is = (r.1).root_is;
        typed = ap (λ i. is_some (item_column x.world.model (readings x.customs) r.0 (agg_of i))) c.index-items-k.is
            ∙ typed-at (λ i. is_some (item_column x.world.model (readings x.customs) r.0 i)) c.args.items.now c.loop-k.k c.index-items-k.result (r.1).typed c.loop-k-test.true;
        fit = subst (AllFit x.world r.0) (sym c.at-own.ensures.value) (r.1).fit;
      },
    )

pub loop-k-preserved : goal.loop-k-preserved
loop-k-preserved g c = λ S h.
    let x = c.args.context.now in
    let l = at_places c.args.rows.now (take (c.args.end - c.args.first) (drop c.args.first c.args.places.now)) in
    c.in_ok-push.ensures.items
    ∙ ap (λ xs. xs ++ c.in_ok-item_column.field-0 ∷ []) (c.loop-k.invariant S h)
    ∙ ap (λ y. map (item_value x.world (readings x.customs) S l) (map agg_of (take c.loop-k.k c.args.items.now)) ++ y ∷ []) (c.in_ok-item_column.ensures S h ∙ ap (λ ls. item_value x.world (readings x.customs) S ls (agg_of c.index-items-k.result)) c.at-own.ensures.value)
    ∙ sym (columns-more x.world (readings x.customs) S l c.args.items.now c.loop-k.k c.index-items-k.result c.loop-k-test.true c.index-items-k.is)

pub returns : goal.returns
returns g c = λ S h.
    let x = c.args.context.now in
    let l = at_places c.args.rows.now (take (c.args.end - c.args.first) (drop c.args.first c.args.places.now)) in
    c.loop-k.invariant S h ∙ ap (λ xs. map (item_value x.world (readings x.customs) S l) (map agg_of xs)) (take_all c.loop-k.k c.args.items.now (omega (arith, c.loop-k-test.false)))
