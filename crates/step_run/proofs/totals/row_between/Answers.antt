use Rattle.std.proofs.Common.{◌∙◌, ◌-◌, ◌∷◌, [], ◌++◌, ℕ, List, ap, sym, subst, refl, map, drop, take, IsTrue}
use Rattle.edm_values.specs.Lists.{at_places}
use Rattle.apply_ast.specs.Views.{agg_of}
use Rattle.context_typing.specs.Readings.{readings}
use Rattle.apply_meaning.specs.Instances.{no_instance}
use Rattle.apply_meaning.specs.Meaning.{item_value}
use Rattle.apply_meaning.specs.RowViews.{IsRow, columns_differ}
use Rattle.step_run.specs.Conditions.{ItemsRun}
use Rattle.step_run.specs.ItemLists.{AreItemLists}
use Rattle.step_run.specs.Totals.{AreKnownAt}
use Rattle.step_run.proofs.totals.row_between.Goals as goal

pub columns_between-requires-clause-ready : goal.columns_between-requires-clause-ready
columns_between-requires-clause-ready g c κs within =
    let r = c.requires.ready in
    let run : List ℕ = take (c.args.end - c.args.first) (drop c.args.first c.args.places.now) in
    (r.0, subst (λ is. ItemsRun c.args.context.now c.args.root.now r.0 (map agg_of is) (at_places c.args.rows.now run)) (sym c.as_slice-items.ensures.value) (r.1 run c.args.node).0)

pub columns_between-requires-clause-lists : goal.columns_between-requires-clause-lists
columns_between-requires-clause-lists g c κs within = subst (λ is. AreItemLists c.args.context.now.world (at_places c.args.rows.now c.args.places.now) (map agg_of is) c.args.lists.now) (sym c.as_slice-items.ensures.value) c.requires.lists

pub columns_between-requires-clause-known : goal.columns_between-requires-clause-known
columns_between-requires-clause-known g c κs within = subst (λ is. AreKnownAt c.args.context.now.world (at_places c.args.rows.now (take (c.args.end - c.args.first) (drop c.args.first c.args.places.now))) (map agg_of is) c.args.at c.args.known.now) (sym c.as_slice-items.ensures.value) c.requires.known

pub make-requires : goal.make-requires
make-requires g c =
    let x = c.args.context.now in
    let r = c.requires.ready in
    let run : List ℕ = take (c.args.end - c.args.first) (drop c.args.first c.args.places.now) in
    let f = item_value x.world (readings x.customs) r.0 (at_places c.args.rows.now run) in
    let own = r.1 run c.args.node in
    let cols = c.in_ok-columns.ensures r.0 (own.0).root_is ∙ ap (λ is. map f (map agg_of is)) c.as_slice-items.ensures.value in
    let whole = c.in_ok-push.ensures.items ∙ (λ i. cols i ++ (c.in_ok-copy.ensures.value i, c.args.node) ∷ []) in
    subst (λ ps. IsRow ps c.push.new.self.items) (sym c.new.ensures.items) (record { paths = refl; prefixes = refl; columns = subst (λ cs. IsTrue (columns_differ cs)) (sym whole) own.1 })

pub returns-clause-row : goal.returns-clause-row
returns-clause-row g c = λ S h.
    let x = c.args.context.now in
    let run : List ℕ = take (c.args.end - c.args.first) (drop c.args.first c.args.places.now) in
    let f = item_value x.world (readings x.customs) S (at_places c.args.rows.now run) in
    let cols = c.in_ok-columns.ensures S h ∙ ap (λ is. map f (map agg_of is)) c.as_slice-items.ensures.value in
    let whole = c.in_ok-push.ensures.items ∙ (λ i. cols i ++ (c.in_ok-copy.ensures.value i, c.args.node) ∷ []) in
    rw c.make.ensures.row ((λ i. record no_instance { prefixes = c.new.ensures.items i; columns = whole i }))
