use Rattle.std.proofs.Common.{◌∙◌, ◌-◌, ◌<◌, ◌∷◌, [], ◌++◌, ℕ, List, ap, sym, subst, refl, arith, length, map, drop, take, IsTrue}
use Rattle.std.specs.Prelude.{nat_lt}
use Rattle.std.specs.List.{list_all}
use Rattle.edm_values.specs.Lists.{at_places}
use Rattle.apply_ast.specs.Views.{agg_of}
use Rattle.context_typing.specs.Readings.{readings}
use Rattle.apply_meaning.specs.Instances.{no_instance}
use Rattle.apply_meaning.specs.RowViews.{IsRow, columns_differ}
use Rattle.step_run.specs.KeyedTotals.{AreKeyRows, KeyRowsState, keyed_row}
use Rattle.step_run.specs.Totals.{AreKnownAt, AreNodesOf}
use Rattle.step_run.proofs.GroupTotalLaws.{length-placed}
use Rattle.step_run.proofs.KeptPlaces.{within-twice}
use Rattle.step_run.proofs.KeyedRows.{run-placed, run-row}
use Rattle.step_run.proofs.NodeLists.{known-run}
use Rattle.step_run.proofs.keyed_totals.keyed_row.Goals as goal

pub columns_between-requires-clause-known : goal.columns_between-requires-clause-known
columns_between-requires-clause-known g c κs within =
    let w = c.args.context.now.world in
    let l = c.args.rows.now in
    let items = map agg_of c.args.items.now in
    let js = c.requires.own.0 in
    let far = c.requires.own.1 in
    let r : KeyRowsState = record { order = c.own.inside.order; places = c.own.inside.places.items; known = c.own.inside.known.items } in
    let own = subst (AreKeyRows w items l js) (sym c.own.view_is) c.requires.own.2 in
    let here = subst (λ (r : KeyRowsState). c.args.node < length r.order.parents) (sym c.own.view_is) c.requires.node in
    let a = c.run-first.result.0 in
    let n = c.run-first.result.1 - a in
    let run : List ℕ = take n (drop a r.order.rows) in
    subst (λ ps. AreKnownAt w (at_places l (take n (drop a ps))) items c.args.node c.as_slice-known.result.now) (sym c.as_slice-places.ensures.value)
    (subst (λ ks. AreKnownAt w (at_places l (take n (drop a r.places))) items c.args.node ks) (sym c.as_slice-known.ensures.value)
    (subst (λ ls. AreKnownAt w ls items c.args.node r.known) (run-placed w items l js far r own a n)
    (known-run w (at_places l js) r.order.parents r.order.nodes items r.known run c.args.node here c.run-first.ensures.value own.known_are)))

pub columns_between-requires-clause-end : goal.columns_between-requires-clause-end
columns_between-requires-clause-end g c κs within =
    let js = c.requires.own.0 in
    let r : KeyRowsState = record { order = c.own.inside.order; places = c.own.inside.places.items; known = c.own.inside.known.items } in
    let own = subst (AreKeyRows c.args.context.now.world (map agg_of c.args.items.now) c.args.rows.now js) (sym c.own.view_is) c.requires.own.2 in
    let long = ap length c.as_slice-places.ensures.value ∙ ap length own.places_are ∙ length-placed js r.order.rows own.rows_within in
    let last = c.run-first.ensures.within in
    omega (arith, long, last)

pub columns_between-requires-clause-within : goal.columns_between-requires-clause-within
columns_between-requires-clause-within g c κs within =
    let js = c.requires.own.0 in
    let r : KeyRowsState = record { order = c.own.inside.order; places = c.own.inside.places.items; known = c.own.inside.known.items } in
    let own = subst (AreKeyRows c.args.context.now.world (map agg_of c.args.items.now) c.args.rows.now js) (sym c.own.view_is) c.requires.own.2 in
    subst (λ ks. IsTrue (list_all (λ k. nat_lt k (length c.args.rows.now)) ks)) (sym (c.as_slice-places.ensures.value ∙ own.places_are)) (within-twice c.args.rows.now js r.order.rows c.requires.own.1)

pub columns_between-requires-clause-lists : goal.columns_between-requires-clause-lists
columns_between-requires-clause-lists g c κs within = λ k i v at known. absurd cc

pub columns_between-requires-clause-ready : goal.columns_between-requires-clause-ready
columns_between-requires-clause-ready g c κs within =
    let r = c.requires.ready in
    let run : List ℕ = take (c.run-first.result.1 - c.run-first.result.0) (drop c.run-first.result.0 c.as_slice-places.result.now) in
    (r.0, (r.1 run c.args.key.now c.args.id).0)

pub make-requires : goal.make-requires
make-requires g c =
    let x = c.args.context.now in
    let r = c.requires.ready in
    let run : List ℕ = take (c.run-first.result.1 - c.run-first.result.0) (drop c.run-first.result.0 c.as_slice-places.result.now) in
    let own = r.1 run c.args.key.now c.args.id in
    let cols = c.in_ok-columns.ensures r.0 (own.0).root_is in
    let whole = c.in_ok-push.ensures.items ∙ (λ i. c.in_ok-append.ensures.items i ++ (c.in_ok-copy.ensures.value i, c.args.id) ∷ []) ∙ (λ i. (cols i ++ c.in_ok-behind.ensures i) ++ (c.args.path.now, c.args.id) ∷ []) in
    subst (λ ps. IsRow ps c.push.new.self.items) (sym c.new.ensures.items) (record { paths = refl; prefixes = refl; columns = subst (λ cs. IsTrue (columns_differ cs)) (sym whole) (own.1 c.requires.wide) })

pub returns-clause-row : goal.returns-clause-row
returns-clause-row g c = λ f S set js far kept of h.
    let x = c.args.context.now in
    let w = x.world in
    let l = c.args.rows.now in
    let items = map agg_of c.args.items.now in
    let r : KeyRowsState = record { order = c.own.inside.order; places = c.own.inside.places.items; known = c.own.inside.known.items } in
    let own = subst (AreKeyRows w items l js) (sym c.own.view_is) kept in
    let are = subst (λ (r : KeyRowsState). AreNodesOf w f c.args.path.now (at_places l js) set r.order.parents r.order.nodes) (sym c.own.view_is) of in
    let a = c.run-first.result.0 in
    let n = c.run-first.result.1 - a in
    let run : List ℕ = take n (drop a c.as_slice-places.result.now) in
    let cols = c.in_ok-columns.ensures S h in
    let whole = c.in_ok-push.ensures.items ∙ (λ i. c.in_ok-append.ensures.items i ++ (c.in_ok-copy.ensures.value i, c.args.id) ∷ []) ∙ (λ i. (cols i ++ c.in_ok-behind.ensures i) ++ (c.args.path.now, c.args.id) ∷ []) in
    let K = keyed_row w (readings x.customs) S items c.args.plain.now c.args.key.now c.args.path.now c.args.id in
    rw c.make.ensures.row
    ((λ i. record no_instance { prefixes = c.new.ensures.items i; columns = whole i })
    ∙ ap (λ ps. K (at_places l (take n (drop a ps)))) c.as_slice-places.ensures.value
    ∙ run-row w (readings x.customs) S f items c.args.plain.now c.args.key.now c.args.path.now c.args.id l js far r own set c.args.node a n are c.run-first.ensures.value)
