use Rattle.std.proofs.Common.{◌∙◌, ◌-◌, ◌<◌, ◌∷◌, [], ap, sym, subst, arith, length, map, drop, take, IsTrue}
use Rattle.std.specs.Prelude.{nat_lt}
use Rattle.std.specs.List.{list_all}
use Rattle.edm_values.specs.Lists.{at_places}
use Rattle.edm_data.specs.Nodes.{identifier}
use Rattle.edm_data.specs.Worlds.{World}
use Rattle.apply_ast.specs.Views.{agg_of}
use Rattle.context_typing.specs.Readings.{readings}
use Rattle.step_run.specs.Totals.{AreKnownAt, total_row}
use Rattle.step_run.proofs.NodeLists.{known-run}
use Rattle.step_run.proofs.PlacedRuns.{run-made, run-none}
use Rattle.step_run.proofs.totals.row_of_node.Goals as goal

pub row_between-requires-clause-known : goal.row_between-requires-clause-known
row_between-requires-clause-known g c κs within =
    let w = c.args.context.now.world in
    let o = c.args.order.now in
    let items = map agg_of c.args.totals.now.items.now in
    let a = c.run-first.result.0 in
    let b = c.run-first.result.1 in
    subst (λ ks. AreKnownAt w (at_places c.args.rows.now (take (b - a) (drop a ks))) items c.args.node c.args.known.now) (sym c.places-places.ensures.value)
    (known-run w c.args.rows.now o.parents o.nodes items c.args.known.now (take (b - a) (drop a o.rows)) c.args.node c.requires.there c.run-first.ensures.value c.requires.known)

pub returns-then-first-end-clause-row : goal.returns-then-first-end-clause-row
returns-then-first-end-clause-row g c = λ f S are h.
    let x = c.args.context.now in
    let o = c.args.order.now in
    let l = c.args.rows.now in
    let within = subst (λ n. IsTrue (list_all (λ k. nat_lt k n) o.rows)) c.requires.rows (subst (λ ks. IsTrue (list_all (λ r. nat_lt r (length o.nodes)) ks)) c.places-places.ensures.value c.places-places.ensures.within) in
    let past = c.if-first-end.true in
    sym (run-none x.world (readings x.customs) S f (map agg_of c.args.totals.now.items.now) c.args.totals.now.path.now l c.args.set o.parents o.nodes are o.rows within c.run-first.result.0 c.run-first.result.1 c.args.node c.run-first.ensures.order c.run-first.ensures.within c.run-first.ensures.value (λ k. omega (arith, k, past)))

pub returns-in_err-row-clause-steps : goal.returns-in_err-row-clause-steps
returns-in_err-row-clause-steps g c = λ f S are h.
    let x = c.args.context.now in
    let o = c.args.order.now in
    let l = c.args.rows.now in
    let within = subst (λ n. IsTrue (list_all (λ k. nat_lt k n) o.rows)) c.requires.rows (subst (λ ks. IsTrue (list_all (λ r. nat_lt r (length o.nodes)) ks)) c.places-places.ensures.value c.places-places.ensures.within) in
    let past = c.if-first-end.false in
    let less : c.run-first.result.0 < c.run-first.result.1 = omega (arith, past) in
    let id = c.in_ok-own.ensures.value f are.set_is ∙ ap (λ (w : World). identifier w f c.args.node) c.store.ensures.value in
    let one = ap length (run-made x.world (readings x.customs) S f (map agg_of c.args.totals.now.items.now) c.args.totals.now.path.now l c.args.set o.parents o.nodes are o.rows within c.run-first.result.0 c.run-first.result.1 c.args.node c.run-first.ensures.order c.run-first.ensures.within c.run-first.ensures.value c.in_ok-own.own less id) in
    let spent = c.row_between.ensures.steps in
    omega (arith, one, spent)

pub returns-clause-row : goal.returns-clause-row
returns-clause-row g c = λ f S are h.
    let x = c.args.context.now in
    let o = c.args.order.now in
    let l = c.args.rows.now in
    let within = subst (λ n. IsTrue (list_all (λ k. nat_lt k n) o.rows)) c.requires.rows (subst (λ ks. IsTrue (list_all (λ r. nat_lt r (length o.nodes)) ks)) c.places-places.ensures.value c.places-places.ensures.within) in
    let past = c.if-first-end.false in
    let a = c.run-first.result.0 in
    let b = c.run-first.result.1 in
    let less : a < b = omega (arith, past) in
    let id = c.in_ok-own.ensures.value f are.set_is ∙ ap (λ (w : World). identifier w f c.args.node) c.store.ensures.value in
    let row = c.in_ok-row.ensures.row S h ∙ ap (λ ks. total_row x.world (readings x.customs) S (map agg_of c.args.totals.now.items.now) c.args.totals.now.path.now c.in_ok-own.own (at_places l (take (b - a) (drop a ks)))) c.places-places.ensures.value in
    ap (λ r. r ∷ []) row
    ∙ sym (run-made x.world (readings x.customs) S f (map agg_of c.args.totals.now.items.now) c.args.totals.now.path.now l c.args.set o.parents o.nodes are o.rows within a b c.args.node c.run-first.ensures.order c.run-first.ensures.within c.run-first.ensures.value c.in_ok-own.own less id)

pub returns-clause-steps : goal.returns-clause-steps
returns-clause-steps g c = λ f S are h.
    let x = c.args.context.now in
    let o = c.args.order.now in
    let l = c.args.rows.now in
    let within = subst (λ n. IsTrue (list_all (λ k. nat_lt k n) o.rows)) c.requires.rows (subst (λ ks. IsTrue (list_all (λ r. nat_lt r (length o.nodes)) ks)) c.places-places.ensures.value c.places-places.ensures.within) in
    let past = c.if-first-end.false in
    let less : c.run-first.result.0 < c.run-first.result.1 = omega (arith, past) in
    let id = c.in_ok-own.ensures.value f are.set_is ∙ ap (λ (w : World). identifier w f c.args.node) c.store.ensures.value in
    let one = ap length (run-made x.world (readings x.customs) S f (map agg_of c.args.totals.now.items.now) c.args.totals.now.path.now l c.args.set o.parents o.nodes are o.rows within c.run-first.result.0 c.run-first.result.1 c.args.node c.run-first.ensures.order c.run-first.ensures.within c.run-first.ensures.value c.in_ok-own.own less id) in
    let spent = c.row_between.ensures.steps in
    omega (arith, one, spent)
