use Rattle.std.proofs.Common.{length, subst, sym}
use Rattle.edm_data.specs.Worlds.{World}
use Rattle.apply_ast.specs.Views.{hier_of}
use Rattle.context_typing.specs.Typing.{hierarchy_at}
use Rattle.hier_rows.specs.HierRows.{IsNodesOf, climb_outcome}
use Rattle.row_orders.specs.Ranks.{GivesNumbers}
use Rattle.step_run.proofs.ClimbOutcomes.{ascending-within, climb-out, found, numbers-order}
use Rattle.step_run.proofs.hierarchies.climbed_places.Goals as goal

pub climb_places-requires-clause-nodes : goal.climb_places-requires-clause-nodes
climb_places-requires-clause-nodes g c κs within =
    let f = found (hierarchy_at c.args.context.now.world.model (hier_of c.args.climb.now.hier)) c.requires.there in
    (f.0, subst (λ (w : World). IsNodesOf w f.0 c.nodes.result.set c.nodes.result.index.now) (sym c.store.ensures.value) (c.nodes.ensures.set f.0 f.1, c.nodes.ensures.index f.0 f.1))

pub returns-clause-value : goal.returns-clause-value
returns-clause-value g c =
    let w = c.args.context.now.world in
    let k = c.args.climb.now in
    let l = c.args.rows.now in
    let r = c.args.starts.now in
    let f = found (hierarchy_at w.model (hier_of k.hier)) c.requires.there in
    let own = subst (λ (w : World). IsNodesOf w f.0 c.nodes.result.set c.nodes.result.index.now) (sym c.store.ensures.value) (c.nodes.ensures.set f.0 f.1, c.nodes.ensures.index f.0 f.1) in
    let given = subst (λ (w : World). GivesNumbers c.climb_places.result (climb_outcome w k.up f.0 k.path k.distance k.keep r l)) c.store.ensures.value (c.climb_places.ensures.value f.0 own) in
    numbers-order c.climb_places.result l (climb_outcome w k.up f.0 k.path k.distance k.keep r l) _ given (climb-out w k.up (hier_of k.hier) k.path k.distance k.keep l r f.0 f.1)

pub returns-clause-within : goal.returns-clause-within
returns-clause-within g c = ascending-within c.climb_places.result (length c.args.rows.now) c.climb_places.ensures.ascending
