use Rattle.std.proofs.Common.{sym, subst, ◌∙◌, arith}
use Rattle.std.specs.Prelude.{if◌then◌else◌}
use Rattle.edm_values.specs.Lists.{is_nonempty}
use Rattle.edm_data.specs.References.{count}
use Rattle.edm_data.specs.Worlds.{World}
use Rattle.apply_ast.specs.Views.{traverse_of}
use Rattle.context_typing.specs.Typing.{hierarchy_at}
use Rattle.hier_rows.specs.HierRows.{IsNodesOf, traverse_outcome}
use Rattle.row_orders.specs.Ranks.{GivesNumbers}
use Rattle.step_run.proofs.ClimbOutcomes.{found, numbers-order, traverse-out, walk-is}
use Rattle.step_run.proofs.hierarchies.traversed_places.Goals as goal

pub traverse_places-requires-clause-nodes : goal.traverse_places-requires-clause-nodes
traverse_places-requires-clause-nodes g c κs within =
    let f = found (hierarchy_at c.args.context.now.world.model (traverse_of c.args.walk.now).hier) c.requires.there in
    (f.0, subst (λ (w : World). IsNodesOf w f.0 c.nodes.result.set c.nodes.result.index.now) (sym c.store.ensures.value) (c.nodes.ensures.set f.0 f.1, c.nodes.ensures.index f.0 f.1))

pub returns-clause-value : goal.returns-clause-value
returns-clause-value g c =
    let w = c.args.context.now.world in
    let t = traverse_of c.args.walk.now in
    let l = c.args.rows.now in
    let f = found (hierarchy_at w.model t.hier) c.requires.there in
    let own = subst (λ (w : World). IsNodesOf w f.0 c.nodes.result.set c.nodes.result.index.now) (sym c.store.ensures.value) (c.nodes.ensures.set f.0 f.1, c.nodes.ensures.index f.0 f.1) in
    let given = subst (λ (w : World). GivesNumbers c.traverse_places.result (traverse_outcome w f.0 t l)) c.store.ensures.value (c.traverse_places.ensures.value f.0 own) in
    numbers-order c.traverse_places.result l (traverse_outcome w f.0 t l) _ given (traverse-out w t l f.0 f.1)

pub returns-clause-steps : goal.returns-clause-steps
returns-clause-steps g c =
    let w = c.args.context.now.world in
    let t = traverse_of c.args.walk.now in
    let f = found (hierarchy_at w.model t.hier) c.requires.there in
    let walked = walk-is w t f.0 f.1 ∙ (λ i. if is_nonempty t.items then count (sym c.store.ensures.value i) (sym (c.nodes.ensures.set f.0 f.1) i) else 0) in
    let found = c.traverse_places.ensures.steps in
    omega (arith, walked, found)
