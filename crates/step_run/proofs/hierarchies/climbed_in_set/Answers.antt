use Rattle.std.proofs.Common.{map, subst, sym}
use Rattle.edm_values.specs.Lists.{places}
use Rattle.edm_data.specs.Worlds.{World}
use Rattle.apply_ast.specs.Views.{hier_of}
use Rattle.context_typing.specs.Typing.{hierarchy_at}
use Rattle.row_frames.specs.Related.{placed}
use Rattle.hier_rows.specs.HierRows.{GivesPlaces, IsNodesOf, climb_outcome}
use Rattle.step_run.proofs.ClimbOutcomes.{climb-out, entities-order, found}
use Rattle.step_run.proofs.hierarchies.climbed_in_set.Goals as goal

pub climb_set-requires-clause-nodes : goal.climb_set-requires-clause-nodes
climb_set-requires-clause-nodes g c κs within =
    let f = found (hierarchy_at c.args.context.now.world.model (hier_of c.args.climb.now.hier)) c.requires.there in
    (f.0, subst (λ (w : World). IsNodesOf w f.0 c.nodes.result.set c.nodes.result.index.now) (sym c.store.ensures.value) (c.nodes.ensures.set f.0 f.1, c.nodes.ensures.index f.0 f.1))

pub returns : goal.returns
returns g c =
    let w = c.args.context.now.world in
    let k = c.args.climb.now in
    let l = map (placed c.args.set) (places c.args.count) in
    let r = c.args.starts.now in
    let f = found (hierarchy_at w.model (hier_of k.hier)) c.requires.there in
    let own = subst (λ (w : World). IsNodesOf w f.0 c.nodes.result.set c.nodes.result.index.now) (sym c.store.ensures.value) (c.nodes.ensures.set f.0 f.1, c.nodes.ensures.index f.0 f.1) in
    let given = subst (λ (w : World). GivesPlaces c.climb_set.result (climb_outcome w k.up f.0 k.path k.distance k.keep r l)) c.store.ensures.value (c.climb_set.ensures.value f.0 own) in
    record {
      value = entities-order c.climb_set.result c.args.set c.args.count (climb_outcome w k.up f.0 k.path k.distance k.keep r l) _ given c.climb_set.ensures.within (climb-out w k.up (hier_of k.hier) k.path k.distance k.keep l r f.0 f.1);
    }
