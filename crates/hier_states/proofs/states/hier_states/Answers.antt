use Rattle.hier_states.specs.States.{IsStateOf}
use Rattle.hier_states.proofs.PartPlaces.{beside-more}
use Rattle.hier_states.proofs.states.hier_states.Goals as goal

pub loop-id-preserved : goal.loop-id-preserved
loop-id-preserved c =
    beside-more (IsStateOf c.args.store.now) c.hiers-ids.result.now c.loop-id.states.items c.push.new.self.items c.loop-id.id-index c.id-item.result c.in_ok-hier_state.field-0 c.loop-id-test.true
    c.id-item.is c.in_ok-push.ensures.items c.loop-id.invariant c.in_ok-hier_state.ensures
