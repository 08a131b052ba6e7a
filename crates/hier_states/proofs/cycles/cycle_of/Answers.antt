use Rattle.std.proofs.Common.{sym, ◌∙◌, ap, Some}
use Rattle.std.specs.Prelude.{option_map}
use Rattle.edm_data.specs.Worlds.{entity_at}
use Rattle.edm_model.specs.LookUps.{set_of_type}
use Rattle.hier_states.specs.declared.states.HierState.TheVariants.{Ready, Cyclic}
use Rattle.hier_states.proofs.StateFacts.{has-state, state-is}
use Rattle.hier_states.proofs.cycles.cycle_of.Goals as goal

pub state-requires : goal.state-requires
state-requires c = has-state c.args.store.now c.args.hiers.now c.args.id c.requires.states c.requires.there

pub returns-in-Cyclic : goal.returns-in-Cyclic
returns-in-Cyclic c =
    let is = state-is c.args.store.now c.args.hiers.now c.args.id (Cyclic c.in-Cyclic.at) c.requires.states c.requires.there (c.state.ensures ∙ ap Some c.in-Cyclic.is) in
    ap (λ s. Some (entity_at s c.in-Cyclic.at)) (c.hier_set.ensures.value ∙ ap (λ m. set_of_type m c.args.id.of) c.model.ensures.value)
    ∙ sym (ap (option_map (entity_at (set_of_type c.args.store.now.model c.args.id.of))) is)

pub returns-in-Ready : goal.returns-in-Ready
returns-in-Ready c =
    let is = state-is c.args.store.now c.args.hiers.now c.args.id (Ready c.in-Ready.field-0) c.requires.states c.requires.there (c.state.ensures ∙ ap Some c.in-Ready.is) in
    sym (ap (option_map (entity_at (set_of_type c.args.store.now.model c.args.id.of))) is.1)
