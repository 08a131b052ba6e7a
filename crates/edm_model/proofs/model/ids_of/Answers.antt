use Rattle.edm_model.proofs.IdFacts.{ids_hold}
use Rattle.edm_model.proofs.model.ids_of.Goals as goal

pub returns : goal.returns
returns c = ids_hold c.args.types.now c.args.sets.now _ c.in_ok-set_ids.ensures c.in_ok-type_sets.ensures c.in_ok-properties.ensures c.in_ok-navigations.ensures c.in_ok-hierarchies.ensures c.in_ok-customs.ensures
