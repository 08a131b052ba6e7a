use Rattle.edm_data.proofs.EntityLemmas.{kind_declared}
use Rattle.edm_data.proofs.entities.property_value.Goals as goal

pub json_value-requires : goal.json_value-requires
json_value-requires c = kind_declared c.args.model.now c.args.p c.prop_type.result c.requires.sound c.prop_type.ensures.value
