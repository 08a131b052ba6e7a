use Rattle.std.proofs.Common.{◌∙◌, ap}
use Rattle.edm_values.specs.Values.{is_beyond}
use Rattle.json_render.proofs.SlotLemmas.{property-in_range}
use Rattle.json_render.proofs.templates.push_property.Goals as goal

pub push_value-requires : goal.push_value-requires
push_value-requires c = ap is_beyond c.property_at.ensures ∙ property-in_range c.args.store.now c.model-model.ensures.fits c.args.entity c.args.at
