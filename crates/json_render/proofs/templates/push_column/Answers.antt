use Rattle.std.proofs.Common.{◌∙◌, ap}
use Rattle.edm_values.specs.Values.{is_beyond}
use Rattle.json_render.proofs.SlotLemmas.{column-in_range}
use Rattle.json_render.proofs.templates.push_column.Goals as goal

pub push_value-requires : goal.push_value-requires
push_value-requires c = ap is_beyond c.column.ensures ∙ column-in_range c.args.row.now.columns c.args.k c.requires
