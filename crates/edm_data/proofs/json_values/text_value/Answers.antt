use Rattle.std.proofs.Common.{◌∙◌}
use Rattle.edm_data.proofs.ValueFits.{text_read}
use Rattle.edm_data.proofs.json_values.text_value.Goals as goal

pub returns-in-Ok : goal.returns-in-Ok
returns-in-Ok c = c.without_memory.ensures ∙ text_read c.args.kind c.args.text.now c.in-Ok.value c.in_default.not-Bool c.in_default.not-Text c.in-Ok.ensures.ok
