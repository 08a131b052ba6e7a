use Rattle.std.proofs.lemmas.Grind.{common_steps}
use Rattle.std.proofs.Common.{arith}
use Rattle.edm_values.specs.Values.{seen_value}
use Rattle.json_render.proofs.PlainQuotes.{quoted_json}
use Rattle.json_render.proofs.texts.push_quoted.Goals as goal

pub returns : goal.returns
returns c = rw (quoted_json (seen_value c.args.value) c.requires) (grind (arith, common_steps))
