use Rattle.std.proofs.Common.{◌∙◌, sym}
use Rattle.json_render.proofs.PlainQuotes.{plain_json}
use Rattle.json_render.proofs.texts.push_text.Goals as goal

pub returns-then-is_plain_text : goal.returns-then-is_plain_text
returns-then-is_plain_text c = rw (plain_json c.args.text.now (sym c.is_plain_text.ensures ∙ c.if-is_plain_text.true)) c.push_plain.ensures
