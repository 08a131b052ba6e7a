use Rattle.std.proofs.Common.{◌∙◌}
use Rattle.std.proofs.lemmas.Result.{IfOk-weaker}
use Rattle.serve_options.proofs.messages.refusal_text.Goals as goal

pub returns : goal.returns
returns c = record {
  line = λ other. IfOk-weaker c.line.result _ _ (λ t e. (_, e)) c.line.ensures;
  memory = λ wanting. absurd (c.in_default.not-OutOfMemory (c.kind.ensures ∙ wanting));
}
