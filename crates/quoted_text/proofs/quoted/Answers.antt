use Rattle.std.proofs.Common.{[], ◌∷◌, ◌++◌, ap, chars, string_bytes, ◌∙◌}
use Rattle.std.proofs.lemmas.Result.{IfOk-weaker}
use Rattle.std.proofs.lemmas.Str.{IsUtf8-string_bytes}
use Rattle.quoted_text.proofs.PrintableLaws.{quoted_printable}
use Rattle.quoted_text.proofs.quoted.Goals as goal

pub returns-clause-printable : goal.returns-clause-printable
returns-clause-printable c = IfOk-weaker c.in_quotes.result _ _ (λ t e. quoted_printable (string_bytes t) (chars c.args.text.now) (IsUtf8-string_bytes t) (e ∙ ap (λ x. 34 ∷ x ++ 34 ∷ []) (c.as_str.ensures.value ∙ c.in_ok-inner.ensures.value))) c.in_quotes.ensures
