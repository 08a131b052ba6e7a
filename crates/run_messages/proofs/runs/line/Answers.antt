use Rattle.std.proofs.Common.{◌++◌, [], codes, chars, string_bytes, refl, ap, sym, ◌∙◌, append-nil}
use Rattle.std.proofs.lemmas.Result.{IfOk-weaker}
use Rattle.std.proofs.lemmas.Str.{IsUtf8-string_bytes}
use Rattle.quoted_text.proofs.PrintableLaws.{framed_printable}
use Rattle.run_messages.proofs.runs.line.Goals as goal

pub returns-clause-printable : goal.returns-clause-printable
returns-clause-printable c =
    IfOk-weaker c.with_name.result _ _
    (λ t e. framed_printable (codes "apply_serve: ") [] (chars c.args.text.now) (string_bytes t) refl refl (IsUtf8-string_bytes t)
    (e ∙ ap (λ x. codes "apply_serve: " ++ x) (c.as_str.ensures.value ∙ c.in_ok-text.ensures.value ∙ sym (append-nil _))))
    c.with_name.ensures
