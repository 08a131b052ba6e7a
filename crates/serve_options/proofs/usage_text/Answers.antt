use Rattle.std.proofs.Common.{string_bytes, subst, sym}
use Rattle.std.proofs.lemmas.Result.{IfOk-weaker}
use Rattle.std.proofs.lemmas.Str.{IsUtf8-string_bytes}
use Rattle.quoted_text.specs.Quoted.{IsPrintable}
use Rattle.serve_options.specs.Command.{texts_of}
use Rattle.serve_options.proofs.UsageLaws.{none_printable, rule_told, usage_printable}
use Rattle.serve_options.proofs.usage_text.Goals as goal

pub returns-in-Ok-check_values-clause-printable : goal.returns-in-Ok-check_values-clause-printable
returns-in-Ok-check_values-clause-printable c = λ no_help. subst (λ t. IsPrintable t) (sym c.new.ensures.bytes) none_printable

pub returns-in-Err-check_values-clause-printable : goal.returns-in-Err-check_values-clause-printable
returns-in-Err-check_values-clause-printable c = λ no_help. IfOk-weaker c.problem_text.result _ _ (λ t told. usage_printable (string_bytes t) (IsUtf8-string_bytes t) (_, told)) c.problem_text.ensures

pub returns-in-Err-clause-printable : goal.returns-in-Err-clause-printable
returns-in-Err-clause-printable c = λ no_help.
    IfOk-weaker c.refusal_text.result _ _ (λ t line. usage_printable (string_bytes t) (IsUtf8-string_bytes t) line) (c.refusal_text.ensures.line (λ is_help. no_help (c.in-Err.ensures.help is_help)))

pub returns-in-Err-check_values-clause-told : goal.returns-in-Err-check_values-clause-told
returns-in-Err-check_values-clause-told c = λ none no_help.
    IfOk-weaker c.problem_text.result _ _ (λ t told. rule_told (texts_of c.args.words.now) _ _ (string_bytes t) c.in-Ok.ensures.ok (sym c.in-Err-check_values.ensures.problem) told) c.problem_text.ensures
