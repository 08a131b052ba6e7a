use Rattle.std.proofs.Common.{string_bytes, ap, subst, sym, ◌∙◌}
use Rattle.std.proofs.lemmas.Result.{IfOk-weaker}
use Rattle.quoted_text.specs.Quoted.{IsPrintable}
use Rattle.serve_options.proofs.UsageLaws.{none_printable}
use Rattle.run_messages.specs.RunLines.{BeginsWith, refused_file, run_line}
use Rattle.run_messages.proofs.runs.run_message.Goals as goal

pub returns-in-Served-clause-printable : goal.returns-in-Served-clause-printable
returns-in-Served-clause-printable g c = λ no_help. subst (λ t. IsPrintable t) (sym c.new.ensures.bytes) none_printable

pub returns-in_ok-text-in-ModelRefused-clause-model : goal.returns-in_ok-text-in-ModelRefused-clause-model
returns-in_ok-text-in-ModelRefused-clause-model g c = λ s is settings.
    let told = c.in_ok-text-in-ModelRefused.ensures s settings in
    IfOk-weaker c.line.result _ _
    (λ t e. (_, subst (λ x. BeginsWith (refused_file x s.mode) (string_bytes c.in_ok-text-in-ModelRefused.text)) is told, e ∙ ap run_line c.as_str.ensures.value))
    c.line.ensures.value

pub returns-in_ok-text-in-ModelRefused-clause-entities : goal.returns-in_ok-text-in-ModelRefused-clause-entities
returns-in_ok-text-in-ModelRefused-clause-entities g c = λ s is settings.
    let told = c.in_ok-text-in-ModelRefused.ensures s settings in
    IfOk-weaker c.line.result _ _
    (λ t e. (_, subst (λ x. BeginsWith (refused_file x s.mode) (string_bytes c.in_ok-text-in-ModelRefused.text)) is told, e ∙ ap run_line c.as_str.ensures.value))
    c.line.ensures.value
