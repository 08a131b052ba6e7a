use Rattle.std.proofs.Common.{IfOk, string_bytes, subst, sym, ◌∙◌}
use Rattle.edm_values.proofs.OptionFacts.{some_value}
use Rattle.serve_options.specs.Options.{Settings}
use Rattle.run_messages.specs.RunLines.{BeginsWith, refused_file}
use Rattle.run_messages.proofs.runs.refused_file_text.Goals as goal

pub returns-in-Ok : goal.returns-in-Ok
returns-in-Ok g c = λ s settings.
    let Told : Settings → Type 0 = λ x. IfOk c.file_text.result (λ t. BeginsWith (refused_file c.args.status x.mode) (string_bytes t)) in
    subst Told (some_value (sym c.in-Ok.ensures.ok ∙ settings)) c.file_text.ensures
