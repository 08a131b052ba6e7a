-- The command adds the rule of the option.
use Rattle.std.proofs.Common.{◌≡◌, ◌∙◌, ap, rules, false}
use Rattle.std.proofs.lemmas.Result.{IfOk-weaker}
use Rattle.clap.specs.Walk.{rule_of}
use Rattle.clap.specs.Simple.{app_of, with_rule}
use Rattle.serve_options.specs.Command.{option_rule}
use Rattle.serve_options.proofs.words.with_option.Goals as goal

pub returns : goal.returns
returns c =
    let rule : rule_of c.help-option.result ≡ option_rule c.args.name.now = search rules in
    let local : c.help-option.result.global ≡ false = search rules in
    IfOk-weaker c.arg.result _ _ (λ r h. h.shape local ∙ ap (with_rule (app_of c.args.command)) rule) c.arg.ensures
