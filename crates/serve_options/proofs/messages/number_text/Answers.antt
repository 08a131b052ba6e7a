use Rattle.std.proofs.Common.{◌++◌, chars, codes, ap, ◌∙◌}
use Rattle.std.proofs.lemmas.Result.{IfOk-weaker}
use Rattle.quoted_text.specs.Quoted.{quote}
use Rattle.serve_options.proofs.messages.number_text.Goals as goal

pub returns : goal.returns
returns c =
    let limits = c.as_str.ensures.value ∙ c.in_ok-limits.ensures in
    let rest = c.in_ok-rest.ensures ∙ ap (λ l. l ++ (codes ", not " ++ quote (chars c.args.given.now))) limits in
    IfOk-weaker c.format.result _ _ (λ t e. e ∙ ap (λ r. c.args.option.now ++ (codes " takes a whole number from " ++ r)) rest) c.format.ensures.ok
