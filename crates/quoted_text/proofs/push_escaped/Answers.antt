use Rattle.std.proofs.Common.{rules, append_assoc}
use Rattle.std.proofs.lemmas.Result.{IfOk-equal}
use Rattle.quoted_text.specs.Quoted.{escape}
use Rattle.quoted_text.proofs.push_escaped.Goals as goal

pub returns-in_ok-push-in-Some : goal.returns-in_ok-push-in-Some
unfolding escape
returns-in_ok-push-in-Some c = search (rules, IfOk-equal, append_assoc)

pub returns-in-None : goal.returns-in-None
unfolding escape
returns-in-None c = search (rules, IfOk-equal, append_assoc)
