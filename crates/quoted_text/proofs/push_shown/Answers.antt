use Rattle.std.proofs.Common.{rules, append_assoc}
use Rattle.std.proofs.lemmas.Result.{IfOk-equal}
use Rattle.quoted_text.specs.Quoted.{show}
use Rattle.quoted_text.proofs.push_shown.Goals as goal

pub returns-then-is_unprintable : goal.returns-then-is_unprintable
unfolding show
returns-then-is_unprintable c = search (rules, IfOk-equal, append_assoc)

pub returns-else-is_unprintable : goal.returns-else-is_unprintable
unfolding show
returns-else-is_unprintable c = search (rules, IfOk-equal, append_assoc)
