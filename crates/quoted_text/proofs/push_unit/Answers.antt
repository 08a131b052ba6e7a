use Rattle.std.proofs.Common.{rules, append_assoc}
use Rattle.std.proofs.lemmas.Result.{IfOk-equal}
use Rattle.quoted_text.specs.Quoted.{unit_number}
use Rattle.quoted_text.proofs.push_unit.Goals as goal

pub returns : goal.returns
unfolding unit_number
returns c = search (rules, IfOk-equal, append_assoc)
