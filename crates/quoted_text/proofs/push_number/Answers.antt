use Rattle.std.proofs.Common.{arith, rules, append_assoc}
use Rattle.std.proofs.lemmas.Result.{IfOk-equal}
use Rattle.std.proofs.lemmas.Str.{encodes-append}
use Rattle.quoted_text.proofs.Characters.{one_unit, two_units}
use Rattle.quoted_text.proofs.push_number.Goals as goal

pub returns-then-n-lt65536 : goal.returns-then-n-lt65536
returns-then-n-lt65536 c = rw (one_unit c.args.c (omega arith)) (search rules)

pub returns : goal.returns
returns c = rw (two_units c.args.c (omega arith), encodes-append) (search (rules, IfOk-equal, append_assoc))
