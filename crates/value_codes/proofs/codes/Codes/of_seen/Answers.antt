use Rattle.value_codes.proofs.CodeLemmas.{seen-codes}
use Rattle.value_codes.proofs.codes.Codes.of_seen.Goals as goal

pub returns-in-Some-2 : goal.returns-in-Some-2
returns-in-Some-2 c =
    let both = seen-codes _ _ c.args.list.now c.in_ok-codes.field-0 c.in-Some-2.codes c.in-Some-bound_of.bound c.in-Some-2.is c.in_ok-codes.ensures.value in
    rw c.new.ensures.value (record { value = both.0; within = both.1 })
