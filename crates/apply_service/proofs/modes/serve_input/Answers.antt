use Rattle.std.proofs.Common.{ap, Err, arith}
use Rattle.apply_service.proofs.modes.serve_input.Goals as goal

pub returns-in-Ok-clause-says : goal.returns-in-Ok-clause-says
returns-in-Ok-clause-says g c = (c.in-Ok.ensures.ok, c.in-Ok.ensures.end)

pub returns-in-Err-Read-clause-says : goal.returns-in-Err-Read-clause-says
returns-in-Err-Read-clause-says g c =
    let is = ap Err c.in-Err-Read.field-0-is in
    (c.in-Err-Read.ensures.read_cause is, c.in-Err-Read.ensures.read is)

pub returns-in-Err-Write-clause-says : goal.returns-in-Err-Write-clause-says
returns-in-Err-Write-clause-says g c =
    let is = ap Err c.in-Err-Write.field-0-is in
    (c.in-Err-Write.ensures.write_cause is, rw c.requires.room at (c.in-Err-Write.ensures.write is))

pub returns-in-Err-Limit-clause-says : goal.returns-in-Err-Limit-clause-says
returns-in-Err-Limit-clause-says g c = c.in-Err-Limit.ensures.limit_passed (ap Err c.in-Err-Limit.field-0-is)
