use Rattle.std.proofs.Common.{Err, ap}
use Rattle.run_messages.proofs.ReasonLaws.{model_found, model_of_customs_told, model_taken, model_told}
use Rattle.run_messages.proofs.model_file.model_reason.Goals as goal

pub returns-in-Err-clause-refused : goal.returns-in-Err-clause-refused
returns-in-Err-clause-refused c =
    model_told c.args.bytes.now c.in-Err.refused c.refusal_reason.result (λ e. c.in-Err.ensures.too_long (ap Err e)) (λ e. c.in-Err.ensures.json (ap Err e)) (λ e. c.in-Err.ensures.model (ap Err e)) c.refusal_reason.ensures.memory

pub returns-in-Err-clause-taken : goal.returns-in-Err-clause-taken
returns-in-Err-clause-taken c =
    model_found c.args.bytes.now c.in-Err.refused c.refusal_reason.result (λ e. c.in-Err.ensures.model (ap Err e)) c.refusal_reason.ensures.rule c.refusal_reason.ensures.told

pub returns-clause-refused : goal.returns-clause-refused
returns-clause-refused c = model_of_customs_told c.args.bytes.now c.in-Ok.model c.custom_reason.result c.in-Ok.ensures.ok c.custom_reason.ensures.refused

pub returns-clause-taken : goal.returns-clause-taken
returns-clause-taken c = model_taken c.args.bytes.now c.in-Ok.model c.custom_reason.result c.in-Ok.ensures.ok c.custom_reason.ensures.taken
