use Rattle.run_messages.proofs.ReasonLaws.{custom_told, never_none}
use Rattle.run_messages.proofs.customs.custom_reason.Goals as goal

pub returns-clause-refused : goal.returns-clause-refused
returns-clause-refused c = custom_told c.args.m.now c.in-Err.fault c.fault_reason.result c.in-Err.ensures.first c.fault_reason.ensures.memory

pub returns-clause-taken : goal.returns-clause-taken
returns-clause-taken c = never_none _ c.fault_reason.result c.fault_reason.ensures.told
