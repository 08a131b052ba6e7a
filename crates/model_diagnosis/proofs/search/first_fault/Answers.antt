-- A file with a fault is refused.
use Rattle.std.proofs.Common.{rules}
use Rattle.model_diagnosis.specs.Faults.{IsFault}
use Rattle.edm_schema.specs.MemberLists.{root_of}
use Rattle.model_diagnosis.proofs.Broken.{fault_breaks, found_breaks}
use Rattle.model_diagnosis.proofs.search.first_fault.Goals as goal

pub returns-in-Some-clause-refused : goal.returns-in-Some-clause-refused
returns-in-Some-clause-refused c = fault_breaks (root_of c.args.schema.now) c.in-Some.fault c.in-Some.ensures.found

pub returns-in-Some-types_fault-clause-refused : goal.returns-in-Some-types_fault-clause-refused
returns-in-Some-types_fault-clause-refused c = fault_breaks (root_of c.args.schema.now) c.in-Some-types_fault.fault c.in-Some-types_fault.ensures.found

pub returns-in-Some-2-clause-refused : goal.returns-in-Some-2-clause-refused
returns-in-Some-2-clause-refused c =
    let d = root_of c.args.schema.now in
    let found : IsFault d c.in-Some-2.fault = search rules in
    fault_breaks d c.in-Some-2.fault found

pub returns-clause-refused : goal.returns-clause-refused
returns-clause-refused c = found_breaks (root_of c.args.schema.now) c.names_fault.result c.names_fault.ensures.found
