-- A custom aggregate at fault, whatever the file and the place of the type.
use Rattle.edm_schema.specs.MemberLists.{root_of}
use Rattle.model_diagnosis.proofs.terms.terms_fault.Goals as goal

pub returns-in-Some-aggregates_fault-clause-found : goal.returns-in-Some-aggregates_fault-clause-found
returns-in-Some-aggregates_fault-clause-found c = c.in-Some-aggregates_fault.ensures.found (root_of c.args.schema.now) c.args.k
