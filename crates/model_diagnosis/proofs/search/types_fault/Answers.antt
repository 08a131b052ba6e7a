-- Where nothing is found the types keep their rules.
use Rattle.edm_schema.specs.MemberLists.{root_of}
use Rattle.model_diagnosis.proofs.Unbroken.{if_none, types_hold}
use Rattle.model_diagnosis.proofs.search.types_fault.Goals as goal

pub returns-clause-none : goal.returns-clause-none
returns-clause-none c =
    if_none _ _ (types_hold (root_of c.args.schema.now) c.in_default.ensures.none) c.links_fault.result c.links_fault.ensures.none
