-- What is found has none of these names.
use Rattle.model_diagnosis.proofs.links.other_in_collection.Goals as goal

pub returns-clause-found : goal.returns-clause-found
returns-clause-found c = c.other_member.ensures.found

pub returns-clause-none : goal.returns-clause-none
returns-clause-none c = c.other_member.ensures.none
