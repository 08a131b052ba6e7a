use Rattle.data_diagnosis.proofs.FileLaws.{earlier-of_entity}
use Rattle.data_diagnosis.proofs.laws.earlier_keys_are_of_entities.Goals as goal

pub returns : goal.returns
returns c = record { earlier = earlier-of_entity }
