use Rattle.data_diagnosis.proofs.FileLaws.{key-of_entity}
use Rattle.data_diagnosis.proofs.laws.keys_are_of_entities.Goals as goal

pub returns : goal.returns
returns c = record { key = key-of_entity }
