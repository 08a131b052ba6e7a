use Rattle.data_diagnosis.proofs.FileLaws.{dangling-of_entity, misses-of_entity}
use Rattle.data_diagnosis.proofs.laws.missing_references_dangle.Goals as goal

pub returns : goal.returns
returns c = record { navigation = misses-of_entity; any = dangling-of_entity }
