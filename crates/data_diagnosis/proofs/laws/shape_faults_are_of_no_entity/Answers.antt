use Rattle.data_diagnosis.proofs.ShapeLaws.{shape-faults-are}
use Rattle.data_diagnosis.proofs.laws.shape_faults_are_of_no_entity.Goals as goal

pub returns : goal.returns
returns c = record { shape = shape-faults-are }
