use Rattle.std.proofs.Common.{None, Err, ap}
use Rattle.apply_load.proofs.Fronts.{KeepsFiles-more}
use Rattle.apply_load.proofs.FilesRead.{FilesMake-no_model, FilesMake-refused_model, FilesMake-refused_custom, FilesMake-no_data, FilesMake-refused_data, FilesMake-world}
use Rattle.apply_load.proofs.loading.load.Goals as goal

pub returns-in-Err-Refused-clause-stop : goal.returns-in-Err-Refused-clause-stop
returns-in-Err-Refused-clause-stop g c =
    rw c.in-Err-Refused.line-is (FilesMake-refused_model _ None _ _ (rw c.in-Err-Refused.field-0-is at c.in-Err-Refused.ensures.stop))

pub returns-in-Err-Refused-load_customs-clause-stop : goal.returns-in-Err-Refused-load_customs-clause-stop
returns-in-Err-Refused-load_customs-clause-stop g c =
    rw c.in-Err-Refused-load_customs.line-is (FilesMake-refused_custom _ None _ _ _ c.in-Ok.ensures.ok (rw c.in-Err-Refused-load_customs.field-0-is at c.in-Err-Refused-load_customs.ensures.stop))

pub returns-in-Err-Fault-load_data-clause-steady : goal.returns-in-Err-Fault-load_data-clause-steady
returns-in-Err-Fault-load_data-clause-steady g c =
    λ e steady. FilesMake-no_data _ _ _ _ _ c.in-Ok.ensures.keeps c.in-Ok.ensures.ok c.in-Ok-load_customs.ensures.all (c.in-Err-Fault-load_data.ensures.steady (ap Err c.in-Err-Fault-load_data.field-0-is) (c.in-Ok.ensures.steady_still steady))

pub returns-in-Err-Refused-load_data-clause-stop : goal.returns-in-Err-Refused-load_data-clause-stop
returns-in-Err-Refused-load_data-clause-stop g c =
    rw c.in-Err-Refused-load_data.line-is (FilesMake-refused_data _ _ _ _ _ c.in-Ok.ensures.keeps c.in-Ok.ensures.ok c.in-Ok-load_customs.ensures.all _ (rw c.in-Err-Refused-load_data.field-0-is at c.in-Err-Refused-load_data.ensures.stop))

pub returns-in-Ok-hier_states-clause-ok : goal.returns-in-Ok-hier_states-clause-ok
returns-in-Ok-hier_states-clause-ok g c =
    rw c.new.ensures.value (FilesMake-world _ _ _ _ _ c.in-Ok.ensures.keeps c.in-Ok.ensures.ok c.in-Ok-load_customs.ensures.all _ c.in-Ok-load_data.ensures.ok)

pub returns-in-Ok-hier_states-clause-keeps : goal.returns-in-Ok-hier_states-clause-keeps
returns-in-Ok-hier_states-clause-keeps g c = KeepsFiles-more _ _ _ c.in-Ok.ensures.keeps c.load_data.ensures.keeps

pub returns-in-Err-Fault-clause-steady : goal.returns-in-Err-Fault-clause-steady
returns-in-Err-Fault-clause-steady g c = λ e steady. FilesMake-no_model _ None _ (c.in-Err-Fault.ensures.steady (ap Err c.in-Err-Fault.field-0-is) steady)

pub returns-in-Err-Fault-load_data-clause-keeps : goal.returns-in-Err-Fault-load_data-clause-keeps
returns-in-Err-Fault-load_data-clause-keeps g c = KeepsFiles-more _ _ _ c.in-Ok.ensures.keeps c.load_data.ensures.keeps

pub returns-in-Err-Memory-load_data-clause-keeps : goal.returns-in-Err-Memory-load_data-clause-keeps
returns-in-Err-Memory-load_data-clause-keeps g c = KeepsFiles-more _ _ _ c.in-Ok.ensures.keeps c.load_data.ensures.keeps

pub returns-in-Err-Refused-load_data-clause-keeps : goal.returns-in-Err-Refused-load_data-clause-keeps
returns-in-Err-Refused-load_data-clause-keeps g c = KeepsFiles-more _ _ _ c.in-Ok.ensures.keeps c.load_data.ensures.keeps

pub returns-in-Err-clause-keeps : goal.returns-in-Err-clause-keeps
returns-in-Err-clause-keeps g c = KeepsFiles-more _ _ _ c.in-Ok.ensures.keeps c.load_data.ensures.keeps
