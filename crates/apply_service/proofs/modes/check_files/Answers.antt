use Rattle.std.proofs.Common.{ap, refl, Err}
use Rattle.apply_service.proofs.Ends.{check-refused, check-said, load-said}
use Rattle.apply_service.proofs.Folders.{KeepsFiles-same}
use Rattle.apply_service.proofs.modes.check_files.Goals as goal

pub returns-in_default-clause-keeps : goal.returns-in_default-clause-keeps
returns-in_default-clause-keeps g c = KeepsFiles-same _

pub returns-in_default-clause-says : goal.returns-in_default-clause-says
returns-in_default-clause-says g c = refl

pub returns-in-Err-clause-says : goal.returns-in-Err-clause-says
returns-in-Err-clause-says g c =
    check-refused _ _ _ _ _ c.tell_stop.result
    (load-said _ _ _ _ _ c.in-Err.stop c.tell_stop.result c.tell_stop.ensures.says c.in-Err.ensures.stop (λ e. (c.in-Err.ensures.fault (ap Err e), c.in-Err.ensures.steady (ap Err e))))

pub returns-clause-says : goal.returns-clause-says
returns-clause-says g c = check-said _ _ _ _ _ c.in-Ok-load.store c.tell_store.result c.in-Ok-load.ensures.ok c.tell_store.ensures.says
