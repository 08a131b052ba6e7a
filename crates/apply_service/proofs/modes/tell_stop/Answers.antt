use Rattle.std.proofs.Common.{refl}
use Rattle.apply_service.specs.Parts.{no_read, no_memory, model_told, model_broken, data_told, data_broken}
use Rattle.apply_service.proofs.modes.tell_stop.Goals as goal

pub returns-in-Fault-clause-says : goal.returns-in-Fault-clause-says
returns-in-Fault-clause-says g c = rw c.in-Fault.is (no_read refl)

pub returns-in-Memory-clause-says : goal.returns-in-Memory-clause-says
returns-in-Memory-clause-says g c = rw c.in-Memory.is (no_memory refl)

pub returns-in-Ok-clause-says : goal.returns-in-Ok-clause-says
returns-in-Ok-clause-says g c = rw c.in-Model.is (model_told _ c.in-Ok.ensures.ok)

pub returns-in-Err-clause-says : goal.returns-in-Err-clause-says
returns-in-Err-clause-says g c = rw c.in-Model.is (model_broken _ c.in-Err.ensures.cause.failed c.in-Err.ensures.err)

pub returns-in-Ok-write_whole-clause-says : goal.returns-in-Ok-write_whole-clause-says
returns-in-Ok-write_whole-clause-says g c = rw c.in-Data.is (data_told c.in-Data.line (rw c.as_slice.ensures.value at c.in-Ok-write_whole.ensures.ok))

pub returns-in-Err-write_whole-clause-says : goal.returns-in-Err-write_whole-clause-says
returns-in-Err-write_whole-clause-says g c = rw c.in-Data.is (data_broken c.in-Data.line c.in-Err-write_whole.ensures.cause.failed (rw c.as_slice.ensures.value at c.in-Err-write_whole.ensures.err))
