use Rattle.std.proofs.Common.{refl, ap, Err}
use Rattle.edm_model.specs.ModelFile.{ModelReading}
use Rattle.apply_load.proofs.FilesRead.{MakesModel-read, RefusesModel-read}
use Rattle.apply_load.proofs.loading.load_model.Goals as goal

pub returns-in-Ok-read_model-clause-ok : goal.returns-in-Ok-read_model-clause-ok
returns-in-Ok-read_model-clause-ok g c =
    MakesModel-read c.args.limit _ _ _ _ c.requires.limit c.in-Ok.ensures.bytes (rw c.as_slice.ensures.value at c.in-Ok-read_model.ensures.ok)

pub returns-in-Err-TooLong-clause-stop : goal.returns-in-Err-TooLong-clause-stop
returns-in-Err-TooLong-clause-stop g c =
    RefusesModel-read c.args.limit _ _ _ _ ModelReading.TooLong c.requires.limit c.in-Ok.ensures.bytes (rw c.as_slice.ensures.value at (c.in-Err-TooLong.ensures.too_long (ap Err c.in-Err-TooLong.field-0-is))) (λ entities. refl)

pub returns-in-Err-Json-clause-stop : goal.returns-in-Err-Json-clause-stop
returns-in-Err-Json-clause-stop g c =
    RefusesModel-read c.args.limit _ _ _ _ ModelReading.NoJson c.requires.limit c.in-Ok.ensures.bytes (rw c.as_slice.ensures.value at (c.in-Err-Json.ensures.json (ap Err c.in-Err-Json.field-0-is))) (λ entities. refl)

pub returns-in-Err-Model-clause-stop : goal.returns-in-Err-Model-clause-stop
returns-in-Err-Model-clause-stop g c =
    RefusesModel-read c.args.limit _ _ _ _ ModelReading.NoModel c.requires.limit c.in-Ok.ensures.bytes (rw c.as_slice.ensures.value at (c.in-Err-Model.ensures.model (ap Err c.in-Err-Model.field-0-is))) (λ entities. refl)
