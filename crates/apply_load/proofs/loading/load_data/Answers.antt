use Rattle.std.proofs.Common.{refl, ap, Err}
use Rattle.apply_load.proofs.FilesRead.{MakesWorld-read, RefusesData-read, data_model}
use Rattle.apply_load.proofs.SetNames.{line_told, tells}
use Rattle.apply_load.proofs.loading.load_data.Goals as goal

pub returns-in-Ok-read_data-clause-ok : goal.returns-in-Ok-read_data-clause-ok
returns-in-Ok-read_data-clause-ok g c =
    MakesWorld-read c.args.limit _ _ _ _ _ c.requires.limit c.in-Ok-read_file.ensures.bytes (rw c.as_slice.ensures.value at c.in-Ok-read_data.ensures.ok)

pub returns-in-Ok-data_line-clause-stop : goal.returns-in-Ok-data_line-clause-stop
returns-in-Ok-data_line-clause-stop g c =
    RefusesData-read c.args.limit _ _ _ _ _ _ c.requires.limit c.in-Ok-read_file.ensures.bytes refl (λ customs. line_told c.args.model customs _ c.in-Err.refused _ _ c.in-Ok.ensures (rw c.as_slice-in-Err.ensures.value at c.in-Ok-data_line.ensures) (rw c.as_slice.ensures.value at (tells c.in-Err.refused _ (λ h. c.in-Err.ensures.too_long (ap Err h)) (λ h. c.in-Err.ensures.json (ap Err h)) (λ name h. c.in-Err.ensures.set name (ap Err h)) (λ s k h. c.in-Err.ensures.shape s k (ap Err h)) (λ s k h. c.in-Err.ensures.twice_key s k (ap Err h)) (λ s k h. c.in-Err.ensures.dangling s k (ap Err h)))))

pub returns-in-Ok-read_data-clause-model : goal.returns-in-Ok-read_data-clause-model
returns-in-Ok-read_data-clause-model g c = data_model _ _ _ c.in-Ok-read_data.ensures.ok
