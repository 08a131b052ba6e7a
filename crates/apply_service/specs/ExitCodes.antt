-- The numbers that the program ends with: this project's own.
use Rattle.std.specs.Prelude.{ℕ}
use Rattle.apply_service.specs.declared.status.Status.{Status}
use Rattle.apply_service.specs.declared.status.Status.TheVariants.{Served, Usage, ModelRefused, DataRefused, ReadFault, WriteFault, Memory, InputLimit}

-- the number of a status; 0 is that every line was answered
abbrev pub exit_code : Status → ℕ
exit_code Served = 0
exit_code Usage = 1
exit_code ModelRefused = 2
exit_code DataRefused = 3
exit_code ReadFault = 4
exit_code WriteFault = 5
exit_code Memory = 6
exit_code InputLimit = 7
