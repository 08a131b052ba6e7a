use Rattle.std.proofs.Common.{◌≡◌, length, take}
use Rattle.apply_meaning.specs.Meaning.{keyed}
use Rattle.step_run.proofs.groups.key_columns.Given as goal

-- the columns so far
abbrev pub invariant-loop-path : goal.invariant-loop-path
invariant-loop-path l = l.columns.items ≡ take (length l.yielded) (keyed l.paths l.key)
