use Rattle.std.proofs.Common.{◌≡◌, length, take}
use Rattle.std.specs.List.{zip}
use Rattle.row_frames.specs.Columned.{given}
use Rattle.row_frames.specs.Keys.{seen_columns}
use Rattle.step_run.proofs.group_totals.key_columns.Given as goal

-- the columns so far
abbrev pub invariant-loop-path : goal.invariant-loop-path
invariant-loop-path l = given l.columns.items ≡ take (length l.yielded) (zip l.paths (seen_columns l.lists))
