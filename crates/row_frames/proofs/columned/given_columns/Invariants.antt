use Rattle.std.proofs.Common.{◌≡◌, ◌++◌, map}
use Rattle.std.specs.Vec.Iter.{into_iter_items}
use Rattle.row_frames.specs.Columned.{given}
use Rattle.row_frames.specs.Frames.{listed}
use Rattle.row_frames.proofs.columned.given_columns.Given as goal

-- the columns so far and those that are left are the whole
abbrev pub invariant-loop-path : goal.invariant-loop-path
invariant-loop-path l = given l.fn.columns.items ≡ map listed l.made.items ++ given (into_iter_items l.path-iterator)
