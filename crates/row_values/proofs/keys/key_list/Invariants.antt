use Rattle.std.proofs.Common.{◌≡◌, take}
use Rattle.apply_meaning.specs.Meaning as spec
use Rattle.row_values.proofs.keys.key_list.Given as goal

-- the values so far
abbrev pub invariant-loop-path : goal.invariant-loop-path
invariant-loop-path l = l.key.items ≡ spec.key_list l.store (take l.path-index l.paths) l.row
