use Rattle.std.proofs.Common.{◌≡◌, map, take}
use Rattle.apply_ast.specs.Views.{named_of}
use Rattle.apply_meaning.specs.Running.{new_columns}
use Rattle.apply_meaning.proofs.computes.computed.Given as goal

abbrev pub invariant-loop-k : goal.invariant-loop-k
invariant-loop-k l = l.columns.items ≡ new_columns l.store (map named_of (take l.k l.items)) l.row
