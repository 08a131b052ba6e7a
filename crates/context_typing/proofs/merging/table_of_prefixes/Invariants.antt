use Rattle.std.proofs.Common.{◌≡◌, Some, [], fold, take}
use Rattle.context_typing.specs.Merging.{add_prefixes}
use Rattle.context_typing.proofs.merging.table_of_prefixes.Given as goal

abbrev pub invariant-loop-shape : goal.invariant-loop-shape
invariant-loop-shape l = fold add_prefixes (Some []) (take l.shape-index l.shapes) ≡ Some l.table.items
