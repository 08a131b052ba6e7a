use Rattle.std.proofs.Common.{◌≡◌, Some, fold, take}
use Rattle.context_typing.specs.Merging.{add_prefix}
use Rattle.context_typing.proofs.merging.add_prefixes.Given as goal

abbrev pub invariant-loop-prefix : goal.invariant-loop-prefix
invariant-loop-prefix l = fold add_prefix (Some l.fn.table.items) (take l.prefix-index l.prefixes) ≡ Some l.table.items
