use Rattle.std.proofs.Common.{◌≡◌, Some, map, take}
use Rattle.edm_values.specs.Lists.{all_some}
use Rattle.context_typing.specs.Merging.{joined_prefix}
use Rattle.context_typing.proofs.merging.joined_prefixes.Given as goal

abbrev pub invariant-loop-prefix : goal.invariant-loop-prefix
invariant-loop-prefix l = all_some (map (joined_prefix l.shapes) (take l.prefix-index l.table)) ≡ Some l.prefixes.items
