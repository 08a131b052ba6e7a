use Rattle.std.proofs.Common.{◌≡◌, Some, take}
use Rattle.context_typing.specs.Merging.{some_lack_prefix}
use Rattle.context_typing.proofs.merging.some_lack_prefix.Given as goal

abbrev pub invariant-loop-shape : goal.invariant-loop-shape
invariant-loop-shape l = some_lack_prefix (take l.shape-index l.shapes) l.prefix ≡ Some l.absent
