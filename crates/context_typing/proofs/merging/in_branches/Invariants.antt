use Rattle.std.proofs.Common.{◌≡◌, Some, take}
use Rattle.context_typing.specs.Merging.{in_branches}
use Rattle.context_typing.proofs.merging.in_branches.Given as goal

abbrev pub invariant-loop-shape : goal.invariant-loop-shape
invariant-loop-shape l = in_branches l.m (take l.shape-index l.shapes) l.column ≡ Some l.joined
