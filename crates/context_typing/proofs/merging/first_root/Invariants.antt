use Rattle.std.proofs.Common.{◌≡◌, drop}
use Rattle.edm_values.specs.Lists.{find_map}
use Rattle.context_typing.proofs.merging.first_root.Given as goal

abbrev pub invariant-loop-shape : goal.invariant-loop-shape
invariant-loop-shape l = find_map (λ S. S.root) l.shapes ≡ find_map (λ S. S.root) (drop l.shape-index l.shapes)
