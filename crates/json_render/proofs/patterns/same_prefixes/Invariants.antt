use Rattle.std.proofs.Common.{◌≡◌, map, take}
use Rattle.json_render.specs.RowTexts.{prefix_set}
use Rattle.json_render.proofs.patterns.same_prefixes.Given as goal

abbrev pub invariant-loop-k : goal.invariant-loop-k
invariant-loop-k l = map prefix_set (take l.k l.a) ≡ map prefix_set (take l.k l.b)
