use Rattle.std.proofs.Common.{◌≡◌, map, drop}
use Rattle.apply_ast.specs.Views.{key_of, keys_from}
use Rattle.context_typing.specs.Typing.{rollup_parts}
use Rattle.context_typing.proofs.grouping.first_rollup.Given as goal

abbrev pub invariant-loop-i : goal.invariant-loop-i
invariant-loop-i l = rollup_parts (keys_from (map key_of l.keys)) ≡ rollup_parts (keys_from (map key_of (drop l.i l.keys)))
