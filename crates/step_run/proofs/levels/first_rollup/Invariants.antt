use Rattle.std.proofs.Common.{◌≡◌, drop, map, IsTrue}
use Rattle.apply_ast.specs.Views.{key_of, keys_from}
use Rattle.context_typing.specs.Typing.{group_keys, rollup_part}
use Rattle.step_run.specs.RecursiveKeys.{are_flat_keys}
use Rattle.step_run.proofs.levels.first_rollup.Given as goal

-- the first rollup is that of the rest
abbrev pub invariant-loop-key : goal.invariant-loop-key
invariant-loop-key l =
    (rollup_part (group_keys (keys_from (map key_of l.keys))) ≡ rollup_part (group_keys (keys_from (map key_of (drop l.key-index l.keys)))))
    × IsTrue (are_flat_keys (keys_from (map key_of (drop l.key-index l.keys))))
