use Rattle.std.proofs.Common.{◌≡◌, drop, map}
use Rattle.apply_ast.specs.Views.{key_of, keys_from}
use Rattle.step_run.specs.RecursiveKeys.{are_flat_keys}
use Rattle.step_run.proofs.group_totals.are_flat.Given as goal

-- what holds of all keys is what holds of the rest
abbrev pub invariant-loop-key : goal.invariant-loop-key
invariant-loop-key l = are_flat_keys (keys_from (map key_of l.keys)) ≡ are_flat_keys (keys_from (map key_of (drop l.key-index l.keys)))
