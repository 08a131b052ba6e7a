use Rattle.std.proofs.Common.{◌≡◌, ◌++◌, drop, map}
use Rattle.apply_ast.specs.Views.{key_of, keys_from}
use Rattle.context_typing.specs.Typing.{plain_paths}
use Rattle.step_run.proofs.levels.plain_keys.Given as goal

abbrev pub invariant-loop-key : goal.invariant-loop-key
invariant-loop-key l = plain_paths (keys_from (map key_of l.keys)) ≡ l.paths.items ++ plain_paths (keys_from (map key_of (drop l.key-index l.keys)))
