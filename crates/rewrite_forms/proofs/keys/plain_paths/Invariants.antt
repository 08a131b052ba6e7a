use Rattle.std.proofs.Common.{◌≡◌, map, take}
use Rattle.apply_ast.specs.Views.{key_of, keys_from}
use Rattle.context_typing.specs.Typing.{plain_paths}
use Rattle.rewrite_forms.proofs.keys.plain_paths.Given as goal

abbrev pub invariant-loop-key : goal.invariant-loop-key
invariant-loop-key l = l.paths.items ≡ plain_paths (keys_from (map key_of (take l.key-index l.keys)))
