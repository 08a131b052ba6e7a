use Rattle.std.proofs.Common.{◌≡◌, ◌++◌, map, take}
use Rattle.apply_ast.specs.Views.{key_of}
use Rattle.rewrite_places.proofs.trees.put_key_copies.Given as goal

abbrev pub invariant-loop-key : goal.invariant-loop-key
invariant-loop-key l = map key_of l.out.items ≡ map key_of l.fn.out.items ++ map key_of (take l.key-index l.keys)
