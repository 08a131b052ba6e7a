use Rattle.std.proofs.Common.{◌≡◌, map, drop}
use Rattle.apply_ast.specs.Views.{key_of}
use Rattle.rewrite_forms.specs.GroupForms.{first_rollup}
use Rattle.rewrite_forms.proofs.keys.first_rollup.Given as goal

-- the keys so far are plain
abbrev pub invariant-loop-key : goal.invariant-loop-key
invariant-loop-key l = first_rollup (map key_of l.keys) ≡ first_rollup (map key_of (drop l.key-index l.keys))
