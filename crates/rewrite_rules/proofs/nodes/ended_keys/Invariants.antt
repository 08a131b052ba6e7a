use Rattle.std.proofs.Common.{◌≡◌, map, take}
use Rattle.apply_ast.specs.Trees.{Step}
use Rattle.apply_ast.specs.Views.{expr_of, key_of}
use Rattle.rewrite_laws.specs.Rewrites.{ended_key}
use Rattle.rewrite_rules.proofs.nodes.ended_keys.Given as goal

abbrev pub invariant-loop-key : goal.invariant-loop-key
invariant-loop-key l = map key_of l.made.items ≡ map (λ k. ended_key (Step.Filter (expr_of l.test)) (key_of k)) (take l.key-index l.keys)
