use Rattle.std.proofs.Common.{◌≡◌, ◌++◌, map}
use Rattle.apply_ast.specs.Trees.{Step}
use Rattle.apply_ast.specs.Views.{expr_of, step_of}
use Rattle.optimiser.proofs.ends.put_tests.Given as goal

abbrev pub invariant-loop-test : goal.invariant-loop-test
invariant-loop-test l = map step_of l.steps.items ≡ map step_of l.initial.steps.items ++ map (λ t. Step.Filter (expr_of t.expr)) l.yielded
