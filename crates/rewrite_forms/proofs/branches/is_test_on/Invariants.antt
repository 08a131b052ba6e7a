use Rattle.std.proofs.Common.{◌≡◌, true, take}
use Rattle.apply_ast.specs.Views.{expr_of}
use Rattle.rewrite_forms.specs.Branches.{is_test_on}
use Rattle.rewrite_forms.proofs.branches.is_test_on.Given as goal

-- it is a test on the shapes so far
abbrev pub invariant-loop-shape : goal.invariant-loop-shape
invariant-loop-shape l = is_test_on l.m (take l.shape-index l.shapes) (expr_of l.e) ≡ true
