-- Worked measures, and why a concatenation must have two branches for its rewrites to be smaller.
use Rattle.std.proofs.Common.{◌≡◌, refl, inl, inr, [], ◌∷◌, pos, codes, arith}
use Rattle.apply_ast.specs.Counts.{step_count}
use Rattle.apply_ast.specs.Trees.{Expr, Step, Pipes, pipe}
use Rattle.apply_ast.specs.declared.expressions.BinOp.TheVariants as BinOp
use Rattle.rewrite_laws.specs.Measures.{weight, IsSmaller}
use Rattle.apply_ast.proofs.TreeWords.{named}

abbrev first : Expr
first = Expr.Binary BinOp.Eq (Expr.Path' ((codes "ID") ∷ [])) (Expr.Int (pos 1))

abbrev second : Expr
second = Expr.Binary BinOp.Gt (Expr.Path' ((codes "Amount") ∷ [])) (Expr.Int (pos 2))

abbrev computed : Step
computed = Step.Compute (named (Expr.Binary BinOp.Add (Expr.Path' ((codes "Amount") ∷ [])) (Expr.Int (pos 1))) (codes "X") ∷ [])

-- a conjunction behind a computation is split, and both filters pass: the weight at 1 falls each time
written : weight (pipe (computed ∷ Step.Filter (Expr.Binary BinOp.And first second) ∷ [])) 1 ≡ 256
unfolding weight
written = refl

split : weight (pipe (computed ∷ Step.Filter first ∷ Step.Filter second ∷ [])) 1 ≡ 128
unfolding weight
split = refl

one_passed : weight (pipe (Step.Filter first ∷ computed ∷ Step.Filter second ∷ [])) 1 ≡ 72
unfolding weight
one_passed = refl

both_passed : weight (pipe (Step.Filter first ∷ Step.Filter second ∷ computed ∷ [])) 1 ≡ 65
unfolding weight
both_passed = refl

-- no branch at all, which has no typing either: what stands before weighs nothing
abbrev empty : Step
empty = Step.Concat Pipes.NoPipes

empty_is_no_smaller : IsSmaller (pipe (Step.Filter first ∷ Step.Filter second ∷ empty ∷ [])) (pipe (Step.Filter (Expr.Binary BinOp.And first second) ∷ empty ∷ [])) → ⊥
unfolding weight step_count
empty_is_no_smaller (inl h) = omega (arith, h 1 (omega arith))
empty_is_no_smaller (inr (inl h)) = omega (arith, h.1)
empty_is_no_smaller (inr (inr h)) = omega (arith, h.1)
