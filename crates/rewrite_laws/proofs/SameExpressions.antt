-- Expressions that are told the same are equal.
use Rattle.std.proofs.Common.{◌≡◌, refl, ap, ℤ, ◌==◌, Bool, true, false}
use Rattle.std.proofs.lemmas.Bool.{eqb-true, and_parts}
use Rattle.std.specs.Cmp.{signed_Decides}
use Rattle.edm_values.proofs.OptionFacts.{and_3}
use Rattle.edm_values.proofs.SameTexts.{same_texts}
use Rattle.apply_ast.specs.Trees.{Expr}
use Rattle.apply_ast.specs.declared.expressions.BinOp.{BinOp}
use Rattle.apply_ast.specs.declared.expressions.Fun1.{Fun1}
use Rattle.apply_ast.specs.declared.expressions.Fun2.{Fun2}
use Rattle.apply_ast.specs.declared.expressions.UnOp.{UnOp}
use Rattle.context_typing.proofs.PathLemmas.{same_paths}
use Rattle.rewrite_laws.specs.TreeEquality.{binop_number, expr_same, fun1_number, fun2_number, same_bool, same_integer, unop_number}

pub same-bool : (a b : Bool) → same_bool a b ≡ true → a ≡ b
same-bool true true e = refl
same-bool true false e = cc
same-bool false true e = cc
same-bool false false e = refl

pub same-int : (a b : ℤ) → same_integer a b ≡ true → a ≡ b
same-int a b e = (signed_Decides a b).0 e

same-unop : (a b : UnOp) → (unop_number a == unop_number b) ≡ true → a ≡ b
same-unop UnOp.Neg UnOp.Neg e = refl
same-unop UnOp.Not UnOp.Not e = refl
same-unop _ _ e = cc

same-binop : (a b : BinOp) → (binop_number a == binop_number b) ≡ true → a ≡ b
same-binop BinOp.Or BinOp.Or e = refl
same-binop BinOp.And BinOp.And e = refl
same-binop BinOp.Eq BinOp.Eq e = refl
same-binop BinOp.Ne BinOp.Ne e = refl
same-binop BinOp.Gt BinOp.Gt e = refl
same-binop BinOp.Ge BinOp.Ge e = refl
same-binop BinOp.Lt BinOp.Lt e = refl
same-binop BinOp.Le BinOp.Le e = refl
same-binop BinOp.Add BinOp.Add e = refl
same-binop BinOp.Sub BinOp.Sub e = refl
same-binop BinOp.Mul BinOp.Mul e = refl
same-binop _ _ e = cc

same-fun1 : (a b : Fun1) → (fun1_number a == fun1_number b) ≡ true → a ≡ b
same-fun1 Fun1.Length Fun1.Length e = refl
same-fun1 Fun1.Year Fun1.Year e = refl
same-fun1 Fun1.Month Fun1.Month e = refl
same-fun1 Fun1.Day Fun1.Day e = refl
same-fun1 _ _ e = cc

same-fun2 : (a b : Fun2) → (fun2_number a == fun2_number b) ≡ true → a ≡ b
same-fun2 Fun2.StartsWith Fun2.StartsWith e = refl
same-fun2 Fun2.EndsWith Fun2.EndsWith e = refl
same-fun2 Fun2.Contains Fun2.Contains e = refl
same-fun2 _ _ e = cc

pub same-exprs : (a b : Expr) → expr_same a b ≡ true → a ≡ b
same-exprs Expr.Null Expr.Null e = refl
same-exprs (Expr.Bool' a) (Expr.Bool' b) e = ap Expr.Bool' (same-bool a b e)
same-exprs (Expr.Int a) (Expr.Int b) e = ap Expr.Int (same-int a b e)
same-exprs (Expr.Dec m s) (Expr.Dec m' s') e = let p = and_parts (same_integer m m') _ e in λ i. Expr.Dec (same-int m m' p.0 i) (eqb-true s s' p.1 i)
same-exprs (Expr.Text a) (Expr.Text b) e = ap Expr.Text (same_texts a b e)
same-exprs (Expr.Day y m d) (Expr.Day y' m' d') e = let p = and_3 (y == y') (m == m') (d == d') e in λ i. Expr.Day (eqb-true y y' p.0 i) (eqb-true m m' p.1 i) (eqb-true d d' p.2 i)
same-exprs (Expr.Path' p) (Expr.Path' q) e = ap Expr.Path' (same_paths p q e)
same-exprs (Expr.Unary o a) (Expr.Unary o' b) e = let p = and_parts (unop_number o == unop_number o') _ e in λ i. Expr.Unary (same-unop o o' p.0 i) (same-exprs a b p.1 i)
same-exprs (Expr.Binary o a b) (Expr.Binary o' a' b') e =
    let p = and_3 (binop_number o == binop_number o') (expr_same a a') (expr_same b b') e in
    λ i. Expr.Binary (same-binop o o' p.0 i) (same-exprs a a' p.1 i) (same-exprs b b' p.2 i)
same-exprs (Expr.Call1 f a) (Expr.Call1 g b) e = let p = and_parts (fun1_number f == fun1_number g) _ e in λ i. Expr.Call1 (same-fun1 f g p.0 i) (same-exprs a b p.1 i)
same-exprs (Expr.Call2 f a b) (Expr.Call2 g a' b') e =
    let p = and_3 (fun2_number f == fun2_number g) (expr_same a a') (expr_same b b') e in
    λ i. Expr.Call2 (same-fun2 f g p.0 i) (same-exprs a a' p.1 i) (same-exprs b b' p.2 i)
same-exprs _ _ e = cc
