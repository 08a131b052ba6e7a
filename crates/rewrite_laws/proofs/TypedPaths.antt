-- Each path of a typed expression is typed.
use Rattle.std.proofs.Common.{◌≡◌, refl, Bool, true, false, ◌||◌, if◌then◌else◌, Option, Some, None}
use Rattle.std.specs.Prelude.{is_some, option_and_then}
use Rattle.std.specs.Bool.{then_some}
use Rattle.std.specs.List.{list_all}
use Rattle.std.proofs.lemmas.Bool.{and_parts, and_from}
use Rattle.edm_values.specs.Lists.{is_some_and}
use Rattle.edm_values.specs.Literals.{same_kind}
use Rattle.edm_values.specs.declared.EdmType.{EdmType}
use Rattle.edm_values.proofs.ListFacts.{all-append}
use Rattle.edm_values.proofs.OptionFacts.{some_and-there}
use Rattle.edm_model.specs.Models.{Model}
use Rattle.apply_ast.specs.Trees.{Expr}
use Rattle.apply_ast.specs.declared.expressions.BinOp.{BinOp}
use Rattle.context_typing.specs.Shapes.{Shape}
use Rattle.context_typing.specs.Typing.{binary_kind, call1_kind, expr_kind, is_equality, is_null_literal, is_order, is_typed, null_comparison, path_kind, unary_kind}
use Rattle.rewrite_laws.specs.Rewrites.{paths}

-- what a chain that gives something begins with
begun : {X Y : Type 0} (f : X → Option Y) (o : Option X) → is_some (option_and_then f o) ≡ true → is_some o ≡ true
begun f None h = h
begun f (Some x) h = refl

chosen : {X : Type 0} (b : Bool) (x : X) → is_some (then_some b x) ≡ true → b ≡ true
chosen true x h = refl
chosen false x h = h

-- a comparison with null has another operand that is null or typed
beside_null : (op : BinOp) (y : Bool) (k : Option EdmType) → is_some (null_comparison op y k) ≡ true → (y || is_some k) ≡ true
beside_null op true k h = refl
beside_null op false k h =
    some_and-there _ k (and_parts (is_equality op || is_order op) _ (chosen _ EdmType.Bool h)).1

-- each operand is null or typed
operands-typed : (op : BinOp) (z y : Bool) (j k : Option EdmType)
    → is_some (if z then null_comparison op y k else (if y then null_comparison op false j else option_and_then (λ a. option_and_then (λ b. binary_kind op a b) k) j)) ≡ true
    → ((z || is_some j) ≡ true) × ((y || is_some k) ≡ true)
operands-typed op true y j k h = (refl, beside_null op y k h)
operands-typed op false true j k h = (beside_null op false j h, refl)
operands-typed op false false None k h = (h, absurd cc)
operands-typed op false false (Some a) k h = (refl, begun (λ b. binary_kind op a b) k h)

module _ (m : Model) (S : Shape) where
  abbrev pub AllTyped : Expr → Type 0
  AllTyped e = list_all (λ p. is_some (path_kind m S p)) (paths e) ≡ true

  null-has_none : (e : Expr) → is_null_literal e ≡ true → AllTyped e
  null-has_none Expr.Null h = refl
  null-has_none _ h = cc

  operand : (e : Expr) → (is_null_literal e || is_typed m S e) ≡ true → (is_typed m S e ≡ true → AllTyped e) → AllTyped e
  operand e h f = go (is_null_literal e) refl h
    where
      go : (z : Bool) → is_null_literal e ≡ z → (z || is_typed m S e) ≡ true → AllTyped e
      go true n h = null-has_none e n
      go false n h = f h

  pub paths-typed : (e : Expr) → is_typed m S e ≡ true → AllTyped e
  paths-typed (Expr.Path' p) h = and_from _ _ h refl
  paths-typed (Expr.Unary op a) h = paths-typed a (begun (unary_kind op) (expr_kind m S a) h)
  paths-typed (Expr.Binary op a b) h =
      let t = operands-typed op (is_null_literal a) (is_null_literal b) (expr_kind m S a) (expr_kind m S b) h in
      all-append (λ p. is_some (path_kind m S p)) (paths a) (paths b) (operand a t.0 (λ k. paths-typed a k)) (operand b t.1 (λ k. paths-typed b k))
  paths-typed (Expr.Call1 f a) h = paths-typed a (begun (call1_kind f) (expr_kind m S a) h)
  paths-typed (Expr.Call2 f a b) h =
      let t = and_parts (is_some_and (same_kind EdmType.Text) (expr_kind m S a)) _ (chosen _ EdmType.Bool h) in
      all-append (λ p. is_some (path_kind m S p)) (paths a) (paths b) (paths-typed a (some_and-there _ (expr_kind m S a) t.0)) (paths-typed b (some_and-there _ (expr_kind m S b) t.1))
  paths-typed _ h = refl
