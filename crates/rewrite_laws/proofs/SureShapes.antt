-- An expression is sure on a shape where it is sure on others, if these are as risky and have the shape's types.
use Rattle.std.proofs.Common.{◌≡◌, refl, sym, ◌∙◌, ap, Bool, true, false, ◌&&◌, ◌||◌, not, List, Option, Some, None, if◌then◌else◌}
use Rattle.std.proofs.lemmas.Bool.{and_parts, and_from, not_from_false, or_right}
use Rattle.std.specs.Prelude.{option_and_then, is_some}
use Rattle.std.specs.Bool.{then_some}
use Rattle.std.specs.List.{list_all}
use Rattle.edm_model.specs.Models.{Model}
use Rattle.edm_values.specs.Lists.{is_some_and}
use Rattle.edm_values.specs.Literals.{is_number_kind, same_kind}
use Rattle.edm_values.specs.Names.{Path}
use Rattle.edm_values.specs.declared.EdmType.{EdmType}
use Rattle.edm_values.proofs.ListFacts.{all-each}
use Rattle.edm_values.proofs.OptionFacts.{and_3, some_there}
use Rattle.edm_values.proofs.SearchFacts.{IsAmong}
use Rattle.apply_ast.specs.Trees.{Expr}
use Rattle.apply_ast.specs.declared.expressions.BinOp.{BinOp}
use Rattle.apply_ast.specs.declared.expressions.Fun1.{Fun1}
use Rattle.apply_ast.specs.declared.expressions.UnOp.{UnOp}
use Rattle.context_typing.specs.Shapes.{Shape}
use Rattle.context_typing.specs.Typing.{binary_kind, call1_kind, expr_kind, has_kind, is_arithmetic, is_null_literal, is_risky, is_sure, is_typed, null_comparison, path_kind, unary_kind}
use Rattle.apply_meaning.proofs.SureLemmas.{is_operand}

-- a type but that of whole numbers
abbrev not_whole : EdmType → Bool
not_whole k = not (same_kind k EdmType.Int)

-- ---- what is there where the whole is typed

there : {X Y : Type 0} (f : X → Option Y) (o : Option X) → is_some (option_and_then f o) ≡ true → is_some o ≡ true
there f None h = h
there f (Some x) h = refl

there-if : {X : Type 0} (b : Bool) (x : X) → is_some (then_some b x) ≡ true → b ≡ true
there-if true x h = refl
there-if false x h = h

there-and : {X : Type 0} (n : Bool) (t : X → Bool) (o : Option X) → (n || is_some_and t o) ≡ true → (n || is_some o) ≡ true
there-and true t o h = refl
there-and false t None h = h
there-and false t (Some x) h = refl

operands : (n k : Bool) (op : BinOp) (x y : Option EdmType)
    → is_some (if n then null_comparison op k y else (if k then null_comparison op false x else option_and_then (λ a. option_and_then (λ b. binary_kind op a b) y) x)) ≡ true
    → ((n || is_some x) ≡ true) × ((k || is_some y) ≡ true)
operands true k op x y h = (refl, there-and k _ y (and_parts _ _ (there-if _ _ h)).1)
operands false true op x y h = (there-and false _ x (and_parts _ _ (there-if _ _ h)).1, refl)
operands false false op None y h = cc
operands false false op (Some a) None h = cc
operands false false op (Some a) (Some b) h = (refl, refl)

-- ---- whether the type is that of whole numbers

boolean-if : (b : Bool) → is_some (then_some b EdmType.Bool) ≡ true → is_some_and not_whole (then_some b EdmType.Bool) ≡ true
boolean-if true h = refl
boolean-if false h = h

whole-if : (b : Bool) → is_some_and not_whole (then_some b EdmType.Int) ≡ false
whole-if true = refl
whole-if false = refl

compared : (op : BinOp) (a b : EdmType) → not (is_arithmetic op) ≡ true → is_some (binary_kind op a b) ≡ true → is_some_and not_whole (binary_kind op a b) ≡ true
compared BinOp.Or a b n h = boolean-if _ h
compared BinOp.And a b n h = boolean-if _ h
compared BinOp.Eq a b n h = boolean-if _ h
compared BinOp.Ne a b n h = boolean-if _ h
compared BinOp.Gt a b n h = boolean-if _ h
compared BinOp.Ge a b n h = boolean-if _ h
compared BinOp.Lt a b n h = boolean-if _ h
compared BinOp.Le a b n h = boolean-if _ h
compared BinOp.Add a b n h = cc
compared BinOp.Sub a b n h = cc
compared BinOp.Mul a b n h = cc

binary-boolean : (n k : Bool) (op : BinOp) (x y : Option EdmType) → not (is_arithmetic op) ≡ true
    → is_some (if n then null_comparison op k y else (if k then null_comparison op false x else option_and_then (λ a. option_and_then (λ b. binary_kind op a b) y) x)) ≡ true
    → is_some_and not_whole (if n then null_comparison op k y else (if k then null_comparison op false x else option_and_then (λ a. option_and_then (λ b. binary_kind op a b) y) x)) ≡ true
binary-boolean true k op x y a h = boolean-if _ h
binary-boolean false true op x y a h = boolean-if _ h
binary-boolean false false op None y a h = cc
binary-boolean false false op (Some x) None a h = cc
binary-boolean false false op (Some x) (Some y) a h = compared op x y a h

opposite-same : (o : Option EdmType) → is_some (option_and_then (unary_kind UnOp.Neg) o) ≡ true → is_some_and not_whole (option_and_then (unary_kind UnOp.Neg) o) ≡ is_some_and not_whole o
opposite-same None h = refl
opposite-same (Some k) h = go (is_number_kind k) h
  where
    go : (b : Bool) → is_some (then_some b k) ≡ true → is_some_and not_whole (then_some b k) ≡ not_whole k
    go true h = refl
    go false h = cc

negation-boolean : (o : Option EdmType) → is_some (option_and_then (unary_kind UnOp.Not) o) ≡ true → is_some_and not_whole (option_and_then (unary_kind UnOp.Not) o) ≡ true
negation-boolean None h = h
negation-boolean (Some EdmType.Bool) h = refl
negation-boolean (Some EdmType.Int) h = cc
negation-boolean (Some (EdmType.Dec s p)) h = cc
negation-boolean (Some EdmType.Text) h = cc
negation-boolean (Some EdmType.Day) h = cc

call-whole : (f : Fun1) (o : Option EdmType) → is_some_and not_whole (option_and_then (call1_kind f) o) ≡ false
call-whole f None = refl
call-whole Fun1.Length (Some k) = whole-if _
call-whole Fun1.Year (Some k) = whole-if _
call-whole Fun1.Month (Some k) = whole-if _
call-whole Fun1.Day (Some k) = whole-if _

-- two shapes on which paths are of whole numbers together
abbrev pub WholeTogether : Model → Shape → Shape → Type 0
WholeTogether m S T = (p : Path) (k k' : EdmType) → path_kind m S p ≡ Some k → path_kind m T p ≡ Some k' → same_kind k EdmType.Int ≡ same_kind k' EdmType.Int

-- so an expression that is sure on one and typed on both is of whole numbers on both or on none
whole-together : (m : Model) (S T : Shape) → WholeTogether m S T → (e : Expr) → is_sure m S e ≡ true → is_typed m S e ≡ true → is_typed m T e ≡ true → has_kind not_whole m S e ≡ has_kind not_whole m T e
whole-together m S T same Expr.Null s t u = cc
whole-together m S T same (Expr.Bool' b) s t u = refl
whole-together m S T same (Expr.Int n) s t u = refl
whole-together m S T same (Expr.Dec n k) s t u = refl
whole-together m S T same (Expr.Text bs) s t u = refl
whole-together m S T same (Expr.Day y n d) s t u = refl
whole-together m S T same (Expr.Path' p) s t u =
    let k = some_there (path_kind m S p) t in
    let k' = some_there (path_kind m T p) u in
    ap (is_some_and not_whole) k.1 ∙ ap not (same p k.0 k'.0 k.1 k'.1) ∙ sym (ap (is_some_and not_whole) k'.1)
whole-together m S T same (Expr.Unary UnOp.Neg (Expr.Int n)) s t u = refl
whole-together m S T same (Expr.Unary UnOp.Neg e) s t u =
    opposite-same (expr_kind m S e) t
    ∙ whole-together m S T same e (and_parts _ _ s).0 (there (unary_kind UnOp.Neg) (expr_kind m S e) t) (there (unary_kind UnOp.Neg) (expr_kind m T e) u)
    ∙ sym (opposite-same (expr_kind m T e) u)
whole-together m S T same (Expr.Unary UnOp.Not e) s t u = negation-boolean (expr_kind m S e) t ∙ sym (negation-boolean (expr_kind m T e) u)
whole-together m S T same (Expr.Binary op d e) s t u =
    let a = (and_3 (not (is_arithmetic op)) (is_sure m S d) (is_sure m S e) s).0 in
    binary-boolean (is_null_literal d) (is_null_literal e) op (expr_kind m S d) (expr_kind m S e) a t
    ∙ sym (binary-boolean (is_null_literal d) (is_null_literal e) op (expr_kind m T d) (expr_kind m T e) a u)
whole-together m S T same (Expr.Call1 f e) s t u = call-whole f (expr_kind m S e) ∙ sym (call-whole f (expr_kind m T e))
whole-together m S T same (Expr.Call2 f d e) s t u = boolean-if _ t ∙ sym (boolean-if _ u)

-- ---- sure on other shapes

module _ (m : Model) (Zs : List Shape) (T Z : Shape) (M : IsAmong Zs Z) (risk : (p : Path) → list_all (λ Z. not (is_risky Z p)) Zs ≡ true → is_risky T p ≡ false) (same : WholeTogether m Z T) where
  -- an expression that is typed on the shape and on one of the others, and sure on all others
  sure-operand : (e : Expr) → is_operand m Z e ≡ true → is_operand m T e ≡ true → list_all (λ Z. is_sure m Z e) Zs ≡ true → is_sure m T e ≡ true
  sure-operand Expr.Null t u s = refl
  sure-operand (Expr.Bool' b) t u s = refl
  sure-operand (Expr.Int n) t u s = refl
  sure-operand (Expr.Dec n k) t u s = refl
  sure-operand (Expr.Text bs) t u s = refl
  sure-operand (Expr.Day y n d) t u s = refl
  sure-operand (Expr.Path' p) t u s = not_from_false _ (risk p s)
  sure-operand (Expr.Unary UnOp.Not e) t u s =
      sure-operand e (or_right (is_null_literal e) _ (there (unary_kind UnOp.Not) (expr_kind m Z e) t)) (or_right (is_null_literal e) _ (there (unary_kind UnOp.Not) (expr_kind m T e) u)) s
  sure-operand (Expr.Unary UnOp.Neg (Expr.Int n)) t u s = refl
  sure-operand (Expr.Unary UnOp.Neg e) t u s =
      let a = there (unary_kind UnOp.Neg) (expr_kind m Z e) t in
      let b = there (unary_kind UnOp.Neg) (expr_kind m T e) u in
      let one = and_parts (is_sure m Z e) (has_kind not_whole m Z e) (M (λ Z. is_sure m Z e && has_kind not_whole m Z e) s) in
      and_from (is_sure m T e) (has_kind not_whole m T e)
      (sure-operand e (or_right (is_null_literal e) _ a) (or_right (is_null_literal e) _ b) (all-each (λ Z. is_sure m Z e && has_kind not_whole m Z e) (λ Z. is_sure m Z e) Zs s (λ Z h. (and_parts (is_sure m Z e) _ h).0)))
      (sym (whole-together m Z T same e one.0 a b) ∙ one.1)
  sure-operand (Expr.Binary op d e) t u s =
      let one = and_3 (not (is_arithmetic op)) (is_sure m Z d) (is_sure m Z e) (M (λ Z. not (is_arithmetic op) && is_sure m Z d && is_sure m Z e) s) in
      let a = operands (is_null_literal d) (is_null_literal e) op (expr_kind m Z d) (expr_kind m Z e) t in
      let b = operands (is_null_literal d) (is_null_literal e) op (expr_kind m T d) (expr_kind m T e) u in
      and_from (not (is_arithmetic op) && is_sure m T d) (is_sure m T e) (and_from (not (is_arithmetic op)) (is_sure m T d) one.0
      (sure-operand d a.0 b.0 (all-each (λ Z. not (is_arithmetic op) && is_sure m Z d && is_sure m Z e) (λ Z. is_sure m Z d) Zs s (λ Z h. (and_3 (not (is_arithmetic op)) (is_sure m Z d) (is_sure m Z e) h).1))))
      (sure-operand e a.1 b.1 (all-each (λ Z. not (is_arithmetic op) && is_sure m Z d && is_sure m Z e) (λ Z. is_sure m Z e) Zs s (λ Z h. (and_3 (not (is_arithmetic op)) (is_sure m Z d) (is_sure m Z e) h).2)))
  sure-operand (Expr.Call1 f e) t u s =
      sure-operand e (or_right (is_null_literal e) _ (there (call1_kind f) (expr_kind m Z e) t)) (or_right (is_null_literal e) _ (there (call1_kind f) (expr_kind m T e) u)) s
  sure-operand (Expr.Call2 f d e) t u s =
      let a = and_parts _ _ (there-if _ _ t) in
      let b = and_parts _ _ (there-if _ _ u) in
      and_from (is_sure m T d) (is_sure m T e)
      (sure-operand d (or_right (is_null_literal d) _ (there-and false (same_kind EdmType.Text) (expr_kind m Z d) a.0)) (or_right (is_null_literal d) _ (there-and false (same_kind EdmType.Text) (expr_kind m T d) b.0))
      (all-each (λ Z. is_sure m Z d && is_sure m Z e) (λ Z. is_sure m Z d) Zs s (λ Z h. (and_parts (is_sure m Z d) _ h).0)))
      (sure-operand e (or_right (is_null_literal e) _ (there-and false (same_kind EdmType.Text) (expr_kind m Z e) a.1)) (or_right (is_null_literal e) _ (there-and false (same_kind EdmType.Text) (expr_kind m T e) b.1))
      (all-each (λ Z. is_sure m Z d && is_sure m Z e) (λ Z. is_sure m Z e) Zs s (λ Z h. (and_parts (is_sure m Z d) _ h).1)))

  pub sure-onto : (e : Expr) → is_typed m Z e ≡ true → is_typed m T e ≡ true → list_all (λ Z. is_sure m Z e) Zs ≡ true → is_sure m T e ≡ true
  sure-onto e t u s = sure-operand e (or_right (is_null_literal e) _ t) (or_right (is_null_literal e) _ u) s
