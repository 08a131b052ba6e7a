-- A sure expression is never `Beyond` on instances that fit its shape.
use Rattle.std.proofs.Common.{◌≡◌, refl, ◌∙◌, ap, ℕ, zero, suc, ◌≤◌, ◌^◌, Bool, true, false, ◌&&◌, ◌||◌, not, List, Option, Some, None, arith}
use Rattle.std.specs.Prelude.{option_and_then, is_some, ℤ, pos, negsuc, neg_ℤ, nat_abs, int_le, nat_le, nat_eq, if◌then◌else◌}
use Rattle.std.specs.Bool.{then_some}
use Rattle.std.specs.List.{starts_with, ends_with}
use Rattle.std.specs.Ordering.{is_eq, is_ne, is_lt, is_le, is_gt, is_ge}
use Rattle.std.proofs.lemmas.Bool.{and_parts, and_from, not-true, or_right, leb-true, lt-ltb}
use Rattle.edm_values.specs.declared.EdmType.{EdmType}
use Rattle.edm_values.specs.declared.Value.{Value}
use Rattle.edm_values.specs.declared.Day.{Day}
use Rattle.edm_values.specs.Lists.{is_some_and, has_part}
use Rattle.edm_values.specs.Literals.{is_of_kind, same_kind}
use Rattle.edm_values.specs.Names.{Path}
use Rattle.edm_values.specs.Parts.{is_decimal, mantissa_max, scale_max}
use Rattle.edm_values.specs.Values.{is_beyond, is_null, is_value, integer_max, fits_integer, unless_beyond1, unless_beyond, unless_null1, unless_null, tested, negated, negation, on_texts, length_of, part_of_day}
use Rattle.edm_values.proofs.KindLaws.{dec-within, date-within}
use Rattle.edm_values.proofs.OptionFacts.{and_3, some_and}
use Rattle.edm_data.specs.Worlds.{World}
use Rattle.apply_ast.specs.declared.expressions.UnOp.{UnOp}
use Rattle.apply_ast.specs.declared.expressions.BinOp.{BinOp}
use Rattle.apply_ast.specs.declared.expressions.Fun1.{Fun1}
use Rattle.apply_ast.specs.declared.expressions.Fun2.{Fun2}
use Rattle.apply_ast.specs.Trees.{Expr, is_int_literal, is_dec_literal}
use Rattle.edm_model.specs.Models.{Model}
use Rattle.context_typing.specs.Shapes.{Shape}
use Rattle.context_typing.specs.Typing.{expr_kind, unary_kind, binary_kind, call1_kind, null_comparison, is_arithmetic, is_null_literal, path_kind, is_risky, is_typed, is_sure}
use Rattle.apply_meaning.specs.Instances.{Instance, lookup, binary, call1, call2, val}
use Rattle.apply_meaning.specs.MeaningLaws.{SureIsNotBeyond, ValuesFit}
use Rattle.apply_meaning.proofs.FitLemmas.{Fit, fit-parts}
use Rattle.apply_meaning.proofs.WellTyped.{IsWellTyped}
use Rattle.apply_meaning.proofs.LookupLemmas.{lookup-fits, lookup-not_beyond}
use Rattle.apply_meaning.proofs.ExprLemmas.{val-fits}

-- ---- the ranges of literals

-- a decimal literal is in range
literal-decimal : (n : ℤ) (s : ℕ) → is_dec_literal n s ≡ true → is_decimal n s ≡ true
literal-decimal (pos n) s h =
    let t = and_parts _ (nat_le s scale_max) h in
    let u = and_3 (int_le (pos 0) (pos n)) (int_le (pos n) (pos mantissa_max)) (nat_le 1 s) t.0 in
    and_from _ _ u.1 t.1
literal-decimal (negsuc n) s h = cc

-- the opposite of an integer literal is in range
opposite-within : (n : ℤ) → int_le (pos 0) n ≡ true → int_le n (pos integer_max) ≡ true → fits_integer (neg_ℤ n) ≡ true
opposite-within (pos zero) h k = refl
opposite-within (pos (suc n)) h k = let b : suc n ≤ integer_max = leb-true _ _ k in lt-ltb n (2 ^ 63) (omega (arith, b))
opposite-within (negsuc n) h k = cc

opposite-size : (n : ℤ) → nat_abs (neg_ℤ n) ≡ nat_abs n
opposite-size (pos zero) = refl
opposite-size (pos (suc n)) = refl
opposite-size (negsuc n) = refl

-- ---- operators

-- a choice is not Beyond where neither answer is
neither : (b : Bool) (u v : Value) → is_beyond u ≡ false → is_beyond v ≡ false → is_beyond (if b then u else v) ≡ false
neither true u v h k = h
neither false u v h k = k

unless_beyond1-within : (f : Value → Value) (u : Value) → is_beyond u ≡ false → is_beyond (f u) ≡ false → is_beyond (unless_beyond1 f u) ≡ false
unless_beyond1-within f u h k = ap (λ b. is_beyond (if b then Value.Beyond else f u)) h ∙ k

unless_null1-within : (f : Value → Value) (u : Value) → is_beyond u ≡ false → is_beyond (f u) ≡ false → is_beyond (unless_null1 f u) ≡ false
unless_null1-within f u h k = unless_beyond1-within (λ a. if is_null a then Value.Null else f a) u h (neither (is_null u) Value.Null (f u) refl k)

unless_beyond-within : (f : Value → Value → Value) (u v : Value) → is_beyond u ≡ false → is_beyond v ≡ false → is_beyond (f u v) ≡ false → is_beyond (unless_beyond f u v) ≡ false
unless_beyond-within f u v h k e = (λ i. is_beyond (if h i || k i then Value.Beyond else f u v)) ∙ e

unless_null-within : (f : Value → Value → Value) (u v : Value) → is_beyond u ≡ false → is_beyond v ≡ false → is_beyond (f u v) ≡ false → is_beyond (unless_null f u v) ≡ false
unless_null-within f u v h k e = unless_beyond-within (λ a b. if is_null a || is_null b then Value.Null else f a b) u v h k (neither (is_null u || is_null v) Value.Null (f u v) refl e)

logic-within : (op : BinOp) (u v : Value) → not (is_arithmetic op) ≡ true → is_beyond u ≡ false → is_beyond v ≡ false → is_beyond (binary op u v) ≡ false
logic-within BinOp.Or u v n h k =
    let rest = if is_value false u && is_value false v then Value.Bool false else Value.Null in
    unless_beyond-within (λ a b. if is_value true a || is_value true b then Value.Bool true else (if is_value false a && is_value false b then Value.Bool false else Value.Null)) u v h k
    (neither (is_value true u || is_value true v) (Value.Bool true) rest refl (neither (is_value false u && is_value false v) (Value.Bool false) Value.Null refl refl))
logic-within BinOp.And u v n h k =
    let rest = if is_value true u && is_value true v then Value.Bool true else Value.Null in
    unless_beyond-within (λ a b. if is_value false a || is_value false b then Value.Bool false else (if is_value true a && is_value true b then Value.Bool true else Value.Null)) u v h k
    (neither (is_value false u || is_value false v) (Value.Bool false) rest refl (neither (is_value true u && is_value true v) (Value.Bool true) Value.Null refl refl))
logic-within BinOp.Eq u v n h k = unless_beyond-within (λ a b. if is_null a || is_null b then Value.Bool (is_null a && is_null b) else tested is_eq a b) u v h k (neither (is_null u || is_null v) (Value.Bool (is_null u && is_null v)) (tested is_eq u v) refl refl)
logic-within BinOp.Ne u v n h k = unless_beyond-within (λ a b. if is_null a || is_null b then Value.Bool (not (is_null a && is_null b)) else tested is_ne a b) u v h k (neither (is_null u || is_null v) (Value.Bool (not (is_null u && is_null v))) (tested is_ne u v) refl refl)
logic-within BinOp.Gt u v n h k = unless_beyond-within (tested is_gt) u v h k refl
logic-within BinOp.Ge u v n h k = unless_beyond-within (tested is_ge) u v h k refl
logic-within BinOp.Lt u v n h k = unless_beyond-within (tested is_lt) u v h k refl
logic-within BinOp.Le u v n h k = unless_beyond-within (tested is_le) u v h k refl
logic-within BinOp.Add u v n h k = cc
logic-within BinOp.Sub u v n h k = cc
logic-within BinOp.Mul u v n h k = cc

not-within : (u : Value) → is_beyond u ≡ false → is_beyond (negation u) ≡ false
not-within u h =
    let rest = if is_value false u then Value.Bool true else Value.Null in
    unless_beyond1-within (λ a. if is_value true a then Value.Bool false else (if is_value false a then Value.Bool true else Value.Null)) u h
    (neither (is_value true u) (Value.Bool false) rest refl (neither (is_value false u) (Value.Bool true) Value.Null refl refl))

length-within : (u : Value) → is_beyond (length_of u) ≡ false
length-within Value.Null = refl
length-within (Value.Bool b) = refl
length-within (Value.Int z) = refl
length-within (Value.Dec d) = refl
length-within (Value.Text t) = refl
length-within (Value.Day d) = refl
length-within Value.Beyond = refl

part-within : (part : Day → ℕ) (u : Value) → is_beyond (part_of_day part u) ≡ false
part-within part Value.Null = refl
part-within part (Value.Bool b) = refl
part-within part (Value.Int z) = refl
part-within part (Value.Dec d) = refl
part-within part (Value.Text t) = refl
part-within part (Value.Day d) = refl
part-within part Value.Beyond = refl

call1-within : (f : Fun1) (u : Value) → is_beyond u ≡ false → is_beyond (call1 f u) ≡ false
call1-within Fun1.Length u h = unless_null1-within length_of u h (length-within u)
call1-within Fun1.Year u h = unless_null1-within (part_of_day (λ d. d.year)) u h (part-within (λ d. d.year) u)
call1-within Fun1.Month u h = unless_null1-within (part_of_day (λ d. d.month)) u h (part-within (λ d. d.month) u)
call1-within Fun1.Day u h = unless_null1-within (part_of_day (λ d. d.day)) u h (part-within (λ d. d.day) u)

texts-within : (test : List ℕ → List ℕ → Bool) (u v : Value) → is_beyond (on_texts test u v) ≡ false
texts-within test (Value.Text a) (Value.Text b) = refl
texts-within test (Value.Text a) Value.Null = refl
texts-within test (Value.Text a) (Value.Bool b) = refl
texts-within test (Value.Text a) (Value.Int z) = refl
texts-within test (Value.Text a) (Value.Dec d) = refl
texts-within test (Value.Text a) (Value.Day d) = refl
texts-within test (Value.Text a) Value.Beyond = refl
texts-within test Value.Null v = refl
texts-within test (Value.Bool b) v = refl
texts-within test (Value.Int z) v = refl
texts-within test (Value.Dec d) v = refl
texts-within test (Value.Day d) v = refl
texts-within test Value.Beyond v = refl

call2-within : (f : Fun2) (u v : Value) → is_beyond u ≡ false → is_beyond v ≡ false → is_beyond (call2 f u v) ≡ false
call2-within Fun2.StartsWith u v h k = unless_null-within (on_texts (starts_with nat_eq)) u v h k (texts-within (starts_with nat_eq) u v)
call2-within Fun2.EndsWith u v h k = unless_null-within (on_texts (ends_with nat_eq)) u v h k (texts-within (ends_with nat_eq) u v)
call2-within Fun2.Contains u v h k = unless_null-within (on_texts has_part) u v h k (texts-within has_part u v)

-- the opposite of what is no integer is in range where that is
neg-within : (k : EdmType) (u : Value) → not (same_kind k EdmType.Int) ≡ true → is_of_kind k u ≡ true → is_beyond u ≡ false → is_beyond (negated u) ≡ false
neg-within k Value.Null n t b = refl
neg-within k (Value.Bool x) n t b = refl
neg-within EdmType.Int (Value.Int x) n t b = cc
neg-within EdmType.Bool (Value.Int x) n t b = cc
neg-within (EdmType.Dec s p) (Value.Int x) n t b = cc
neg-within EdmType.Text (Value.Int x) n t b = cc
neg-within EdmType.Day (Value.Int x) n t b = cc
neg-within k (Value.Dec d) n t b =
    let r = and_parts (nat_le (nat_abs d.mantissa) mantissa_max) (nat_le d.scale scale_max) d.in_range in
    dec-within (neg_ℤ d.mantissa) d.scale (and_from _ _ (ap (λ k. nat_le k mantissa_max) (opposite-size d.mantissa) ∙ r.0) r.1)
neg-within k (Value.Text bs) n t b = refl
neg-within k (Value.Day d) n t b = refl
neg-within k Value.Beyond n t b = cc

neg-literal : (n : ℤ) → is_int_literal n ≡ true → is_beyond (negated (Value.Int n)) ≡ false
neg-literal n h =
    let p = and_parts _ _ h in
    ap (λ b. is_beyond (if b then Value.Int (neg_ℤ n) else Value.Beyond)) (opposite-within n p.0 p.1)

-- ---- expressions

-- operands are null or typed where the operation is typed
abbrev pub is_operand : Model → Shape → Expr → Bool
is_operand m S e = is_null_literal e || is_typed m S e

one_operand : {X : Type 0} (n : Bool) (f : EdmType → Option X) (o : Option EdmType) → is_some (option_and_then f o) ≡ true → (n || is_some o) ≡ true
one_operand n f None h = cc
one_operand n f (Some x) h = or_right n true refl

holds-some : {X : Type 0} (b : Bool) (x : X) → is_some (then_some b x) ≡ true → b ≡ true
holds-some true x h = refl
holds-some false x h = cc

tested-some : {X : Type 0} (n : Bool) (t : X → Bool) (o : Option X) → (n || is_some_and t o) ≡ true → (n || is_some o) ≡ true
tested-some true t o h = refl
tested-some false t None h = h
tested-some false t (Some x) h = refl

two_operands : (n m : Bool) (op : BinOp) (x y : Option EdmType)
    → is_some (if n then null_comparison op m y else (if m then null_comparison op false x else option_and_then (λ a. option_and_then (λ b. binary_kind op a b) y) x)) ≡ true
    → ((n || is_some x) ≡ true) × ((m || is_some y) ≡ true)
two_operands true m op x y h = (refl, tested-some m _ y (and_parts _ _ (holds-some _ _ h)).1)
two_operands false true op x y h = (tested-some false _ x (and_parts _ _ (holds-some _ _ h)).1, refl)
two_operands false false op None y h = cc
two_operands false false op (Some a) None h = cc
two_operands false false op (Some a) (Some b) h = (refl, refl)

int-literal : (b : Bool) → is_some (option_and_then (unary_kind UnOp.Neg) (then_some b EdmType.Int)) ≡ true → b ≡ true
int-literal true h = refl
int-literal false h = cc

module _ (w : World) (S : Shape) (i : Instance) (look : (p : Path) (k : EdmType) → path_kind w.model S p ≡ Some k → is_of_kind k (lookup w i p) ≡ true)
    (within : (p : Path) → is_some (path_kind w.model S p) ≡ true → is_risky S p ≡ false → is_beyond (lookup w i p) ≡ false) where
  -- a sure expression is not Beyond, where paths have their types and are Beyond only in risky columns
  pub sure-within_paths : (e : Expr) → is_operand w.model S e ≡ true → is_sure w.model S e ≡ true → is_beyond (val w i e) ≡ false
  sure-within_paths Expr.Null t s = refl
  sure-within_paths (Expr.Bool' b) t s = refl
  sure-within_paths (Expr.Int n) t s = refl
  sure-within_paths (Expr.Dec n k) t s = dec-within n k (literal-decimal n k (holds-some _ _ t))
  sure-within_paths (Expr.Text bs) t s = refl
  sure-within_paths (Expr.Day y m d) t s = date-within y m d (holds-some _ _ t)
  sure-within_paths (Expr.Path' p) t s = within p t (not-true _ s)
  sure-within_paths (Expr.Unary UnOp.Not a) t s = not-within (val w i a) (sure-within_paths a (one_operand (is_null_literal a) (unary_kind UnOp.Not) (expr_kind w.model S a) t) s)
  sure-within_paths (Expr.Unary UnOp.Neg (Expr.Int n)) t s = neg-literal n (int-literal (is_int_literal n) t)
  sure-within_paths (Expr.Unary UnOp.Neg a) t s =
      let p = and_parts _ _ s in
      let k = some_and (λ k. not (same_kind k EdmType.Int)) (expr_kind w.model S a) p.1 in
      neg-within k.0 (val w i a) k.2 (val-fits w S i look a k.0 k.1) (sure-within_paths a (or_right (is_null_literal a) _ (ap is_some k.1)) p.0)
  sure-within_paths (Expr.Binary op a b) t s =
      let p = and_3 (not (is_arithmetic op)) (is_sure w.model S a) (is_sure w.model S b) s in
      let o = two_operands (is_null_literal a) (is_null_literal b) op (expr_kind w.model S a) (expr_kind w.model S b) t in
      logic-within op (val w i a) (val w i b) p.0 (sure-within_paths a o.0 p.1) (sure-within_paths b o.1 p.2)
  sure-within_paths (Expr.Call1 f a) t s = call1-within f (val w i a) (sure-within_paths a (one_operand (is_null_literal a) (call1_kind f) (expr_kind w.model S a) t) s)
  sure-within_paths (Expr.Call2 f a b) t s =
      let p = and_parts _ _ s in
      let o = and_parts _ _ (holds-some _ _ t) in
      call2-within f (val w i a) (val w i b)
      (sure-within_paths a (or_right (is_null_literal a) _ (tested-some false (same_kind EdmType.Text) (expr_kind w.model S a) o.0)) p.0)
      (sure-within_paths b (or_right (is_null_literal b) _ (tested-some false (same_kind EdmType.Text) (expr_kind w.model S b) o.1)) p.1)

pub sure-within : (w : World) → IsWellTyped w → (S : Shape) (i : Instance) → Fit w S i → (e : Expr) → is_operand w.model S e ≡ true → is_sure w.model S e ≡ true → is_beyond (val w i e) ≡ false
sure-within w P S i F = sure-within_paths w S i (λ p k h. lookup-fits w P S i p k F h) (λ p t h. lookup-not_beyond w P S i p F h)

pub sure_is_not_beyond : (A : World → Type 0) → ((w : World) → A w → IsWellTyped w) → SureIsNotBeyond A
sure_is_not_beyond A P w S e i a t s f = sure-within w (P w a) S i (fit-parts w S i f) e (or_right (is_null_literal e) (is_typed w.model S e) t) s

pub values_fit : (A : World → Type 0) → ((w : World) → A w → IsWellTyped w) → ValuesFit A
values_fit A P w S e k i a t f = val-fits w S i (λ p k h. lookup-fits w (P w a) S i p k (fit-parts w S i f) h) e k t
