-- Reading expressions from left to right: what a text begins with and what is left of it, or nothing. The laws in proofs/ say that
-- this reads exactly the texts of the grammar.
use Rattle.std.specs.Prelude.{ℕ, zero, suc, ◌==◌, ◌&&◌, ◌||◌, nat_le, ℤ, pos, Bool, true, false, List, [], ◌∷◌, length, codes, Option, Some, None, if◌then◌else◌}
use Rattle.std.specs.Str.{is_utf8}
use Rattle.std.specs.Str.Parse.{digits_value_after}
use Rattle.std.specs.Char.{is_ascii_digit}
use Rattle.edm_values.specs.Lists.{same_text}
use Rattle.edm_values.specs.Names.{Name, Path, goes_on_name, is_name}
use Rattle.edm_values.specs.Values.{integer_max}
use Rattle.edm_values.specs.Parts.{mantissa_max, scale_max, is_day}
use Rattle.apply_ast.specs.Trees.{Expr}
use Rattle.apply_ast.specs.Grammar.{is_blank}
use Rattle.apply_ast.specs.Printing.{binop_word, binop_level, fun1_word, fun2_word}
use Rattle.apply_ast.specs.declared.expressions.UnOp.{UnOp}
use Rattle.apply_ast.specs.declared.expressions.BinOp.{BinOp}
use Rattle.apply_ast.specs.declared.expressions.Fun1.{Fun1}
use Rattle.apply_ast.specs.declared.expressions.Fun2.{Fun2}
use Rattle.apply_grammar.specs.Limits.{Bounds}

infixl 10 ◌>>=◌
-- what the function makes of the option's value, if there is one
abbrev pub ◌>>=◌ : {A B : Type 0} → Option A → (A → Option B) → Option B
None >>= f = None
(Some x) >>= f = f x

-- one way with a value, another without
abbrev pub branch : {A B : Type 0} → Option A → (A → B) → B → B
branch None f b = b
branch (Some x) f b = f x

-- a value, and what is left of the text
abbrev pub Leaf : Type 0 → Type 0
Leaf X = Option (X × List ℕ)

-- an expression, the operators and calls that may still come, and what is left of the text
abbrev pub Read : Type 0
Read = Option (Expr × ℕ × List ℕ)

-- a reader of expressions
abbrev pub Reader : Type 0
Reader = ℕ → List ℕ → Read

-- ---- bytes

-- the bytes in front that pass, and the others
unfoldable pub run : (ℕ → Bool) → List ℕ → List ℕ × List ℕ
run p [] = ([], [])
run p (b ∷ t) = if p b then (b ∷ (run p t).0, (run p t).1) else ([], b ∷ t)

-- without the blanks in front
abbrev pub skip_blanks : List ℕ → List ℕ
skip_blanks t = (run is_blank t).1

-- behind at least one blank, and all that follow
unfoldable pub blanks_at : List ℕ → Option (List ℕ)
blanks_at [] = None
blanks_at (b ∷ t) = if is_blank b then Some (skip_blanks t) else None

-- behind this byte
unfoldable pub after : ℕ → List ℕ → Option (List ℕ)
after a [] = None
after a (b ∷ t) = if b == a then Some t else None

-- behind an opening parenthesis and its blanks
unfoldable pub open_at : List ℕ → Option (List ℕ)
open_at t = do
  r ← after 40 t
  Some (skip_blanks r)

-- behind a closing parenthesis, with blanks before it
unfoldable pub close_at : List ℕ → Option (List ℕ)
close_at t = after 41 (skip_blanks t)

-- behind a comma, with blanks round it
unfoldable pub comma_at : List ℕ → Option (List ℕ)
comma_at t = do
  r ← after 44 (skip_blanks t)
  Some (skip_blanks r)

-- behind this word of letters and digits
unfoldable pub word_behind : List ℕ → List ℕ → Option (List ℕ)
word_behind w t = if same_text (run goes_on_name t).0 w then Some (run goes_on_name t).1 else None

-- behind blanks, this word, and blanks
unfoldable pub between_blanks : List ℕ → List ℕ → Option (List ℕ)
between_blanks w t = blanks_at t >>= λ s. word_behind w s >>= λ r. blanks_at r

-- ---- words

-- the first whose word it is
abbrev pub with_word : {A : Type 0} → (A → List ℕ) → List A → List ℕ → Option A
with_word f [] w = None
with_word f (x ∷ xs) w = if same_text w (f x) then Some x else with_word f xs w

-- the operator of this word
unfoldable pub binop_of : List ℕ → Option BinOp
binop_of w = with_word binop_word (BinOp.Or ∷ BinOp.And ∷ BinOp.Eq ∷ BinOp.Ne ∷ BinOp.Gt ∷ BinOp.Ge ∷ BinOp.Lt ∷ BinOp.Le ∷ BinOp.Add ∷ BinOp.Sub ∷ BinOp.Mul ∷ []) w

-- the operator between blanks that comes next, of this level or a tighter one
unfoldable pub op_at : ℕ → List ℕ → Leaf BinOp
op_at m t = do
  w ← blanks_at t
  o ← binop_of (run goes_on_name w).0
  r ← blanks_at (run goes_on_name w).1
  if nat_le m (binop_level o) then Some (o, r) else None

-- `not` with a blank behind it
unfoldable pub not_at : List ℕ → Leaf UnOp
not_at t = if same_text (run goes_on_name t).0 (codes "not") then (blanks_at (run goes_on_name t).1 >>= λ r. Some (UnOp.Not, r)) else None

-- a minus and blanks, or `not`
unfoldable pub sign_at : List ℕ → Leaf UnOp
sign_at t = branch (after 45 t) (λ r. Some (UnOp.Neg, skip_blanks r)) (not_at t)

-- the function of one argument of this word
unfoldable pub fun1_of : List ℕ → Option Fun1
fun1_of w = with_word fun1_word (Fun1.Length ∷ Fun1.Year ∷ Fun1.Month ∷ Fun1.Day ∷ []) w

-- the function of two arguments of this word
unfoldable pub fun2_of : List ℕ → Option Fun2
fun2_of w = with_word fun2_word (Fun2.StartsWith ∷ Fun2.EndsWith ∷ Fun2.Contains ∷ []) w

-- ---- names and lists

-- a name
unfoldable pub name_at : List ℕ → Leaf Name
name_at t = if is_name (run goes_on_name t).0 then Some ((run goes_on_name t).0, (run goes_on_name t).1) else None

-- the parts behind a separator each; f is at least the length of the text
unfoldable pub items_at : {X : Type 0} → (List ℕ → Option (List ℕ)) → (List ℕ → Leaf X) → ℕ → List ℕ → Leaf (List X)
items_at sep item zero t = Some ([], t)
items_at sep item (suc f) t =
    branch (sep t) (λ r. item r >>= λ x. items_at sep item f x.1 >>= λ y. Some (x.0 ∷ y.0, y.1)) (Some ([], t))

-- parts with a separator between each two
unfoldable pub list_at : {X : Type 0} → (List ℕ → Option (List ℕ)) → (List ℕ → Leaf X) → List ℕ → Leaf (List X)
list_at sep item t = item t >>= λ x. items_at sep item (length x.1) x.1 >>= λ y. Some (x.0 ∷ y.0, y.1)

-- names with a slash between each two
abbrev pub path_at : List ℕ → Leaf Path
path_at = list_at (after 47) name_at

-- ---- literals

-- the number of the digits behind those of another, if it is at most so much
unfoldable pub value_behind : ℕ → ℕ → List ℕ → Option ℕ
value_behind most n ds = if nat_le (digits_value_after 10 n ds) most then Some (digits_value_after 10 n ds) else None

-- digits, at least one
unfoldable pub digits_at : List ℕ → Leaf (List ℕ)
digits_at t = if nat_le 1 (length (run is_ascii_digit t).0) then Some ((run is_ascii_digit t).0, (run is_ascii_digit t).1) else None

-- a number in digits, at most so much
unfoldable pub count_at : ℕ → List ℕ → Leaf ℕ
count_at most t = do
  ds ← digits_at t
  n ← value_behind most 0 ds.0
  Some (n, ds.1)

-- the mantissa and the scale of a decimal: the digits before its point, and those at the front
unfoldable pub decimal_at : List ℕ → List ℕ → Leaf (ℤ × ℕ)
decimal_at whole t = do
  fs ← digits_at t
  w ← value_behind mantissa_max 0 whole
  m ← value_behind mantissa_max w fs.0
  if nat_le (length fs.0) scale_max then Some ((pos m, length fs.0), fs.1) else None

-- a month or a day of the month, of two digits
unfoldable pub two_digits_at : List ℕ → Leaf ℕ
two_digits_at t = do
  ds ← digits_at t
  n ← value_behind 99 0 ds.0
  if length ds.0 == 2 then Some (n, ds.1) else None

-- the month and the day behind the digits of a year and a hyphen, and the date
unfoldable pub date_at : List ℕ → List ℕ → Leaf Expr
date_at year t = do
  y ← value_behind 9999 0 year
  m ← two_digits_at t
  r ← after 45 m.1
  d ← two_digits_at r
  if length year == 4 && is_day y m.0 d.0 then Some (Expr.Day y m.0 d.0, d.1) else None

-- what the digits are: the whole part of a decimal, a year, or an integer
unfoldable pub number_behind : List ℕ → List ℕ → Leaf Expr
number_behind ds t =
    branch (after 46 t) (λ r. decimal_at ds r >>= λ x. Some (Expr.Dec x.0.0 x.0.1, x.1))
    (branch (after 45 t) (date_at ds)
    (value_behind integer_max 0 ds >>= λ n. Some (Expr.Int (pos n), t)))

-- the bytes up to the closing quote
unfoldable pub quote_at : List ℕ → Leaf (List ℕ)
quote_at [] = None
quote_at (b ∷ []) = if b == 39 then Some ([], []) else None
quote_at (b ∷ (c ∷ t)) =
    if b == 39 then (if c == 39 then (quote_at t >>= λ x. Some (39 ∷ x.0, x.1)) else Some ([], c ∷ t))
    else (quote_at (c ∷ t) >>= λ x. Some (b ∷ x.0, x.1))

-- the bytes of a string literal are characters, where they must be
abbrev pub is_literal : Bounds → List ℕ → Bool
is_literal limits s = limits.any_bytes || is_utf8 s

-- the text up to the closing quote
unfoldable pub text_at : Bounds → List ℕ → Leaf Expr
text_at limits t = quote_at t >>= λ x. if is_literal limits x.0 then Some (Expr.Text x.0, x.1) else None

-- a word that stands for a value, or a path
unfoldable pub word_at : List ℕ → Leaf Expr
word_at t =
    if same_text (run goes_on_name t).0 (codes "null") then Some (Expr.Null, (run goes_on_name t).1) else
    if same_text (run goes_on_name t).0 (codes "true") then Some (Expr.Bool' true, (run goes_on_name t).1) else
    if same_text (run goes_on_name t).0 (codes "false") then Some (Expr.Bool' false, (run goes_on_name t).1) else
    (path_at t >>= λ p. Some (Expr.Path' p.0, p.1))

-- a literal or a path
unfoldable pub atom_at : Bounds → List ℕ → Leaf Expr
atom_at limits t =
    branch (after 39 t) (text_at limits)
    (branch (digits_at t) (λ ds. number_behind ds.0 ds.1) (word_at t))

-- ---- expressions

-- one operator or call less, if there is one
abbrev pub spend : {X : Type 0} → ℕ → (ℕ → Option X) → Option X
spend zero f = None
spend (suc n) f = f n

-- the expression behind an opening parenthesis and its blanks, and the closing one
unfoldable pub paren_at : Reader → Reader
paren_at inner n t = do
  x ← inner n t
  r ← close_at x.2
  Some (x.0, x.1, r)

-- the argument of a call behind its opening parenthesis
unfoldable pub call1_at : Reader → Fun1 → Reader
call1_at inner f n t = do
  x ← paren_at inner n t
  Some (Expr.Call1 f x.0, x.1, x.2)

-- the two arguments of a call behind its opening parenthesis
unfoldable pub call2_at : Reader → Fun2 → Reader
call2_at inner f n t = do
  x ← inner n t
  r ← comma_at x.2
  y ← paren_at inner x.1 r
  Some (Expr.Call2 f x.0 y.0, y.1, y.2)

-- a call of the function of this word
unfoldable pub call_at : Reader → List ℕ → Reader
call_at inner w n t = branch (fun1_of w) (λ f. call1_at inner f n t) (fun2_of w >>= λ f. call2_at inner f n t)

-- an expression in parentheses, a call, a literal or a path
unfoldable pub primary : Bounds → Reader → Reader
primary limits inner n t =
    branch (open_at t) (paren_at inner n)
    (branch (open_at (run goes_on_name t).1) (λ r. spend n (λ m. call_at inner (run goes_on_name t).0 m r))
    (atom_at limits t >>= λ x. Some (x.0, n, x.1)))

-- signs, and what they stand before
unfoldable pub signed : Reader → Reader
signed prim zero t = branch (sign_at t) (λ s. None) (prim zero t)
signed prim (suc n) t = branch (sign_at t) (λ s. signed prim n s.1 >>= λ x. Some (Expr.Unary s.0 x.0, x.1, x.2)) (prim (suc n) t)

-- the operators of level m or a tighter one that follow what was read, and their operands; f is at least n
unfoldable pub chain : Reader → ℕ → ℕ → Expr → ℕ → List ℕ → Read
chain prim zero m left n t = branch (op_at m t) (λ o. None) (Some (left, n, t))
chain prim (suc f) m left n t =
    branch (op_at m t) (λ o. spend n (λ k.
    signed prim k o.1 >>= λ x.
    chain prim f (suc (binop_level o.0)) x.0 x.1 x.2 >>= λ y.
    chain prim f m (Expr.Binary o.0 left y.0) y.1 y.2))
    (Some (left, n, t))

-- the same without its bound
abbrev pub goes : Reader → ℕ → Expr → ℕ → List ℕ → Read
goes prim m left n t = chain prim n m left n t

-- an expression of level m or a tighter one
unfoldable pub climb : Reader → ℕ → Reader
climb prim m n t = do
  x ← signed prim n t
  goes prim m x.0 x.1 x.2

-- an expression behind an opening parenthesis, where d may be open
unfoldable pub parens : Bounds → ℕ → Reader
parens limits zero n t = None
parens limits (suc d) n t = climb (primary limits (parens limits d)) 1 n t

-- an expression at the front
abbrev pub expr_at : Bounds → ℕ → ℕ → Reader
expr_at limits d m = climb (primary limits (parens limits d)) m

-- the value, where nothing is left
abbrev pub at_end : {A : Type 0} → List ℕ → A → Option A
at_end [] x = Some x
at_end (b ∷ t) x = None

-- the expression that is all of the text
unfoldable pub whole_expr : Bounds → ℕ → ℕ → List ℕ → Option Expr
whole_expr limits d n t = expr_at limits d 1 n t >>= λ x. at_end x.2 x.0

-- the path that is all of the text
unfoldable pub whole_path : List ℕ → Option Path
whole_path t = path_at t >>= λ x. at_end x.1 x.0
