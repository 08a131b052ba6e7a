-- An expression that was read stands in front of the text.
use Rattle.std.proofs.Common.{◌≡◌, ℕ, zero, suc, ◌+◌, ◌≤◌, true, false, List, Option, Some, None, refl, sym, ap, subst, ◌∙◌, arith}
use Rattle.std.proofs.lemmas.Bool.{leb-true}
use Rattle.apply_ast.specs.declared.expressions.BinOp.{BinOp}
use Rattle.edm_values.specs.Names.{goes_on_name}
use Rattle.apply_ast.specs.Trees.{Expr}
use Rattle.apply_ast.specs.Printing.{binop_level, fun1_word, fun2_word, level}
use Rattle.apply_ast.specs.Grammar.{Language, word, ◌·◌, close, comma, nothing}
use Rattle.apply_grammar.specs.Limits.{operations, Bounds}
use Rattle.apply_grammar.specs.Reading.{Reader, run, open_at, close_at, comma_at, op_at, sign_at, fun1_of, fun2_of, atom_at, spend, paren_at, call1_at, call2_at, call_at, primary, signed, chain, climb, parens}
use Rattle.apply_grammar.proofs.Nested.{inside, wrapped, Operand, bare, At}
use Rattle.apply_grammar.proofs.Runs.{bind_then, branch_then, Front, then_front, map_front, run_is}
use Rattle.apply_grammar.proofs.Leaves.{FoundOp, op_is, not_above, Opened, open_is, close_is, comma_is, sign_is, fun1_is, fun2_is, NumberText, WordText, IsAtomText, of_text, of_number, of_word, atom_is}
use Rattle.edm_values.proofs.OptionFacts.{some_value}

pub spend_then : {X P : Type 0} (n : ℕ) (f : ℕ → Option X) {y : X} → spend n f ≡ Some y → ((m : ℕ) → n ≡ suc m → f m ≡ Some y → P) → P
spend_then zero f e k = absurd cc
spend_then (suc n) f e k = k n refl e

-- an expression in front of the text, and the operators that it took
pub record Got (limits : Bounds) (m d n : ℕ) (t : List ℕ) (x : Expr × ℕ × List ℕ) : Type 0 where
  pub front : Front (At limits m x.0 d) t x.2
  pub count : n ≡ operations x.0 + x.1

looser : (limits : Bounds) (m k : ℕ) (e : Expr) (d : ℕ) → k ≤ m → (a : List ℕ) → At limits m e d a → At limits k e d a
looser limits m k e d le a h = record { pairs = h.pairs; of = h.of; binds = λ z. let p : m ≤ level e = h.binds z in omega arith }

pub front_looser : (limits : Bounds) (m k : ℕ) (e : Expr) (d : ℕ) {t r : List ℕ} → k ≤ m → Front (At limits m e d) t r → Front (At limits k e d) t r
front_looser limits m k e d le f = map_front (looser limits m k e d le) f

bare_front : (limits : Bounds) (m : ℕ) (e : Expr) (d : ℕ) {t r : List ℕ} → m ≤ level e → Front (bare limits e d) t r → Front (At limits m e d) t r
bare_front limits m e d le f = map_front (λ a h. record { pairs = 0; of = h; binds = λ z. le }) f

-- where one more parenthesis may be open
abbrev pub Below : Bounds → ℕ → Expr → Language
Below limits zero e = nothing
Below limits (suc d) e = At limits 1 e d

abbrev pub InnerIs : Bounds → ℕ → Reader → Type 0
InnerIs limits d inner = (n : ℕ) (t : List ℕ) (x : Expr × ℕ × List ℕ) → inner n t ≡ Some x → Front (Below limits d x.0) t x.2 × (n ≡ operations x.0 + x.1)

abbrev pub PrimIs : Bounds → ℕ → Reader → Type 0
PrimIs limits d prim = (n : ℕ) (t : List ℕ) (x : Expr × ℕ × List ℕ) → prim n t ≡ Some x → Got limits 8 d n t x

-- ---- what stands in parentheses

paren_text : (limits : Bounds) (d : ℕ) (e : Expr) {t r s u : List ℕ} → Opened t r → Front (Below limits d e) r s → Front close s u → Front (At limits 8 e d) t u
paren_text limits zero e o f c = absurd f.of
paren_text limits (suc d) e {t} {r} {s} {u} o f c =
    let g : Front (wrapped f.of.pairs (bare limits e) d) r s = record { front = f.front; of = f.of.of; cut = f.cut } in
    map_front (λ a h. record { pairs = suc f.of.pairs; of = h; binds = λ z. absurd cc }) (then_front (then_front o.sign o.blanks) (then_front g c))

call1_text : (limits : Bounds) (d : ℕ) (e : Expr) {t r s u : List ℕ} → Opened t r → Front (Below limits d e) r s → Front close s u → Front (inside d (Operand 1 (level e) (bare limits e))) t u
call1_text limits zero e o f c = absurd f.of
call1_text limits (suc d) e o f c = then_front (then_front o.sign o.blanks) (then_front f c)

-- two operands with a comma between, and the closing parenthesis
call2_text : (limits : Bounds) (d : ℕ) (a b : Expr) {t r s v w u : List ℕ} → Opened t r → Front (Below limits d a) r s → Front comma s v → Front (Below limits d b) v w → Front close w u → Front (inside d (λ e. Operand 1 (level a) (bare limits a) e · comma · Operand 1 (level b) (bare limits b) e)) t u
call2_text limits zero a b o f m g c = absurd f.of
call2_text limits (suc d) a b o f m g c = then_front (then_front o.sign o.blanks) (then_front (then_front f (then_front m g)) c)

-- ---- primary expressions

number_bare : (limits : Bounds) (e : Expr) (d : ℕ) (a : List ℕ) → NumberText e a → bare limits e d a × (level e ≡ 8) × (operations e ≡ 0)
unfolding bare
number_bare limits (Expr.Int n) d a h = (h, refl, refl)
number_bare limits (Expr.Dec m s) d a h = (h, refl, refl)
number_bare limits (Expr.Day y m x) d a h = (h, refl, refl)
number_bare limits Expr.Null d a h = absurd h
number_bare limits (Expr.Bool' b) d a h = absurd h
number_bare limits (Expr.Text s) d a h = absurd h
number_bare limits (Expr.Path' p) d a h = absurd h
number_bare limits (Expr.Unary o x) d a h = absurd h
number_bare limits (Expr.Binary o x y) d a h = absurd h
number_bare limits (Expr.Call1 f x) d a h = absurd h
number_bare limits (Expr.Call2 f x y) d a h = absurd h

word_bare : (limits : Bounds) (e : Expr) (d : ℕ) (a : List ℕ) → WordText e a → bare limits e d a × (level e ≡ 8) × (operations e ≡ 0)
unfolding bare
word_bare limits Expr.Null d a h = (h, refl, refl)
word_bare limits (Expr.Bool' true) d a h = (h, refl, refl)
word_bare limits (Expr.Bool' false) d a h = (h, refl, refl)
word_bare limits (Expr.Path' p) d a h = (h, refl, refl)
word_bare limits (Expr.Int n) d a h = absurd h
word_bare limits (Expr.Dec m s) d a h = absurd h
word_bare limits (Expr.Day y m x) d a h = absurd h
word_bare limits (Expr.Text s) d a h = absurd h
word_bare limits (Expr.Unary o x) d a h = absurd h
word_bare limits (Expr.Binary o x y) d a h = absurd h
word_bare limits (Expr.Call1 f x) d a h = absurd h
word_bare limits (Expr.Call2 f x y) d a h = absurd h

atom_bare : (limits : Bounds) (e : Expr) (d : ℕ) (a : List ℕ) → IsAtomText limits e a → bare limits e d a × (level e ≡ 8) × (operations e ≡ 0)
unfolding bare
atom_bare limits e d a (of_text s u h) = ((u, h), refl, refl)
atom_bare limits e d a (of_number h) = number_bare limits e d a h
atom_bare limits e d a (of_word h) = word_bare limits e d a h

paren_is : (limits : Bounds) (d : ℕ) (inner : Reader) → InnerIs limits d inner → (n : ℕ) (t r : List ℕ) {x : Expr × ℕ × List ℕ} → Opened t r → paren_at inner n r ≡ Some x → Got limits 8 d n t x
unfolding paren_at
paren_is limits d inner i n t r o h =
    bind_then (inner n r) _ h (λ y e h. bind_then (close_at y.2) _ h (λ s f k.
    subst (λ x. Got limits 8 d n t x) (some_value k)
    (record { front = paren_text limits d y.0 o (i n r y e).0 (close_is y.2 f); count = (i n r y e).1 })))

call1_is : (limits : Bounds) (d : ℕ) (inner : Reader) → InnerIs limits d inner → (f : _) (n : ℕ) (t s r : List ℕ) {x : Expr × ℕ × List ℕ} → Front (word (fun1_word f)) t s → Opened s r → call1_at inner f n r ≡ Some x → Got limits 8 d (suc n) t x
unfolding call1_at paren_at bare
call1_is limits d inner i f n t s r w o h =
    bind_then (paren_at inner n r) _ h (λ z e h.
    bind_then (inner n r) _ e (λ y g e. bind_then (close_at y.2) _ e (λ u l e.
    subst (λ x. Got limits 8 d (suc n) t x) (ap (λ (v : Expr × ℕ × List ℕ). (Expr.Call1 f v.0, v.1, v.2)) (some_value e) ∙ some_value h)
    (record { front = bare_front limits 8 (Expr.Call1 f y.0) d (omega arith) (then_front w (call1_text limits d y.0 o (i n r y g).0 (close_is y.2 l))); count = omega (arith, (i n r y g).1) }))))

call2_is : (limits : Bounds) (d : ℕ) (inner : Reader) → InnerIs limits d inner → (f : _) (n : ℕ) (t s r : List ℕ) {x : Expr × ℕ × List ℕ} → Front (word (fun2_word f)) t s → Opened s r → call2_at inner f n r ≡ Some x → Got limits 8 d (suc n) t x
unfolding call2_at paren_at bare
call2_is limits d inner i f n t s r w o h =
    bind_then (inner n r) _ h (λ y g h. bind_then (comma_at y.2) _ h (λ v m h.
    bind_then (paren_at inner y.1 v) _ h (λ z e h.
    bind_then (inner y.1 v) _ e (λ b j e. bind_then (close_at b.2) _ e (λ u l e.
    subst (λ x. Got limits 8 d (suc n) t x) (ap (λ (q : Expr × ℕ × List ℕ). (Expr.Call2 f y.0 q.0, q.1, q.2)) (some_value e) ∙ some_value h)
    (record {
      front = bare_front limits 8 (Expr.Call2 f y.0 b.0) d (omega arith) (then_front w (call2_text limits d y.0 b.0 o (i n r y g).0 (comma_is y.2 m).0 (i y.1 v b j).0 (close_is b.2 l)));
      count = omega (arith, (i n r y g).1, (i y.1 v b j).1);
    }))))))

pub primary_is : (limits : Bounds) (d : ℕ) (inner : Reader) → InnerIs limits d inner → PrimIs limits d (primary limits inner)
unfolding primary call_at
primary_is limits d inner i n t x h =
    branch_then (open_at t) _ _ h
    (λ r e h. paren_is limits d inner i n t r (open_is t e) h)
    (λ e h. branch_then (open_at (run goes_on_name t).1) _ _ h
    (λ r f h. spend_then n _ h (λ m z h.
    subst (λ k. Got limits 8 d k t x) (sym z)
    (branch_then (fun1_of (run goes_on_name t).0) _ _ h
    (λ g k h. call1_is limits d inner i g m t (run goes_on_name t).1 r (record { front = (run goes_on_name t).0; of = fun1_is _ k; cut = (run_is goes_on_name t).cut }) (open_is (run goes_on_name t).1 f) h)
    (λ k h. bind_then (fun2_of (run goes_on_name t).0) _ h (λ g k h.
    call2_is limits d inner i g m t (run goes_on_name t).1 r (record { front = (run goes_on_name t).0; of = fun2_is _ k; cut = (run_is goes_on_name t).cut }) (open_is (run goes_on_name t).1 f) h)))))
    (λ f h. bind_then (atom_at limits t) _ h (λ y g k.
    let a = atom_is limits t g in
    let b = atom_bare limits y.0 d a.front a.of in
    subst (λ x. Got limits 8 d n t x) (some_value k)
    (record { front = bare_front limits 8 y.0 d (omega (arith, b.1)) (map_front (λ a h. (atom_bare limits y.0 d a h).0) a); count = omega (arith, b.2) }))))

-- ---- signs

pub signed_is : (limits : Bounds) (d : ℕ) (prim : Reader) → PrimIs limits d prim → (n : ℕ) (t : List ℕ) {x : Expr × ℕ × List ℕ} → signed prim n t ≡ Some x → Got limits 7 d n t x
unfolding signed bare
signed_is limits d prim p zero t {x} h =
    branch_then (sign_at t) _ _ h
    (λ s e h. absurd cc)
    (λ e h. let g = p zero t x h in record { front = front_looser limits 8 7 x.0 d (omega arith) g.front; count = g.count })
signed_is limits d prim p (suc n) t {x} h =
    branch_then (sign_at t) _ _ h
    (λ s e h. bind_then (signed prim n s.1) _ h (λ y f k.
    let g = signed_is limits d prim p n s.1 f in
    subst (λ x. Got limits 7 d (suc n) t x) (some_value k)
    (record { front = bare_front limits 7 (Expr.Unary s.0 y.0) d (omega arith) (then_front (sign_is t e).0 g.front); count = omega (arith, g.count) })))
    (λ e h. let g = p (suc n) t x h in record { front = front_looser limits 8 7 x.0 d (omega arith) g.front; count = g.count })

-- ---- operators

pub op_level : (o : BinOp) → (1 ≤ binop_level o) × (binop_level o ≤ 6)
op_level BinOp.Or = (omega arith, omega arith)
op_level BinOp.And = (omega arith, omega arith)
op_level BinOp.Eq = (omega arith, omega arith)
op_level BinOp.Ne = (omega arith, omega arith)
op_level BinOp.Gt = (omega arith, omega arith)
op_level BinOp.Ge = (omega arith, omega arith)
op_level BinOp.Lt = (omega arith, omega arith)
op_level BinOp.Le = (omega arith, omega arith)
op_level BinOp.Add = (omega arith, omega arith)
op_level BinOp.Sub = (omega arith, omega arith)
op_level BinOp.Mul = (omega arith, omega arith)

-- how many operators are left
pub record Counted (left : Expr) (n : ℕ) (x : Expr × ℕ × List ℕ) : Type 0 where
  pub count : operations left + n ≡ operations x.0 + x.1
  pub less : x.1 ≤ n

pub chain_count : (limits : Bounds) (d : ℕ) (prim : Reader) → PrimIs limits d prim → (f m : ℕ) (left : Expr) (n : ℕ) (t : List ℕ) {x : Expr × ℕ × List ℕ} → chain prim f m left n t ≡ Some x → Counted left n x
unfolding chain
chain_count limits d prim p zero m left n t h =
    branch_then (op_at m t) _ _ h (λ o e h. absurd cc) (λ e k. subst (λ x. Counted left n x) (some_value k) (record { count = refl; less = omega arith }))
chain_count limits d prim p (suc f) m left n t {x} h =
    branch_then (op_at m t) _ _ h
    (λ o e h. spend_then n _ h (λ k z h. bind_then (signed prim k o.1) _ h (λ y g h.
    bind_then (chain prim f (suc (binop_level o.0)) y.0 y.1 y.2) _ h (λ w j h.
    let a = signed_is limits d prim p k o.1 g in
    let b = chain_count limits d prim p f (suc (binop_level o.0)) y.0 y.1 y.2 j in
    let c = chain_count limits d prim p f m (Expr.Binary o.0 left w.0) w.1 w.2 h in
    record { count = omega (arith, a.count, b.count, c.count); less = omega (arith, a.count, b.less, c.less) }))))
    (λ e k. subst (λ x. Counted left n x) (some_value k) (record { count = refl; less = omega arith }))

-- what was read so far can be the left operand of the operator that follows
pub record Left (limits : Bounds) (m d : ℕ) (whole : List ℕ) (left : Expr) (t : List ℕ) : Type 0 where
  pub front : Front (At limits m left d) whole t
  pub binds : (o : BinOp) (r : List ℕ) → op_at m t ≡ Some (o, r) → Front (At limits (binop_level o) left d) whole t

-- no operator of level m or a tighter one follows
pub record Ended (limits : Bounds) (m d : ℕ) (whole : List ℕ) (x : Expr × ℕ × List ℕ) : Type 0 where
  pub front : Front (At limits m x.0 d) whole x.2
  pub stop : op_at m x.2 ≡ None

pub operand_left : (limits : Bounds) (m d : ℕ) {whole : List ℕ} {left : Expr} {t : List ℕ} → m ≤ 7 → Front (At limits 7 left d) whole t → Left limits m d whole left t
operand_left limits m d {left = left} le f = record { front = front_looser limits 7 m left d le f; binds = λ o r e. front_looser limits 7 (binop_level o) left d (omega (arith, (op_level o).1)) f }

binary_left : (limits : Bounds) (m d : ℕ) {whole t r s : List ℕ} {left right : Expr} {o : BinOp} → FoundOp m t o r → Front (At limits (binop_level o) left d) whole t → Front (At limits (suc (binop_level o)) right d) r s → op_at (suc (binop_level o)) s ≡ None → Left limits m d whole (Expr.Binary o left right) s
unfolding bare
binary_left limits m d {s = s} {left = left} {right} {o} f a b e =
    let g = then_front a (then_front f.blanks (then_front f.the_word (then_front f.blanks_behind b))) in
    record {
      front = bare_front limits m (Expr.Binary o left right) d (leb-true m (binop_level o) f.binds) g;
      binds = λ q r h. bare_front limits (binop_level q) (Expr.Binary o left right) d (omega (arith, not_above (suc (binop_level o)) m q s r e h)) g;
    }

pub chain_is : (limits : Bounds) (d : ℕ) (prim : Reader) → PrimIs limits d prim → (f m : ℕ) (whole : List ℕ) (left : Expr) (n : ℕ) (t : List ℕ) {x : Expr × ℕ × List ℕ} → m ≤ 7 → Left limits m d whole left t → chain prim f m left n t ≡ Some x → Ended limits m d whole x
unfolding chain
chain_is limits d prim p zero m whole left n t le l h =
    branch_then (op_at m t) _ _ h (λ o e h. absurd cc) (λ e k. subst (λ x. Ended limits m d whole x) (some_value k) (record { front = l.front; stop = e }))
chain_is limits d prim p (suc f) m whole left n t {x} le l h =
    branch_then (op_at m t) _ _ h
    (λ o e h. spend_then n _ h (λ k z h. bind_then (signed prim k o.1) _ h (λ y g h.
    bind_then (chain prim f (suc (binop_level o.0)) y.0 y.1 y.2) _ h (λ w j h.
    let i : suc (binop_level o.0) ≤ 7 = omega (arith, (op_level o.0).1) in
    let a = signed_is limits d prim p k o.1 g in
    let b = chain_is limits d prim p f (suc (binop_level o.0)) o.1 y.0 y.1 y.2 i (operand_left limits (suc (binop_level o.0)) d i a.front) j in
    chain_is limits d prim p f m whole (Expr.Binary o.0 left w.0) w.1 w.2 le (binary_left limits m d (op_is m t e) (l.binds o.0 o.1 e) b.front b.stop) h))))
    (λ e k. subst (λ x. Ended limits m d whole x) (some_value k) (record { front = l.front; stop = e }))

pub record Climbed (limits : Bounds) (m d n : ℕ) (t : List ℕ) (x : Expr × ℕ × List ℕ) : Type 0 where
  pub front : Front (At limits m x.0 d) t x.2
  pub stop : op_at m x.2 ≡ None
  pub count : n ≡ operations x.0 + x.1

pub climb_is : (limits : Bounds) (d : ℕ) (prim : Reader) → PrimIs limits d prim → (m n : ℕ) (t : List ℕ) {x : Expr × ℕ × List ℕ} → m ≤ 7 → climb prim m n t ≡ Some x → Climbed limits m d n t x
unfolding climb
climb_is limits d prim p m n t le h =
    bind_then (signed prim n t) _ h (λ y e h.
    let a = signed_is limits d prim p n t e in
    let b = chain_is limits d prim p y.1 m t y.0 y.1 y.2 le (operand_left limits m d le a.front) h in
    record { front = b.front; stop = b.stop; count = omega (arith, a.count, (chain_count limits d prim p y.1 m y.0 y.1 y.2 h).count) })

pub parens_is : (limits : Bounds) (d : ℕ) → InnerIs limits d (parens limits d)
unfolding parens
parens_is limits zero n t x h = absurd cc
parens_is limits (suc d) n t x h =
    let c = climb_is limits d (primary limits (parens limits d)) (primary_is limits d (parens limits d) (parens_is limits d)) 1 n t (omega arith) h in
    (c.front, c.count)

pub prim_is : (limits : Bounds) (d : ℕ) → PrimIs limits d (primary limits (parens limits d))
prim_is limits d = primary_is limits d (parens limits d) (parens_is limits d)
