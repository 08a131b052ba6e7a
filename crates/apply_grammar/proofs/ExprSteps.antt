-- The program's steps over signs, parentheses and operators.
use Rattle.std.proofs.lemmas.Bool.{eqb-false}
use Rattle.std.proofs.Common.{◌≡◌, ◌==◌, true, false, eqb-true, ℕ, zero, suc, ◌+◌, ◌-◌, ◌<◌, List, [], ◌∷◌, length, Some, None, refl, sym, ap, ◌∙◌, arith}
use Rattle.apply_ast.specs.declared.expressions.UnOp.{UnOp}
use Rattle.apply_ast.specs.declared.expressions.BinOp.{BinOp}
use Rattle.apply_ast.specs.Trees.{Expr}
use Rattle.apply_ast.specs.Printing.{binop_level}
use Rattle.apply_grammar.specs.Limits.{Bounds}
use Rattle.apply_grammar.specs.Reading.{◌>>=◌, Read, Reader, sign_at, op_at, signed, chain, goes, climb, parens, primary, whole_expr}
use Rattle.apply_grammar.proofs.ExprAgain.{prim, goes_stop, goes_turn}

pub parens_none : (limits : Bounds) (d n : ℕ) (t : List ℕ) → d ≡ 0 → parens limits d n t ≡ None
unfolding parens
parens_none limits zero n t h = refl
parens_none limits (suc d) n t h = absurd (omega arith)

pub parens_some : (limits : Bounds) (d n : ℕ) (t : List ℕ) → 0 < d → parens limits d n t ≡ climb (primary limits (parens limits (d - 1))) 1 n t
unfolding parens
parens_some limits zero n t h = absurd (omega arith)
parens_some limits (suc d) n t h = let e : d ≡ suc d - 1 = omega arith in ap (λ k. climb (primary limits (parens limits k)) 1 n t) e

pub signed_none : (p : Reader) (n : ℕ) (t : List ℕ) → None ≡ sign_at t → signed p n t ≡ p n t
unfolding signed
signed_none p zero t h = rw (sym h) refl
signed_none p (suc n) t h = rw (sym h) refl

pub signed_full : (p : Reader) (n : ℕ) (t : List ℕ) (s : UnOp × List ℕ) → Some s ≡ sign_at t → n ≡ 0 → signed p n t ≡ None
unfolding signed
signed_full p zero t s h e = rw (sym h) refl
signed_full p (suc n) t s h e = absurd (omega arith)

pub signed_more : (p : Reader) (n : ℕ) (t : List ℕ) (o : UnOp) (x : List ℕ) → Some (o, x) ≡ sign_at t → 0 < n → signed p n t ≡ (signed p (n - 1) x >>= λ y. Some (Expr.Unary o y.0, y.1, y.2))
unfolding signed
signed_more p zero t o x h e = absurd (omega arith)
signed_more p (suc n) t o x h e =
    let k : n ≡ suc n - 1 = omega arith in
    rw (sym h) (ap (λ i. signed p i x >>= λ y. Some (Expr.Unary o y.0, y.1, y.2)) k)

pub signed_is_more : (p : Reader) (n : ℕ) (t : List ℕ) (o : UnOp) (x : List ℕ) (e : Expr) (k : ℕ) (r : List ℕ) → Some (o, x) ≡ sign_at t → 0 < n → signed p (n - 1) x ≡ Some (e, k, r) → signed p n t ≡ Some (Expr.Unary o e, k, r)
signed_is_more p n t o x e k r h l i = signed_more p n t o x h l ∙ ap (λ z. z >>= λ y. Some (Expr.Unary o y.0, y.1, y.2)) i

pub signed_fails : (p : Reader) (n : ℕ) (t : List ℕ) (o : UnOp) (x : List ℕ) → Some (o, x) ≡ sign_at t → 0 < n → signed p (n - 1) x ≡ None → signed p n t ≡ None
signed_fails p n t o x h l i = signed_more p n t o x h l ∙ ap (λ z. z >>= λ y. Some (Expr.Unary o y.0, y.1, y.2)) i

pub climb_start : (p : Reader) (m n : ℕ) (t : List ℕ) (e : Expr) (k : ℕ) (r : List ℕ) → signed p n t ≡ Some (e, k, r) → goes p m e k r ≡ climb p m n t
unfolding climb
climb_start p m n t e k r h = rw h refl

pub climb_fails : (p : Reader) (m n : ℕ) (t : List ℕ) → signed p n t ≡ None → climb p m n t ≡ None
unfolding climb
climb_fails p m n t h = rw h refl

pub goes_full : (p : Reader) (m : ℕ) (e : Expr) (n : ℕ) (r : List ℕ) (o : BinOp × List ℕ) (total : Read) → Some o ≡ op_at m r → n ≡ 0 → goes p m e n r ≡ total → total ≡ None
unfolding chain
goes_full p m e zero r o total h z i = sym i ∙ rw (sym h) refl
goes_full p m e (suc n) r o total h z i = absurd (omega arith)

-- an operator comes next, and an operand behind it
pub goes_on_turn : (limits : Bounds) (d m : ℕ) (left : Expr) (n : ℕ) (t : List ℕ) (o : BinOp) (s : List ℕ) (l : ℕ) (right : Expr) (k : ℕ) (r : List ℕ) (total : Read) → Some (o, s) ≡ op_at m t → 0 < n → l ≡ binop_level o → climb (prim limits d) (l + 1) (n - 1) s ≡ Some (right, k, r) → goes (prim limits d) m left n t ≡ total → goes (prim limits d) m (Expr.Binary o left right) k r ≡ total
goes_on_turn limits d m left n t o s l right k r total h i e c g =
    let a : n ≡ suc (n - 1) = omega arith in
    let b : l + 1 ≡ suc (binop_level o) = omega arith in
    let f : climb (prim limits d) (suc (binop_level o)) (n - 1) s ≡ Some (right, k, r) = ap (λ x. climb (prim limits d) x (n - 1) s) (sym b) ∙ c in
    sym (ap (λ x. goes (prim limits d) m left x t) a ∙ goes_turn limits d m left (n - 1) t o s (sym h) ∙ ap (λ x. x >>= λ y. goes (prim limits d) m (Expr.Binary o left y.0) y.1 y.2) f) ∙ g

pub goes_fails : (limits : Bounds) (d m : ℕ) (left : Expr) (n : ℕ) (t : List ℕ) (o : BinOp) (s : List ℕ) (l : ℕ) (total : Read) → Some (o, s) ≡ op_at m t → 0 < n → l ≡ binop_level o → climb (prim limits d) (l + 1) (n - 1) s ≡ None → goes (prim limits d) m left n t ≡ total → total ≡ None
goes_fails limits d m left n t o s l total h i e c g =
    let a : n ≡ suc (n - 1) = omega arith in
    let b : l + 1 ≡ suc (binop_level o) = omega arith in
    let f : climb (prim limits d) (suc (binop_level o)) (n - 1) s ≡ None = ap (λ x. climb (prim limits d) x (n - 1) s) (sym b) ∙ c in
    sym g ∙ ap (λ x. goes (prim limits d) m left x t) a ∙ goes_turn limits d m left (n - 1) t o s (sym h) ∙ ap (λ x. x >>= λ y. goes (prim limits d) m (Expr.Binary o left y.0) y.1 y.2) f

pub goes_done : (p : Reader) (m : ℕ) (e : Expr) (n : ℕ) (r : List ℕ) (total : Read) → None ≡ op_at m r → goes p m e n r ≡ total → total ≡ Some (e, n, r)
goes_done p m e n r total h g = sym g ∙ goes_stop p m e n r (sym h)

pub whole_is : (limits : Bounds) (d n : ℕ) (t : List ℕ) (e : Expr) (k : ℕ) (r : List ℕ) → climb (prim limits d) 1 n t ≡ Some (e, k, r) → length r ≡ 0 → whole_expr limits d n t ≡ Some e
unfolding whole_expr
whole_is limits d n t e k [] h z = rw h refl
whole_is limits d n t e k (b ∷ r) h z = absurd (omega arith)

pub whole_left : (limits : Bounds) (d n : ℕ) (t : List ℕ) (e : Expr) (k : ℕ) (r : List ℕ) → climb (prim limits d) 1 n t ≡ Some (e, k, r) → 0 < length r → whole_expr limits d n t ≡ None
unfolding whole_expr
whole_left limits d n t e k [] h z = absurd (omega arith)
whole_left limits d n t e k (b ∷ r) h z = rw h refl

pub whole_none : (limits : Bounds) (d n : ℕ) (t : List ℕ) → climb (prim limits d) 1 n t ≡ None → whole_expr limits d n t ≡ None
unfolding whole_expr
whole_none limits d n t h = rw h refl

pub is_empty_list : (r : List ℕ) → true ≡ (length r == 0) → length r ≡ 0
is_empty_list r h = eqb-true (length r) 0 (sym h)

pub is_some_list : (r : List ℕ) → false ≡ (length r == 0) → 0 < length r
is_some_list r h = let n : length r ≡ 0 → ⊥ = eqb-false (length r) 0 (sym h) in omega arith
