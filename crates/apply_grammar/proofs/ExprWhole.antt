-- All of a text: its expression, or its path.
use Rattle.std.proofs.Common.{◌≡◌, ℕ, ◌+◌, ◌≤◌, List, [], ◌∷◌, ◌++◌, IsUtf8, Some, refl, sym, ap, subst, ◌∙◌, arith, append-nil}
use Rattle.std.specs.Prelude.{Result, Ok, Err, IfOk, ◌-◌}
use Rattle.edm_values.specs.Names.{Path}
use Rattle.apply_ast.specs.Trees.{Expr}
use Rattle.apply_ast.specs.Grammar.{path_text}
use Rattle.apply_ast.specs.Views.{expr_of}
use Rattle.apply_ast.specs.declared.expressions.Expr as of_expr
use Rattle.apply_ast.specs.declared.names.Path as of_path
use Rattle.apply_grammar.specs.declared.refusals.ExprRefused.{ExprRefused}
use Rattle.apply_grammar.specs.Gives.{Gives}
use Rattle.apply_grammar.specs.Limits.{operations, most_open, most_operations, ExprTextIn, Bounds, served}
use Rattle.apply_grammar.specs.Reading.{◌>>=◌, at_end, whole_expr, whole_path, path_at, primary, parens, expr_at, op_at, blanks_at}
use Rattle.apply_grammar.proofs.Nested.{At, SmallExpr}
use Rattle.apply_grammar.proofs.Runs.{bind_then}
use Rattle.apply_grammar.proofs.Leaves.{path_is, path_front}
use Rattle.apply_grammar.proofs.ExprFound.{climb_is, prim_is}
use Rattle.apply_grammar.proofs.ExprAgain.{expr_front}
use Rattle.apply_grammar.proofs.Depths.{small_tied}
use Rattle.edm_values.proofs.OptionFacts.{some_value}

at_end_then : {A P : Type 0} (r : List ℕ) (x : A) {y : A} → at_end r x ≡ Some y → (r ≡ [] → x ≡ y → P) → P
at_end_then [] x h k = k refl (some_value h)
at_end_then (b ∷ t) x h k = absurd cc

expr_found : (limits : Bounds) (d n : ℕ) (t : List ℕ) (e : Expr) → whole_expr limits d n t ≡ Some e → At limits 1 e d t × (operations e ≤ n)
unfolding whole_expr
expr_found limits d n t e h =
    bind_then (expr_at limits d 1 n t) _ h (λ x f h. at_end_then x.2 x.0 h (λ z k.
    let c = climb_is limits d (primary limits (parens limits d)) (prim_is limits d) 1 n t (omega arith) f in
    let i : t ≡ c.front.front = c.front.cut ∙ ap (λ l. c.front.front ++ l) z ∙ append-nil c.front.front in
    let j : At limits 1 x.0 d t = subst (λ l. At limits 1 x.0 d l) (sym i) c.front.of in
    subst (λ y. At limits 1 y d t × (operations y ≤ n)) k (j, omega (arith, c.count))))

pub expr_only : (limits : Bounds) (d n : ℕ) (t : List ℕ) (e : Expr) → At limits 1 e d t → operations e ≤ n → whole_expr limits d n t ≡ Some e
unfolding whole_expr op_at blanks_at
expr_only limits d n t e h le =
    let i : n ≡ operations e + (n - operations e) = omega arith in
    let f = expr_front limits e d (n - operations e) t [] h (record { ends_here = refl; no_op = refl }) in
    let g : expr_at limits d 1 n t ≡ Some (e, n - operations e, []) = ap (λ l. expr_at limits d 1 n l) (sym (append-nil t)) ∙ ap (λ k. expr_at limits d 1 k (t ++ [])) i ∙ f in
    ap (λ o. o >>= λ x. at_end x.2 x.0) g

-- an expression that was read is the text's
pub expr_text_is : (t : List ℕ) (e : Expr) → whole_expr served most_open most_operations t ≡ Some e → ExprTextIn t e
expr_text_is t e h =
    let a = expr_found served most_open most_operations t e h in
    let s : SmallExpr served e most_open t = record { of = a.0; small = a.1 } in
    let x = small_tied served e in
    (x.forget most_open t s, x.shallow most_open t s, x.limit most_open t s)

-- the text's expression is read
pub expr_text_read : (t : List ℕ) (e : Expr) → IsUtf8 t → ExprTextIn t e → whole_expr served most_open most_operations t ≡ Some e
expr_text_read t e u h =
    let x = small_tied served e in
    let s = x.deep h.2 most_open t h.0 h.1 (λ e. u) in
    expr_only served most_open most_operations t e s.of s.small

pub expr_gives : (t : List ℕ) (r : Result of_expr.Expr ExprRefused) → Gives expr_of r (whole_expr served most_open most_operations t) → IfOk r (λ e. ExprTextIn t (expr_of e))
expr_gives t (Ok e) h = expr_text_is t (expr_of e) h
expr_gives t (Err e) h = tt

-- ---- paths

path_found : (t : List ℕ) (p : Path) → whole_path t ≡ Some p → path_text p t
unfolding whole_path
path_found t p h =
    bind_then (path_at t) _ h (λ x f h. at_end_then x.1 x.0 h (λ z k.
    let c = path_is t f in
    let i : t ≡ c.front = c.cut ∙ ap (λ l. c.front ++ l) z ∙ append-nil c.front in
    subst (λ q. path_text q t) k (subst (λ l. path_text x.0 l) (sym i) c.of)))

pub path_text_read : (t : List ℕ) (p : Path) → path_text p t → whole_path t ≡ Some p
unfolding whole_path
path_text_read t p h = ap (λ o. o >>= λ x. at_end x.1 x.0) (ap path_at (sym (append-nil t)) ∙ path_front p t [] h refl)

pub path_gives : (t : List ℕ) (r : Result of_path.Path ExprRefused) → Gives (λ p. p) r (whole_path t) → IfOk r (λ p. path_text p t)
path_gives t (Ok p) h = path_found t p h
path_gives t (Err e) h = tt
