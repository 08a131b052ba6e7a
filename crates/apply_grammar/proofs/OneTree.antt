-- A text has at most one expression, and at most one pipeline.
use Rattle.std.proofs.Common.{◌≡◌, ℕ, ◌+◌, ◌≤◌, ◌==◌, Bool, true, false, ◌&&◌, List, [], ◌∷◌, refl, sym, ◌∙◌, arith}
use Rattle.std.specs.Prelude.{count_by}
use Rattle.std.specs.List.{list_all}
use Rattle.std.proofs.lemmas.Bool.{le-leb, and_from}
use Rattle.apply_ast.specs.Trees.{Expr, AggItem, Pipe, Step, OptPipe, Pipes, Key, Keys}
use Rattle.apply_ast.specs.Grammar.{Text, expr_text}
use Rattle.apply_ast.specs.Counts.{step_count}
use Rattle.apply_grammar.specs.Limits.{Bounds, outside, IsShallow, operations, is_small, agg_small, all_small, inner_small, branches_small, key_small, keys_small, step_small}
use Rattle.apply_grammar.proofs.Nested.{SmallExpr}
use Rattle.apply_grammar.proofs.ShallowTexts.{few_are_shallow}
use Rattle.apply_grammar.proofs.Depths.{small_tied}
use Rattle.apply_grammar.proofs.PipeDepths.{pipe_tied}
use Rattle.apply_grammar.proofs.ExprWhole.{expr_only}
use Rattle.apply_grammar.proofs.PipeWhole.{NestedIn, one_pipe}
use Rattle.edm_values.proofs.OptionFacts.{some_value}

-- the test holds of each number from some number on
abbrev FromOn : (ℕ → Bool) → Type 0
FromOn p = (m : ℕ) × ((n : ℕ) → m ≤ n → p n ≡ true)

always : {p : ℕ → Bool} → ((n : ℕ) → p n ≡ true) → FromOn p
always h = (0, λ n l. h n)

both : (p q : ℕ → Bool) → FromOn p → FromOn q → FromOn (λ n. p n && q n)
both p q a b = (a.0 + b.0, λ n l. and_from (p n) (q n) (a.1 n (omega arith)) (b.1 n (omega arith)))

each : {X : Type 0} (p : ℕ → X → Bool) → ((x : X) → FromOn (λ n. p n x)) → (xs : List X) → FromOn (λ n. list_all (p n) xs)
each p h [] = always (λ n. refl)
each p h (x ∷ xs) = both (λ n. p n x) (λ n. list_all (p n) xs) (h x) (each p h xs)

-- ---- a tree keeps some limit on operators and calls

small : (e : Expr) → FromOn (λ n. is_small n e)
small e = (operations e, λ n l. le-leb (operations e) n l)

small_agg : (x : AggItem) → FromOn (λ n. agg_small n x)
small_agg (AggItem.Count a) = always (λ n. refl)
small_agg (AggItem.Standard e f a) = small e
small_agg (AggItem.Custom m a) = always (λ n. refl)

mutual
  small_pipe : (p : Pipe) → FromOn (λ n. all_small n p)
  small_pipe Pipe.End = always (λ n. refl)
  small_pipe (Pipe.Then s p) = both (λ n. step_small n s) (λ n. all_small n p) (small_step s) (small_pipe p)

  small_inner : (T : OptPipe) → FromOn (λ n. inner_small n T)
  small_inner OptPipe.NoPipe = always (λ n. refl)
  small_inner (OptPipe.SomePipe p) = small_pipe p

  small_branches : (ps : Pipes) → FromOn (λ n. branches_small n ps)
  small_branches Pipes.NoPipes = always (λ n. refl)
  small_branches (Pipes.MorePipes p ps) = both (λ n. all_small n p) (λ n. branches_small n ps) (small_pipe p) (small_branches ps)

  small_key : (k : Key) → FromOn (λ n. key_small n k)
  small_key (Key.Plain p) = always (λ n. refl)
  small_key (Key.Rollup all ps) = always (λ n. refl)
  small_key (Key.Recursive h p T) = small_inner T

  small_keys : (ks : Keys) → FromOn (λ n. keys_small n ks)
  small_keys Keys.NoKeys = always (λ n. refl)
  small_keys (Keys.MoreKeys k ks) = both (λ n. key_small n k) (λ n. keys_small n ks) (small_key k) (small_keys ks)

  small_step : (s : Step) → FromOn (λ n. step_small n s)
  small_step Step.Identity = always (λ n. refl)
  small_step (Step.Filter e) = small e
  small_step (Step.Compute ns) = each (λ n x. is_small n x.expr) (λ x. small x.expr) ns
  small_step (Step.OrderBy items) = each (λ n x. is_small n x.expr) (λ x. small x.expr) items
  small_step (Step.Skip m) = always (λ n. refl)
  small_step (Step.Top m) = always (λ n. refl)
  small_step (Step.Aggregate items) = each agg_small small_agg items
  small_step (Step.GroupBy ks T) = both (λ n. keys_small n ks) (λ n. inner_small n T) (small_keys ks) (small_inner T)
  small_step (Step.Concat ps) = small_branches ps
  small_step (Step.Join outer n a T) = small_inner T
  small_step (Step.TopBy t) = small t.expr
  small_step (Step.Climb up h p T d keep) = small_pipe T
  small_step (Step.Traverse t) = each (λ n x. is_small n x.expr) (λ x. small x.expr) t.items

-- ---- a text keeps some limit on open parentheses

abbrev opens : List ℕ → ℕ
opens t = count_by (λ x. x == 40) (outside false t)

is_shallow : (t : List ℕ) → IsShallow (opens t) t
is_shallow t = few_are_shallow (opens t) t (omega arith)

-- ---- the laws

no_limit : {P : Type 0} → true ≡ false → P
no_limit e = absurd cc

-- what reads any text of an expression with at most so many operators and calls
abbrev any : ℕ → Bounds
any n = record { operations = n; any_bytes = true }

pub one_expr : (t : List ℕ) (a b : Expr) → expr_text a t → expr_text b t → a ≡ b
one_expr t a b h k =
    let m = operations a + operations b in
    let read = λ (e : Expr) (g : expr_text e t) (l : operations e ≤ m).
    let x = small_tied (any m) e in
    let s : SmallExpr (any m) e (opens t) t = x.deep (le-leb (operations e) m l) (opens t) t g (is_shallow t) no_limit in
    expr_only (any m) (opens t) m t e s.of s.small in
    some_value (sym (read a h (omega arith)) ∙ read b k (omega arith))

pub one_pipeline : (t : List ℕ) (p q : Pipe) → Text p t → Text q t → p ≡ q
one_pipeline t p q h k =
    let a = small_pipe p in
    let b = small_pipe q in
    let m = a.0 + b.0 in
    let n = step_count p + step_count q in
    let x = pipe_tied (any m) p in
    let y = pipe_tied (any m) q in
    let i : NestedIn (any m) (opens t) n t p = record { of = x.deep (a.1 m (omega arith)) (opens t) t h (is_shallow t) no_limit; enough = omega arith } in
    let j : NestedIn (any m) (opens t) n t q = record { of = y.deep (b.1 m (omega arith)) (opens t) t k (is_shallow t) no_limit; enough = omega arith } in
    one_pipe (any m) (opens t) n t p q i j
