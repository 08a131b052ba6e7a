-- A tree is told the same as itself.
use Rattle.std.proofs.Common.{◌≡◌, refl, ℕ, ℤ, ◌==◌, Bool, true, false, ◌&&◌, Option, Some, None}
use Rattle.std.proofs.lemmas.Bool.{eq-eqb, and_from}
use Rattle.std.specs.Cmp.{signed_Decides}
use Rattle.edm_values.proofs.SameTexts.{lists_self, text-self}
use Rattle.edm_values.specs.Lists.{same_text}
use Rattle.apply_ast.specs.Trees.{AggItem, Expr, HierName, Key, Keys, Limit, Named, NumberLiteral, OptPipe, OrderItem, Pipe, Pipes, Step}
use Rattle.context_typing.proofs.PathLemmas.{path-self}
use Rattle.context_typing.specs.Paths.{same_path}
use Rattle.rewrite_laws.specs.TreeEquality.{agg_same, binop_number, expr_same, fun1_number, fun2_number, hier_same, inner_same, item_same, key_same, keys_same, limit_same, literal_same, method_number, named_same, option_same, pipe_same, pipes_same, same_bool, same_integer, step_same, unop_number}

bool-self : (a : Bool) → same_bool a a ≡ true
bool-self true = refl
bool-self false = refl

integer-self : (a : ℤ) → same_integer a a ≡ true
integer-self a = (signed_Decides a a).1 refl

number-self : (n : ℕ) → (n == n) ≡ true
number-self n = eq-eqb n n refl

expr-self : (e : Expr) → expr_same e e ≡ true
expr-self Expr.Null = refl
expr-self (Expr.Bool' a) = bool-self a
expr-self (Expr.Int a) = integer-self a
expr-self (Expr.Dec m s) = and_from (same_integer m m) (s == s) (integer-self m) (number-self s)
expr-self (Expr.Text a) = text-self a
expr-self (Expr.Day y m d) = and_from ((y == y) && (m == m)) (d == d) (and_from (y == y) (m == m) (number-self y) (number-self m)) (number-self d)
expr-self (Expr.Path' p) = path-self p
expr-self (Expr.Unary o a) = and_from (unop_number o == unop_number o) (expr_same a a) (number-self (unop_number o)) (expr-self a)
expr-self (Expr.Binary o a b) =
    and_from ((binop_number o == binop_number o) && expr_same a a) (expr_same b b) (and_from (binop_number o == binop_number o) (expr_same a a) (number-self (binop_number o)) (expr-self a)) (expr-self b)
expr-self (Expr.Call1 f a) = and_from (fun1_number f == fun1_number f) (expr_same a a) (number-self (fun1_number f)) (expr-self a)
expr-self (Expr.Call2 f a b) =
    and_from ((fun2_number f == fun2_number f) && expr_same a a) (expr_same b b) (and_from (fun2_number f == fun2_number f) (expr_same a a) (number-self (fun2_number f)) (expr-self a)) (expr-self b)

named-self : (x : Named) → named_same x x ≡ true
named-self x = and_from (expr_same x.expr x.expr) (same_text x.name x.name) (expr-self x.expr) (text-self x.name)

item-self : (x : OrderItem) → item_same x x ≡ true
item-self x = and_from (expr_same x.expr x.expr) (same_bool x.desc x.desc) (expr-self x.expr) (bool-self x.desc)

agg-self : (x : AggItem) → agg_same x x ≡ true
agg-self (AggItem.Count a) = text-self a
agg-self (AggItem.Standard e f a) =
    and_from (expr_same e e && (method_number f == method_number f)) (same_text a a) (and_from (expr_same e e) (method_number f == method_number f) (expr-self e) (number-self (method_number f))) (text-self a)
agg-self (AggItem.Custom n a) = and_from (same_text n n) (same_text a a) (text-self n) (text-self a)

hier-self : (h : HierName) → hier_same h h ≡ true
hier-self h = and_from (same_text h.set h.set) (same_text h.qualifier h.qualifier) (text-self h.set) (text-self h.qualifier)

literal-self : (a : NumberLiteral) → literal_same a a ≡ true
literal-self (NumberLiteral.Int a) = integer-self a
literal-self (NumberLiteral.Dec m s) = and_from (same_integer m m) (s == s) (integer-self m) (number-self s)

limit-self : (l : Limit) → limit_same l l ≡ true
limit-self (Limit.Count n) = number-self n
limit-self (Limit.Sum a) = literal-self a
limit-self (Limit.Percent p) = number-self p

distance-self : (d : Option ℕ) → option_same (λ a b. a == b) d d ≡ true
distance-self None = refl
distance-self (Some n) = number-self n

and4 : (a b c d : Bool) → a ≡ true → b ≡ true → c ≡ true → d ≡ true → (a && b && c && d) ≡ true
and4 a b c d h k l n = and_from (a && b && c) d (and_from (a && b) c (and_from a b h k) l) n

mutual
  pipe-self : (p : Pipe) → pipe_same p p ≡ true
  pipe-self Pipe.End = refl
  pipe-self (Pipe.Then s p) = and_from (step_same s s) (pipe_same p p) (step-self s) (pipe-self p)

  inner-self : (T : OptPipe) → inner_same T T ≡ true
  inner-self OptPipe.NoPipe = refl
  inner-self (OptPipe.SomePipe p) = pipe-self p

  branches-self : (ps : Pipes) → pipes_same ps ps ≡ true
  branches-self Pipes.NoPipes = refl
  branches-self (Pipes.MorePipes p ps) = and_from (pipe_same p p) (pipes_same ps ps) (pipe-self p) (branches-self ps)

  key-self : (k : Key) → key_same k k ≡ true
  key-self (Key.Plain p) = path-self p
  key-self (Key.Rollup all ps) = and_from (same_bool all all) _ (bool-self all) (lists_self same_path path-self ps)
  key-self (Key.Recursive h p T) = and_from (hier_same h h && same_path p p) (inner_same T T) (and_from (hier_same h h) (same_path p p) (hier-self h) (path-self p)) (inner-self T)

  keys-self : (ks : Keys) → keys_same ks ks ≡ true
  keys-self Keys.NoKeys = refl
  keys-self (Keys.MoreKeys k ks) = and_from (key_same k k) (keys_same ks ks) (key-self k) (keys-self ks)

  pub step-self : (s : Step) → step_same s s ≡ true
  step-self Step.Identity = refl
  step-self (Step.Filter e) = expr-self e
  step-self (Step.Compute xs) = lists_self named_same named-self xs
  step-self (Step.OrderBy xs) = lists_self item_same item-self xs
  step-self (Step.Skip n) = number-self n
  step-self (Step.Top n) = number-self n
  step-self (Step.Aggregate xs) = lists_self agg_same agg-self xs
  step-self (Step.GroupBy ks T) = and_from (keys_same ks ks) (inner_same T T) (keys-self ks) (inner-self T)
  step-self (Step.Concat ps) = branches-self ps
  step-self (Step.Join o n a T) = and4 (same_bool o o) (same_text n n) (same_text a a) (inner_same T T) (bool-self o) (text-self n) (text-self a) (inner-self T)
  step-self (Step.TopBy t) = and_from (same_bool t.bottom t.bottom && limit_same t.limit t.limit) (expr_same t.expr t.expr) (and_from (same_bool t.bottom t.bottom) (limit_same t.limit t.limit) (bool-self t.bottom) (limit-self t.limit)) (expr-self t.expr)
  step-self (Step.Climb u h p T d k) =
      and_from (same_bool u u && hier_same h h && same_path p p && pipe_same T T && option_same (λ a b. a == b) d d) (same_bool k k)
      (and_from (same_bool u u && hier_same h h && same_path p p && pipe_same T T) (option_same (λ a b. a == b) d d) (and4 (same_bool u u) (hier_same h h) (same_path p p) (pipe_same T T) (bool-self u) (hier-self h) (path-self p) (pipe-self T)) (distance-self d)) (bool-self k)
  step-self (Step.Traverse t) = and4 (hier_same t.hier t.hier) (same_path t.path t.path) (same_bool t.post t.post) _ (hier-self t.hier) (path-self t.path) (bool-self t.post) (lists_self item_same item-self t.items)
