-- Trees that are told the same are equal.
use Rattle.std.proofs.Common.{◌≡◌, refl, ap, ℕ, ◌==◌, Bool, true, ◌&&◌, Option, Some, None, drop}
use Rattle.std.proofs.lemmas.Bool.{eqb-true, and_parts}
use Rattle.std.specs.Prelude.{slice_get}
use Rattle.std.specs.List.{list_all}
use Rattle.std.specs.Cmp.Lexicographic.{pointwise}
use Rattle.edm_values.proofs.OptionFacts.{and_3}
use Rattle.edm_values.proofs.SameTexts.{same_lists, same_texts}
use Rattle.edm_values.specs.Lists.{is_some_and, same_text}
use Rattle.edm_values.specs.declared.Method.{Method}
use Rattle.apply_ast.specs.Trees.{AggItem, HierName, Key, Keys, Limit, Named, NumberLiteral, OptPipe, OrderItem, Pipe, Pipes, Step, steps}
use Rattle.context_typing.proofs.PathLemmas.{same_paths}
use Rattle.context_typing.specs.Paths.{same_path}
use Rattle.rewrite_laws.proofs.SameExpressions.{same-bool, same-exprs, same-int}
use Rattle.rewrite_laws.specs.Rewrites.{branches, pipe_or_identity}
use Rattle.rewrite_laws.specs.TreeEquality.{agg_same, expr_same, hier_same, inner_same, item_same, key_same, keys_same, limit_same, literal_same, method_number, named_same, option_same, pipe_same, pipes_same, same_bool, same_integer, step_same}

and_4 : (a b c d : Bool) → (a && b && c && d) ≡ true → (a ≡ true) × (b ≡ true) × (c ≡ true) × (d ≡ true)
and_4 a b c d e =
    let x = and_parts (a && b && c) d e in
    let y = and_3 a b c x.0 in
    (y.0, y.1, y.2, x.1)

same-method : (a b : Method) → (method_number a == method_number b) ≡ true → a ≡ b
same-method Method.Sum Method.Sum e = refl
same-method Method.Min Method.Min e = refl
same-method Method.Max Method.Max e = refl
same-method Method.CountDistinct Method.CountDistinct e = refl
same-method _ _ e = cc

same-options : (a b : Option ℕ) → option_same (λ x y. x == y) a b ≡ true → a ≡ b
same-options None None e = refl
same-options (Some x) (Some y) e = ap (λ z. Some z) (eqb-true x y e)
same-options None (Some y) e = cc
same-options (Some x) None e = cc

same-named : (x y : Named) → named_same x y ≡ true → x ≡ y
same-named x y e = let p = and_parts (expr_same x.expr y.expr) _ e in λ i. record { expr = same-exprs x.expr y.expr p.0 i; name = same_texts x.name y.name p.1 i }

same-items : (x y : OrderItem) → item_same x y ≡ true → x ≡ y
same-items x y e = let p = and_parts (expr_same x.expr y.expr) _ e in λ i. record { expr = same-exprs x.expr y.expr p.0 i; desc = same-bool x.desc y.desc p.1 i }

same-aggs : (x y : AggItem) → agg_same x y ≡ true → x ≡ y
same-aggs (AggItem.Count a) (AggItem.Count b) e = ap AggItem.Count (same_texts a b e)
same-aggs (AggItem.Standard x f a) (AggItem.Standard y g b) e =
    let p = and_3 (expr_same x y) (method_number f == method_number g) (same_text a b) e in
    λ i. AggItem.Standard (same-exprs x y p.0 i) (same-method f g p.1 i) (same_texts a b p.2 i)
same-aggs (AggItem.Custom n a) (AggItem.Custom n' b) e = let p = and_parts (same_text n n') _ e in λ i. AggItem.Custom (same_texts n n' p.0 i) (same_texts a b p.1 i)
same-aggs _ _ e = cc

same-hiers : (h k : HierName) → hier_same h k ≡ true → h ≡ k
same-hiers h k e = let p = and_parts (same_text h.set k.set) _ e in λ i. record { set = same_texts h.set k.set p.0 i; qualifier = same_texts h.qualifier k.qualifier p.1 i }

same-literals : (a b : NumberLiteral) → literal_same a b ≡ true → a ≡ b
same-literals (NumberLiteral.Int a) (NumberLiteral.Int b) e = ap NumberLiteral.Int (same-int a b e)
same-literals (NumberLiteral.Dec m s) (NumberLiteral.Dec m' s') e = let p = and_parts (same_integer m m') _ e in λ i. NumberLiteral.Dec (same-int m m' p.0 i) (eqb-true s s' p.1 i)
same-literals _ _ e = cc

same-limits : (a b : Limit) → limit_same a b ≡ true → a ≡ b
same-limits (Limit.Count n) (Limit.Count k) e = ap Limit.Count (eqb-true n k e)
same-limits (Limit.Sum a) (Limit.Sum b) e = ap Limit.Sum (same-literals a b e)
same-limits (Limit.Percent p) (Limit.Percent q) e = ap Limit.Percent (eqb-true p q e)
same-limits _ _ e = cc

mutual
  same-pipes : (p q : Pipe) → pipe_same p q ≡ true → p ≡ q
  same-pipes Pipe.End Pipe.End e = refl
  same-pipes (Pipe.Then s p) (Pipe.Then t q) e = let x = and_parts (step_same s t) _ e in λ i. Pipe.Then (same-steps s t x.0 i) (same-pipes p q x.1 i)
  same-pipes Pipe.End (Pipe.Then t q) e = cc
  same-pipes (Pipe.Then s p) Pipe.End e = cc

  same-inner : (p q : OptPipe) → inner_same p q ≡ true → p ≡ q
  same-inner OptPipe.NoPipe OptPipe.NoPipe e = refl
  same-inner (OptPipe.SomePipe p) (OptPipe.SomePipe q) e = ap OptPipe.SomePipe (same-pipes p q e)
  same-inner OptPipe.NoPipe (OptPipe.SomePipe q) e = cc
  same-inner (OptPipe.SomePipe p) OptPipe.NoPipe e = cc

  same-branches : (p q : Pipes) → pipes_same p q ≡ true → p ≡ q
  same-branches Pipes.NoPipes Pipes.NoPipes e = refl
  same-branches (Pipes.MorePipes p ps) (Pipes.MorePipes q qs) e = let x = and_parts (pipe_same p q) _ e in λ i. Pipes.MorePipes (same-pipes p q x.0 i) (same-branches ps qs x.1 i)
  same-branches Pipes.NoPipes (Pipes.MorePipes q qs) e = cc
  same-branches (Pipes.MorePipes p ps) Pipes.NoPipes e = cc

  same-key : (p q : Key) → key_same p q ≡ true → p ≡ q
  same-key (Key.Plain p) (Key.Plain q) e = ap Key.Plain (same_paths p q e)
  same-key (Key.Rollup a ps) (Key.Rollup b qs) e = let x = and_parts (same_bool a b) _ e in λ i. Key.Rollup (same-bool a b x.0 i) (same_lists same_path same_paths ps qs x.1 i)
  same-key (Key.Recursive h p T) (Key.Recursive h' q U) e = let x = and_3 (hier_same h h') (same_path p q) (inner_same T U) e in λ i. Key.Recursive (same-hiers h h' x.0 i) (same_paths p q x.1 i) (same-inner T U x.2 i)
  same-key (Key.Plain p) (Key.Rollup b qs) e = cc
  same-key (Key.Plain p) (Key.Recursive h q U) e = cc
  same-key (Key.Rollup a ps) (Key.Plain q) e = cc
  same-key (Key.Rollup a ps) (Key.Recursive h q U) e = cc
  same-key (Key.Recursive h p T) (Key.Plain q) e = cc
  same-key (Key.Recursive h p T) (Key.Rollup b qs) e = cc

  same-keys_of : (p q : Keys) → keys_same p q ≡ true → p ≡ q
  same-keys_of Keys.NoKeys Keys.NoKeys e = refl
  same-keys_of (Keys.MoreKeys k ks) (Keys.MoreKeys k' ks') e = let x = and_parts (key_same k k') _ e in λ i. Keys.MoreKeys (same-key k k' x.0 i) (same-keys_of ks ks' x.1 i)
  same-keys_of Keys.NoKeys (Keys.MoreKeys k' ks') e = cc
  same-keys_of (Keys.MoreKeys k ks) Keys.NoKeys e = cc

  pub same-steps : (s t : Step) → step_same s t ≡ true → s ≡ t
  same-steps Step.Identity Step.Identity e = refl
  same-steps (Step.Filter a) (Step.Filter b) e = ap Step.Filter (same-exprs a b e)
  same-steps (Step.Compute xs) (Step.Compute ys) e = ap Step.Compute (same_lists named_same same-named xs ys e)
  same-steps (Step.OrderBy xs) (Step.OrderBy ys) e = ap Step.OrderBy (same_lists item_same same-items xs ys e)
  same-steps (Step.Skip n) (Step.Skip k) e = ap Step.Skip (eqb-true n k e)
  same-steps (Step.Top n) (Step.Top k) e = ap Step.Top (eqb-true n k e)
  same-steps (Step.Aggregate xs) (Step.Aggregate ys) e = ap Step.Aggregate (same_lists agg_same same-aggs xs ys e)
  same-steps (Step.GroupBy ks T) (Step.GroupBy ks' U) e = let x = and_parts (keys_same ks ks') _ e in λ i. Step.GroupBy (same-keys_of ks ks' x.0 i) (same-inner T U x.1 i)
  same-steps (Step.Concat ps) (Step.Concat qs) e = ap Step.Concat (same-branches ps qs e)
  same-steps (Step.Join o n a T) (Step.Join o' n' a' U) e =
      let x = and_4 (same_bool o o') (same_text n n') (same_text a a') (inner_same T U) e in
      λ i. Step.Join (same-bool o o' x.0 i) (same_texts n n' x.1 i) (same_texts a a' x.2 i) (same-inner T U x.3 i)
  same-steps (Step.TopBy t) (Step.TopBy u) e =
      let x = and_3 (same_bool t.bottom u.bottom) (limit_same t.limit u.limit) (expr_same t.expr u.expr) e in
      λ i. Step.TopBy (record { bottom = same-bool t.bottom u.bottom x.0 i; limit = same-limits t.limit u.limit x.1 i; expr = same-exprs t.expr u.expr x.2 i })
  same-steps (Step.Climb u h p T d k) (Step.Climb u' h' p' T' d' k') e =
      let y = and_3 (same_bool u u' && hier_same h h' && same_path p p' && pipe_same T T') (option_same (λ a b. a == b) d d') (same_bool k k') e in
      let x = and_4 (same_bool u u') (hier_same h h') (same_path p p') (pipe_same T T') y.0 in
      λ i. Step.Climb (same-bool u u' x.0 i) (same-hiers h h' x.1 i) (same_paths p p' x.2 i) (same-pipes T T' x.3 i) (same-options d d' y.1 i) (same-bool k k' y.2 i)
  same-steps (Step.Traverse t) (Step.Traverse u) e =
      let x = and_4 (hier_same t.hier u.hier) (same_path t.path u.path) (same_bool t.post u.post) (pointwise item_same t.items u.items) e in
      λ i. Step.Traverse (record { hier = same-hiers t.hier u.hier x.0 i; path = same_paths t.path u.path x.1 i; post = same-bool t.post u.post x.2 i; items = same_lists item_same same-items t.items u.items x.3 i })
  same-steps _ _ e = cc

-- ---- branches that begin with one step

-- all branches begin with the step
abbrev pub Begin : Step → Pipes → Bool
Begin x ps = list_all (λ p. is_some_and (step_same x) (slice_get (steps p) 0)) (branches ps)

-- the rest of a branch as a pipeline of its own
abbrev pub rest : Pipe → Pipe
rest p = pipe_or_identity (drop 1 (steps p))
