-- Where a filter comes out in the pipeline inside a join, a grouping or a climb, it comes out in that of what the walk by all rules makes, and the walks of both come to the same.
use Rattle.std.proofs.Common.{◌≡◌, refl, sym, ◌∙◌, ap, subst, ℕ, zero, suc, Bool, true, false, ◌&&◌, List, [], ◌∷◌, ◌++◌, Option, Some, None, IsTrue, append-nil, append_assoc, map, Contains, inl, inr, if◌then◌else◌}
use Rattle.std.specs.Prelude.{option_and_then, unwrap_or}
use Rattle.edm_values.specs.Lists.{is_some_and}
use Rattle.edm_values.specs.Literals.{is_boolean_kind}
use Rattle.edm_values.specs.declared.EdmType.{EdmType}
use Rattle.edm_values.proofs.EachLemmas.{Each}
use Rattle.edm_values.proofs.OptionFacts.{none_or, some_and, some_value, then_some-parts}
use Rattle.std.specs.Bool.{then_some}
use Rattle.edm_model.specs.Models.{Model}
use Rattle.apply_ast.specs.Trees.{Expr, Pipe, Step, TopStep, pipe, steps}
use Rattle.apply_ast.specs.declared.expressions.BinOp.TheVariants as BinOp
use Rattle.context_typing.specs.Outcomes.{Outcome, outcome}
use Rattle.context_typing.specs.Shapes.{Shape}
use Rattle.context_typing.specs.Typing.{Customs, after, binary_kind, customs_typed, expr_kind, has_kind, is_lawful, is_null_literal, is_quiet, is_sure, null_comparison, step_quiet, step_shape, steps_shape}
use Rattle.context_typing.proofs.WalkFacts.{pipe-steps, shape-append, steps-pipe}
use Rattle.rewrite_laws.specs.RewriteLaws.{IsTypedFrom}
use Rattle.rewrite_laws.specs.Rewrites.{IsRewrite, Rule, factor_branches, first_rewrite, pipe_or_identity, rewrites, rules}
use Rattle.rewrite_laws.proofs.EachPlace.{typed_first}
use Rattle.rewrite_laws.proofs.OneOutcome.{rules_keep_outcome}
use Rattle.rewrite_laws.proofs.PlanMeaning.{find_map-from, first-contains}
use Rattle.rewrite_laws.proofs.RuleLemmas.{after-filter}
use Rattle.walk_laws.specs.WalkLaws.{next_by}
use Rattle.walk_laws.specs.Walks.{All, Segment, Test, all_steps, front, joined_count, is_order, judged, parts, put_filters, put_steps, put_test, put_tests, rules_of, segment, settled_step, shape_behind, step_enters, step_lets, step_passed, taken_as, tests_passed, walk, whole}
use Rattle.walk_laws.proofs.GivenPlaces.{filters_of}
use Rattle.walk_laws.proofs.HeldFamilies.{Family, held, fronted, steps-family}
use Rattle.walk_laws.proofs.Holes.{Hole, IsThere, Quiet, around, ending, filled, hole-count, hole-enters, hole-lets, hole-order, hole-passed, hole-put, hole-settled, hole-shape, hole-typed, inside, into}
use Rattle.walk_laws.proofs.IdleWalk.{idle-walk}
use Rattle.walk_laws.proofs.OutKeeps.{at-factor, deep-rewrite, deep-typed, lawful-behind, typed-behind}
use Rattle.walk_laws.proofs.OutPlaces.{Deep, Within}
use Rattle.walk_laws.proofs.OutWalk.{AreTyped, again, again-steps, deep-more, entered', entered-put, inside-walk, long-list, long-with, out-walk, put-append, with-typed, with_filters}
use Rattle.walk_laws.proofs.SegmentTails.{steps-append}
use Rattle.walk_laws.proofs.Unsplit.{nothing-parts}
use Rattle.walk_laws.proofs.WalkEnd.{AtRest, begins_here, not-idle, own, rest-behind, step-kept}
use Rattle.walk_laws.proofs.WalkKept.{pipe_rest, step_rest}
use Rattle.walk_laws.proofs.WalkPlaces.{behind-typed}
use Rattle.walk_laws.proofs.WalkPlan.{found-none, next-typed, nothing, rules-within, walked}
use Rattle.walk_laws.proofs.WalkPuts.{one-step}

-- what holds of the elements of two lists one behind the other
each-parts : {X : Type 0} (P : X → Type 0) (xs ys : List X) → Each P (xs ++ ys) → Each P xs × Each P ys
each-parts P [] ys k = (tt, k)
each-parts P (x ∷ xs) ys k = let t = each-parts P xs ys k.1 in ((k.0, t.0), t.1)

-- what stands around a pipeline stays there
around-there : (m : Model) (c : Customs) (S : Shape) (h : Hole) (es : List Expr) → IsThere m S h → IsThere m S (around m c S h es)
around-there m c S (Hole.Related outer n a v) es k = k
around-there m c S (Hole.Grouped ks) es k = refl
around-there m c S (Hole.Chosen left h x f right T) es k = k
around-there m c S (Hole.Climbed up h x d keep) es k = refl

around-inside : (m : Model) (c : Customs) (S : Shape) (h : Hole) (es : List Expr) → inside S (around m c S h es) ≡ inside S h
around-inside m c S (Hole.Related outer n a v) es = refl
around-inside m c S (Hole.Grouped ks) es = refl
around-inside m c S (Hole.Chosen left h x f right T) es = refl
around-inside m c S (Hole.Climbed up h x d keep) es = refl

around-ending : (m : Model) (c : Customs) (S : Shape) (h : Hole) (es : List Expr) (gs : List Segment) → ending (around m c S h es) gs ≡ ending h gs
around-ending m c S (Hole.Related outer n a v) es gs = refl
around-ending m c S (Hole.Grouped ks) es gs = refl
around-ending m c S (Hole.Chosen left h x f right T) es gs = refl
around-ending m c S (Hole.Climbed up h x d keep) es gs = refl

module _ (m : Model) (c : Customs) where
  -- ---- quiet

  -- what a rule makes is as quiet
  rewrite-quiet : (r : Rule) → Contains rules r → (S S' : Shape) (p q : Pipe) → IsTypedFrom m c S S' p → IsTypedFrom m c S S' q → IsRewrite r m c S p q → is_quiet m c S q ≡ is_quiet m c S p
  rewrite-quiet r k S S' p q t u e =
      let same : ◌≡◌ {A = Option Outcome} (outcome (Some S') (is_quiet m c S q)) (outcome (Some S') (is_quiet m c S p)) =
      sym (ap (λ o. outcome o (is_quiet m c S q)) u.typed.1) ∙ rules_keep_outcome r k m c S S' p q t e ∙ ap (λ o. outcome o (is_quiet m c S p)) t.typed.1 in
      ap (λ (o : Outcome). o.quiet) (some_value same)

  next-quiet : (S S' : Shape) (p q : Pipe) → IsTypedFrom m c S S' p → next_by All m c S p ≡ Some q → is_quiet m c S q ≡ is_quiet m c S p
  next-quiet S S' p q t e =
      let x = find_map-from (λ r. first_rewrite r m c S p) (rules_of All) q e in
      rewrite-quiet x.0 (rules-within All x.0 x.1) S S' p q t (next-typed All m c S S' p t q e) (first-contains (rewrites x.0 m c S p) q x.2)

  quiet-again : (S S' : Shape) (p : Pipe) → IsTypedFrom m c S S' p → is_quiet m c S (walk All m c S p) ≡ is_quiet m c S p
  quiet-again S S' p t = walked All m c S S' (λ p q. is_quiet m c S q ≡ is_quiet m c S p) (λ p t e. refl) (λ p q r t e h. h ∙ next-quiet S S' p q t e) p t

  -- ---- what no rule of the walk makes anything of

  record IsRested (S S' : Shape) (q : Pipe) : Type 0 where
    typed : IsTypedFrom m c S S' q
    rest : AtRest All m c S false q

  rested : (S S' : Shape) (p : Pipe) → IsTypedFrom m c S S' p → IsRested S S' (walk All m c S p)
  rested S S' p t =
      walked All m c S S' (λ p q. IsRested S S' q)
      (λ p t e. record { typed = t; rest = λ r k. nothing All m c S S' p t r (rules-within All r k) (found-none (λ r. first_rewrite r m c S p) (rules_of All) e r k) }) (λ p q r t e h. h) p t

  -- filters lead to no other shape
  filters-shape : (ts : List Test) (T : Shape) → shape_behind m c T (pipe (filters_of ts)) ≡ T
  filters-shape [] T = refl
  filters-shape (t ∷ ts) T = ap (λ U. shape_behind m c U (pipe (filters_of ts))) (after-filter m c T t.expr) ∙ filters-shape ts T

  -- what stands behind filters is at rest too
  rest-filters : (ts : List Test) (T : Shape) (b : Bool) (s : Step) (zs : List Step) → AtRest All m c T b (pipe (filters_of ts ++ s ∷ zs)) → (z : Bool) × AtRest All m c T z (pipe (s ∷ zs))
  rest-filters [] T b s zs rest = (b, rest)
  rest-filters (t ∷ ts) T b s zs rest =
      rest-filters ts T true s zs (subst (λ U. AtRest All m c U true (pipe (filters_of ts ++ s ∷ zs))) (after-filter m c T t.expr) (rest-behind All m c T b (Step.Filter t.expr) (pipe (filters_of ts ++ s ∷ zs)) rest))

  -- such a step at rest, with what is behind it, is put as it stands, whatever stands before it
  hole-kept : (T S' : Shape) (h : Hole) (x : Pipe) (zs : List Step) (z : Bool) (gs : List Segment) → steps_shape m c T (pipe (filled h x ∷ zs)) ≡ Some S' → AtRest All m c T z (pipe (filled h x ∷ zs))
      → all_steps (put_steps All m c T (pipe (filled h x ∷ zs)) gs) ≡ all_steps gs ++ filled h x ∷ zs
  hole-kept T S' h x zs z gs e rest =
      let s = filled h x in
      let q = pipe zs in
      let t = typed_first m c T S' s q e in
      let U = after m c T s in
      let more = rest-behind All m c T z s q rest in
      step-kept All m c T s q gs (hole-put m c h T x (settled_step All m c T s) gs)
      (step_rest All m c s T U t.0 (λ r k. (nothing-parts r m c T z s q (rest r k)).1) (z, steps q, λ r k. (nothing-parts r m c T z s q (rest r k)).0))
      (pipe_rest All m c q U S' true (own All m c T s) gs t.1 more (not-idle All m c U q more) (inr (begins_here All m c T z s q rest)))
      ∙ ap (λ l. all_steps gs ++ s ∷ l) (steps-pipe zs)

  -- ---- the segment of a join, a grouping or a climb

  -- the pipeline inside, settled: once filters have gone to its end, or without them
  abbrev Entering : Hole → Shape → List Expr → Pipe → Pipe
  Entering h T es p = whole (ending h (put_filters m (shape_behind m c (inside T h) p) (into h es) (put_steps All m c (inside T h) p front)))

  abbrev Settled : Hole → Shape → Pipe → Pipe
  Settled h U p = whole (ending h (put_steps All m c U p front))

  entering-settled : (h : Hole) (T : Shape) (es : List Expr) (p : Pipe) → Entering h T es p ≡ Settled h (inside T h) (with_filters m c p (into h es))
  entering-settled h T es p = ap (λ gs. whole (ending h gs)) (entered-put m c (inside T h) p (into h es))

  hole-begins : (T : Shape) (h : Hole) (x q : Pipe) (gs : List Segment) → IsThere m T h
      → put_steps All m c T (Pipe.Then (filled h x) q) gs ≡ put_steps All m c (after m c T (filled h x)) q (held (step_lets m c T (filled h x)) (step_passed All (filled h x)) (step_enters All m c T (filled h x)) (λ es. filled (around m c T h es) (Entering h T es x)) [] [] ∷ gs)
  hole-begins T h x q gs there =
      one-step All m c T (filled h x) q gs
      ∙ ap (put_steps All m c (after m c T (filled h x)) q) (hole-put m c h T x (settled_step All m c T (filled h x)) gs
      ∙ (λ i. record { lets = step_lets m c T (filled h x); passes = step_passed All (filled h x); enters = step_enters All m c T (filled h x); head = λ es. Some (hole-settled m c h T x es there i); tests = [] } ∷ gs))

  -- it does not hang on whether the pipeline inside has been walked
  again-hole : (T R : Shape) (h : Hole) (x q : Pipe) (gs : List Segment) → IsThere m T h → IsTypedFrom m c (inside T h) R x → put_steps All m c T (Pipe.Then (filled h (walk All m c (inside T h) x)) q) gs ≡ put_steps All m c T (Pipe.Then (filled h x) q) gs
  again-hole T R h x q gs there t =
      let U = inside T h in
      let w = walk All m c U x in
      let k = again m c U R x t in
      let quiet = quiet-again U R x t in
      hole-begins T h w q gs there
      ∙ (λ i.
      put_steps All m c (unwrap_or (hole-shape m c h T R x w there t k.typed i) T) q
      (held (hole-lets m c h T x w there quiet i) (hole-passed m c h x w i) (hole-enters m c h T R x w there t k.typed quiet i) (λ es. filled (around m c T h es) (whole (ending h (put_filters m (k.shape i) (into h es) (k.put front i))))) [] [] ∷ gs))
      ∙ sym (hole-begins T h x q gs there)

  -- nor on whether that of a climb has been settled
  again-climb : (T T' : Shape) (h : Hole) (x q : Pipe) (gs : List Segment) → IsThere m T h → IsTrue (customs_typed m c) → IsTrue (is_lawful m T) → step_shape m c T (filled h x) ≡ Some T'
      → put_steps All m c T (Pipe.Then (filled (around m c T h []) (Entering h T [] x)) q) gs ≡ put_steps All m c T (Pipe.Then (filled h x) q) gs
  unfolding steps_shape put_steps
  again-climb T T' h x q gs there k l e =
      let one = pipe (filled h x ∷ []) in
      let made = pipe (filled (around m c T h []) (Entering h T [] x) ∷ []) in
      let walked' : walk All m c T one ≡ made = ap whole (hole-begins T h x Pipe.End front there) in
      let a = again m c T T' one (record { customs = k; lawful = l; typed = (refl, ap (option_and_then (λ (V : Shape). Some V)) e) }) in
      λ i. put_steps All m c ((sym (ap (shape_behind m c T) walked') ∙ a.shape) i) q ((sym (ap (λ p. put_steps All m c T p gs) walked') ∙ a.put gs) i)

  again-settled : (T T' R : Shape) (h : Hole) (x q : Pipe) (gs : List Segment) → IsThere m T h → step_shape m c T (filled h x) ≡ Some T' → IsTrue (is_lawful m T) → IsTypedFrom m c (inside T h) R x
      → put_steps All m c T (Pipe.Then (filled h (Settled h (inside T h) x)) q) gs ≡ put_steps All m c T (Pipe.Then (filled h x) q) gs
  again-settled T T' R (Hole.Related outer n a v) x q gs there e l t = again-hole T R (Hole.Related outer n a v) x q gs there t
  again-settled T T' R (Hole.Grouped ks) x q gs there e l t = again-hole T R (Hole.Grouped ks) x q gs there t
  again-settled T T' R (Hole.Chosen left h y f right W) x q gs there e l t = again-hole T R (Hole.Chosen left h y f right W) x q gs there t
  again-settled T T' R (Hole.Climbed up h y d keep) x q gs there e l t = again-climb T T' (Hole.Climbed up h y d keep) x q gs there t.customs l e

  -- where a filter comes out in the walk, it comes out in the pipeline inside, settled
  settled-walk : (n : ℕ) (h : Hole) (U R : Shape) (w now u : Pipe) → IsTypedFrom m c U R w → IsTypedFrom m c U R now → Deep m c n U (walk All m c U w) u → walk All m c U u ≡ walk All m c U now
      → (v : Pipe) × Deep m c n U (Settled h U w) v × (Settled h U v ≡ Settled h U now)
  settled-walk n (Hole.Related outer n' a v) U R w now u t z o e = (u, o, e)
  settled-walk n (Hole.Grouped ks) U R w now u t z o e = (u, o, e)
  settled-walk n (Hole.Chosen left h y f right W) U R w now u t z o e = (u, o, e)
  settled-walk n (Hole.Climbed up h x d keep) U R w now u t z o e = idle-walk m c n x U R w now u t z o e

  module _ (T R : Shape) (h : Hole) (there : IsThere m T h) (d : Pipe) (begun : IsTypedFrom m c (inside T h) R d) where
    -- pipelines that may stand inside in place of one: typed and quiet as it
    record Alike : Type 0 where
      pipe' : Pipe
      typed : IsTypedFrom m c (inside T h) R pipe'
      quiet : Quiet m c h T d pipe'

    shape' : (x : Alike) → step_shape m c T (filled h x.pipe') ≡ step_shape m c T (filled h d)
    shape' x = hole-shape m c h T R d x.pipe' there begun x.typed

    abbrev f : Alike → List Expr → Step
    f x es = filled (around m c T h es) (Entering h T es x.pipe')

    order : (x : Alike) (es : List Expr) → is_order (Some (f x es)) ≡ false
    order x es = hole-order (around m c T h es) (Entering h T es x.pipe')

    count : (x : Alike) (es : List Expr) (t : TopStep) → joined_count (Some (f x es)) t ≡ None
    count x es t = hole-count (around m c T h es) (Entering h T es x.pipe') t

    abbrev passes' : Test → Bool
    passes' = step_passed All (filled h d)

    abbrev enters' : Test → Option Expr
    enters' = step_enters All m c T (filled h d)

    -- what the walk makes of it and the steps behind it
    family : (zs : List Step) → Family f passes' enters' order count (λ x. put_steps All m c T (pipe (filled h x.pipe' ∷ zs)) front)
    family zs =
        let V = after m c T (filled h d) in
        let start = step_lets m c T (filled h d) in
        let k = steps-family f passes' enters' order count m c V (pipe zs) (λ x. held start passes' enters' (f x) [] [] ∷ front) (record { before = []; lets = start; exprs = []; tests = []; ahead = []; is = λ x. refl }) in
        record {
          before = k.before;
          lets = k.lets;
          exprs = k.exprs;
          tests = k.tests;
          ahead = k.ahead;
          is = λ x.
              hole-begins T h x.pipe' (pipe zs) front there
              ∙ (λ i. put_steps All m c (unwrap_or (shape' x i) T) (pipe zs) (held (hole-lets m c h T d x.pipe' there x.quiet i) (hole-passed m c h d x.pipe' i) (hole-enters m c h T R d x.pipe' there begun x.typed x.quiet i) (f x) [] [] ∷ front))
              ∙ k.is x;
        }

    family-walk : (zs : List Step) (k : Family f passes' enters' order count (λ x. put_steps All m c T (pipe (filled h x.pipe' ∷ zs)) front)) (x : Alike)
        → walk All m c T (pipe (filled h x.pipe' ∷ zs)) ≡ pipe (filters_of k.ahead ++ f x k.exprs ∷ (filters_of k.tests ++ all_steps k.before))
    family-walk zs k x =
        ap whole (k.is x)
        ∙ ap pipe_or_identity (
        steps-append k.before (held k.lets passes' enters' (f x) k.exprs k.tests ∷ fronted k.ahead)
        ∙ append_assoc (filters_of k.ahead) (f x (k.exprs ++ []) ∷ filters_of k.tests) (all_steps k.before)
        ∙ ap (λ es. filters_of k.ahead ++ f x es ∷ (filters_of k.tests ++ all_steps k.before)) (append-nil k.exprs))
        ∙ long-list (filters_of k.ahead) (f x k.exprs) (filters_of k.tests ++ all_steps k.before)

  -- ---- filters that have gone inside are typed there

  not-null : (R : Shape) (e : Expr) (k : EdmType) → expr_kind m R e ≡ Some k → is_null_literal e ≡ false
  not-null R Expr.Null k h = none_or k h
  not-null R e k h = refl

  and-typed : (R : Shape) (a b : Expr) → has_kind is_boolean_kind m R a ≡ true → has_kind is_boolean_kind m R b ≡ true → has_kind is_boolean_kind m R (Expr.Binary BinOp.And a b) ≡ true
  and-typed R a b p q =
      let x = some_and is_boolean_kind (expr_kind m R a) p in
      let y = some_and is_boolean_kind (expr_kind m R b) q in
      let F : Bool → Bool → Option EdmType → Option EdmType → Bool = λ n k u v.
      is_some_and is_boolean_kind (if n then null_comparison BinOp.And k v else (if k then null_comparison BinOp.And false u else option_and_then (λ x. option_and_then (λ y. binary_kind BinOp.And x y) v) u)) in
      (λ i. F (not-null R a x.0 x.1 i) (not-null R b y.0 y.1 i) (x.1 i) (y.1 i))
      ∙ ap (λ z. is_some_and is_boolean_kind (then_some z EdmType.Bool)) (λ i. x.2 i && y.2 i)

  abbrev IsFilter : Shape → Expr → Type 0
  IsFilter R e = has_kind is_boolean_kind m R e ≡ true

  parts-typed : (e : Expr) (R : Shape) → Each (IsFilter R) (parts m R e) → IsFilter R e
  parts-typed (Expr.Binary BinOp.And a b) R h = go (is_sure m R b) h (parts-typed a R) (parts-typed b R)
    where
      go : (z : Bool) → Each (IsFilter R) (if z then parts m R a ++ parts m R b else Expr.Binary BinOp.And a b ∷ []) → (Each (IsFilter R) (parts m R a) → IsFilter R a) → (Each (IsFilter R) (parts m R b) → IsFilter R b) → IsFilter R (Expr.Binary BinOp.And a b)
      go true h f g = let t = each-parts (IsFilter R) (parts m R a) (parts m R b) h in and-typed R a b (f t.0) (g t.1)
      go false h f g = h.0
  parts-typed (Expr.Bool' true) R h = refl
  parts-typed e R h = h.0

  -- a step that stops filters, behind others
  abbrev stopped : Pipe → Pipe
  stopped p = pipe (steps p ++ Step.Skip 0 ∷ [])

  stopped-typed : (U R : Shape) (p : Pipe) → IsTypedFrom m c U R p → IsTypedFrom m c U R (stopped p)
  unfolding steps_shape
  stopped-typed U R p t = record {
    customs = t.customs;
    lawful = t.lawful;
    typed = (
      long-with m c p (Step.Skip 0 ∷ []) t.typed.0,
      shape-append m c U (steps p) (Step.Skip 0 ∷ []) ∙ ap (option_and_then (λ Z. steps_shape m c Z (pipe (Step.Skip 0 ∷ [])))) (ap (steps_shape m c U) (pipe-steps p) ∙ t.typed.1),
    );
  }

  stopped-quiet : (p : Pipe) (U : Shape) → is_quiet m c U (stopped p) ≡ is_quiet m c U p
  unfolding is_quiet
  stopped-quiet Pipe.End U = refl
  stopped-quiet (Pipe.Then s p) U = ap (λ z. step_quiet m c U s && z) (stopped-quiet p (after m c U s))

  -- its segment, with filters behind it
  abbrev stop : Shape → List Test → Segment
  stop R ts = record (segment All m c R (Step.Skip 0) (settled_step All m c R (Step.Skip 0))) { tests = ts }

  stop-takes : (R : Shape) (t : Test) (ts : List Test) (gs : List Segment) → put_test t (stop R ts ∷ gs) ≡ stop R (ts ++ (t ∷ [])) ∷ gs
  stop-takes R t ts gs = go (tests_passed ts t)
    where
      go : (z : Bool) → (if z && false && false then stop R ts ∷ put_test t gs else taken_as (stop R ts) t (if z then None else None) ∷ gs) ≡ stop R (ts ++ (t ∷ [])) ∷ gs
      go true = refl
      go false = refl

  abbrev stop_tests : List Test → List Test → List Test
  stop_tests ts [] = ts
  stop_tests ts (u ∷ us) = stop_tests (ts ++ (u ∷ [])) us

  stops-tests : (R : Shape) (us ts : List Test) (gs : List Segment) → put_tests us (stop R ts ∷ gs) ≡ stop R (stop_tests ts us) ∷ gs
  stops-tests R [] ts gs = refl
  stops-tests R (u ∷ us) ts gs = ap (put_tests us) (stop-takes R u ts gs) ∙ stops-tests R us (ts ++ (u ∷ [])) gs

  abbrev stop_filters : Shape → List Test → List Expr → List Test
  stop_filters R ts [] = ts
  stop_filters R ts (e ∷ es) = stop_filters R (stop_tests ts (map (judged m R) (parts m R e))) es

  stops-filters : (R : Shape) (es : List Expr) (ts : List Test) (gs : List Segment) → put_filters m R es (stop R ts ∷ gs) ≡ stop R (stop_filters R ts es) ∷ gs
  stops-filters R [] ts gs = refl
  stops-filters R (e ∷ es) ts gs = ap (put_filters m R es) (stops-tests R (map (judged m R) (parts m R e)) ts gs) ∙ stops-filters R es (stop_tests ts (map (judged m R) (parts m R e))) gs

  abbrev IsTest : Shape → Test → Type 0
  IsTest R t = IsFilter R t.expr

  tests-typed : (R : Shape) (xs : List Expr) (ts : List Test) → Each (IsTest R) (stop_tests ts (map (judged m R) xs)) → Each (IsTest R) ts × Each (IsFilter R) xs
  tests-typed R [] ts h = (h, tt)
  tests-typed R (x ∷ xs) ts h =
      let t = tests-typed R xs (ts ++ (judged m R x ∷ [])) h in
      let u = each-parts (IsTest R) ts (judged m R x ∷ []) t.0 in
      (u.0, (u.1.0, t.1))

  step-filter : (R : Shape) (e : Expr) → IsFilter R e → step_shape m c R (Step.Filter e) ≡ Some R
  unfolding steps_shape
  step-filter R e h = ap (λ z. then_some z R) h

  filters-typed : (R : Shape) (es : List Expr) (ts : List Test) → Each (IsTest R) (stop_filters R ts es) → Each (IsTest R) ts × AreTyped m c R es
  filters-typed R [] ts h = (h, tt)
  filters-typed R (e ∷ es) ts h =
      let t = filters-typed R es (stop_tests ts (map (judged m R) (parts m R e))) h in
      let u = tests-typed R (parts m R e) ts t.0 in
      (u.0, (step-filter R e (parts-typed e R u.1), t.1))

  -- filters that stand in a typed pipeline are typed
  stand-typed : (ts : List Test) (R X : Shape) → steps_shape m c R (pipe (filters_of ts)) ≡ Some X → Each (IsTest R) ts
  unfolding steps_shape
  stand-typed [] R X e = tt
  stand-typed (t ∷ ts) R X e =
      let x = typed_first m c R X (Step.Filter t.expr) (pipe (filters_of ts)) e in
      ((then_some-parts (has_kind is_boolean_kind m R t.expr) R (after m c R (Step.Filter t.expr)) x.0).0, stand-typed ts R X (ap (λ U. steps_shape m c U (pipe (filters_of ts))) (sym (after-filter m c R t.expr)) ∙ x.1))

  entered-typed : (U R X : Shape) (p : Pipe) (es : List Expr) → IsTypedFrom m c U R p → IsTypedFrom m c U X (entered' m c U es (stopped p)) → AreTyped m c R es
  unfolding put_steps steps_shape
  entered-typed U R X p es t x = (filters-typed R es [] (stand-typed vs R X behind')).1
    where
      gs : List Segment
      gs = put_steps All m c U (pipe (steps p)) front

      vs : List Test
      vs = stop_filters R [] es

      typed' : steps_shape m c U (pipe (steps p)) ≡ Some R
      typed' = ap (steps_shape m c U) (pipe-steps p) ∙ t.typed.1

      put : put_steps All m c U (stopped p) front ≡ stop R [] ∷ gs
      put = put-append m c U (steps p) (Step.Skip 0 ∷ []) front ∙ ap (λ V. put_steps All m c V (pipe (Step.Skip 0 ∷ [])) gs) (behind-typed m c U R (pipe (steps p)) typed')

      made : entered' m c U es (stopped p) ≡ pipe (all_steps gs ++ Step.Skip 0 ∷ filters_of vs)
      made =
          (λ i. whole (put_filters m (behind-typed m c U R (stopped p) (stopped-typed U R p t).typed.1 i) es (put i)))
          ∙ ap whole (stops-filters R es [] gs) ∙ long-list (all_steps gs) (Step.Skip 0) (filters_of vs)

      at : steps_shape m c (shape_behind m c U (pipe (all_steps gs))) (pipe (Step.Skip 0 ∷ filters_of vs)) ≡ Some X
      at = (typed-behind m c (all_steps gs) (Step.Skip 0 ∷ filters_of vs) U X (sym (ap (steps_shape m c U) made) ∙ x.typed.1)).1

      behind' : steps_shape m c R (pipe (filters_of vs)) ≡ Some X
      behind' = ap (λ V. steps_shape m c V (pipe (Step.Skip 0 ∷ filters_of vs))) (sym (again-steps m c U R (steps p) t.customs t.lawful typed').1) ∙ at

  -- so are those that have gone into the pipeline inside
  entering-typed : (h : Hole) (T R X : Shape) (p : Pipe) (es : List Expr) → IsTypedFrom m c (inside T h) R p → IsTypedFrom m c (inside T h) X (Entering h T es (stopped p)) → AreTyped m c R (into h es)
  entering-typed (Hole.Related outer n a v) T R X p es t x = entered-typed (inside T (Hole.Related outer n a v)) R X p es t x
  entering-typed (Hole.Grouped ks) T R X p es t x = tt
  entering-typed (Hole.Chosen left h y f right W) T R X p es t x = entered-typed (inside T (Hole.Chosen left h y f right W)) R X p es t x
  entering-typed (Hole.Climbed up h y d keep) T R X p es t x = tt

  -- ---- the walks

  module _ (n : ℕ) (ih : (T R : Shape) (p y : Pipe) → IsTypedFrom m c T R p → Deep m c n T p y → (u : Pipe) × Deep m c n T (walk All m c T p) u × (walk All m c T u ≡ walk All m c T y)) where
    within-walk : (S S' : Shape) (p y : Pipe) → IsTypedFrom m c S S' p → Within m c (Deep m c n) S p y → (u : Pipe) × Within m c (Deep m c n) S (walk All m c S p) u × (walk All m c S u ≡ walk All m c S y)
    unfolding steps_shape
    within-walk S S' p y t o = (made, out, same)
      where
        A : List Step
        A = o.ahead

        h : Hole
        h = o.hole

        zs : List Step
        zs = o.behind

        T : Shape
        T = shape_behind m c S (pipe A)

        U : Shape
        U = inside T h

        at : (steps_shape m c S (pipe A) ≡ Some T) × (steps_shape m c T (pipe (filled h o.was ∷ zs)) ≡ Some S')
        at = typed-behind m c A (filled h o.was ∷ zs) S S' (sym (ap (steps_shape m c S) o.from) ∙ t.typed.1)

        law : IsTrue (is_lawful m T)
        law = lawful-behind m c A S T t.lawful at.0

        was' : (R : Shape) × IsTypedFrom m c U R o.was
        was' = hole-typed m c h T (after m c T (filled h o.was)) o.was o.there t.customs law (typed_first m c T S' (filled h o.was) (pipe zs) at.1).0

        R : Shape
        R = was'.0

        now' : IsTypedFrom m c U R o.now
        now' = deep-typed m c n U R o.was o.now was'.1 o.within

        Of : Type 0
        Of = Alike T R h o.there o.was was'.1

        of : (x : Pipe) → IsTypedFrom m c U R x → is_quiet m c U x ≡ is_quiet m c U o.was → Of
        of x u q = record { pipe' = x; typed = u; quiet = q }

        one : Of
        one = of o.was was'.1 refl

        two : Of
        two = of o.now now' (rewrite-quiet factor_branches at-factor U R o.was o.now was'.1 now' (deep-rewrite m c n U R o.was o.now was'.1 o.within))

        probe : Of
        probe = of (stopped o.was) (stopped-typed U R o.was was'.1) (stopped-quiet o.was U)

        k : Family (f T R h o.there o.was was'.1) (passes' T R h o.there o.was was'.1) (enters' T R h o.there o.was was'.1) (order T R h o.there o.was was'.1) (count T R h o.there o.was was'.1) (λ x. put_steps All m c T (pipe (filled h x.pipe' ∷ zs)) front)
        k = family T R h o.there o.was was'.1 zs

        F : List Step
        F = filters_of k.ahead

        Z : List Step
        Z = filters_of k.tests ++ all_steps k.before

        h' : Hole
        h' = around m c T h k.exprs

        es : List Expr
        es = into h k.exprs

        s : Of → Step
        s x = filled h' (Entering h T k.exprs x.pipe')

        W : Of → Pipe
        W x = pipe (filled h x.pipe' ∷ zs)

        walks : (x : Of) → walk All m c T (W x) ≡ pipe (F ++ s x ∷ Z)
        walks x = family-walk T R h o.there o.was was'.1 zs k x

        typed-W : (x : Of) → IsTypedFrom m c T S' (W x)
        typed-W x = record { customs = t.customs; lawful = law; typed = (refl, ap (option_and_then (λ V. steps_shape m c V (pipe zs))) (shape' T R h o.there o.was was'.1 x) ∙ at.1) }

        rest : (x : Of) → IsRested T S' (pipe (F ++ s x ∷ Z))
        rest x = subst (IsRested T S') (walks x) (rested T S' (W x) (typed-W x))

        shapes : (x : Of) → (steps_shape m c T (pipe F) ≡ Some T) × (steps_shape m c T (pipe (s x ∷ Z)) ≡ Some S')
        shapes x =
            let v = typed-behind m c F (s x ∷ Z) T S' (rest x).typed.typed.1 in
            let e = filters-shape k.ahead T in
            (v.0 ∙ ap (λ V. Some V) e, ap (λ V. steps_shape m c V (pipe (s x ∷ Z))) (sym e) ∙ v.1)

        there' : IsThere m T h'
        there' = around-there m c T h k.exprs o.there

        same-inside : inside T h' ≡ U
        same-inside = around-inside m c T h k.exprs

        -- the steps before it, and the filters that have passed it
        b : List Segment
        b = put_steps All m c S (pipe (A ++ F)) front

        b' : (put_steps All m c S (pipe (all_steps b)) front ≡ b) × (shape_behind m c S (pipe (all_steps b)) ≡ T)
        b' = again-steps m c S T (A ++ F) t.customs t.lawful (shape-append m c S A F ∙ ap (option_and_then (λ V. steps_shape m c V (pipe F))) at.0 ∙ (shapes one).0)

        put-behind : (x : Of) → put_steps All m c S (pipe (A ++ filled h x.pipe' ∷ zs)) front ≡ put_steps All m c T (pipe (s x ∷ Z)) b
        put-behind x =
            let a = put_steps All m c S (pipe A) front in
            put-append m c S A (filled h x.pipe' ∷ zs) front
            ∙ sym ((again m c T S' (W x) (typed-W x)).put a)
            ∙ ap (λ q. put_steps All m c T q a) (walks x)
            ∙ put-append m c T F (s x ∷ Z) a
            ∙ (λ i. put_steps All m c (filters-shape k.ahead T i) (pipe (s x ∷ Z)) (sym (put-append m c S A F front) i))

        typed-es : AreTyped m c R es
        typed-es =
            let x = hole-typed m c h' T (after m c T (s probe)) (Entering h T k.exprs (stopped o.was)) there' t.customs law (typed_first m c T S' (s probe) (pipe Z) (shapes probe).1).0 in
            entering-typed h T R x.0 o.was k.exprs was'.1 (subst (λ V. IsTypedFrom m c V x.0 (Entering h T k.exprs (stopped o.was))) same-inside x.1)

        typed-was : IsTypedFrom m c U R (with_filters m c o.was es)
        typed-was = with-typed m c U R o.was es was'.1 typed-es

        typed-now : IsTypedFrom m c U R (with_filters m c o.now es)
        typed-now = with-typed m c U R o.now es now' typed-es

        v : Pipe
        v = Settled h U (with_filters m c o.was es)

        more : (u : Pipe) × Deep m c n U v u × (Settled h U u ≡ Settled h U (with_filters m c o.now es))
        more =
            let x = ih U R (with_filters m c o.was es) (with_filters m c o.now es) typed-was (deep-more m c n U o.was o.now es o.within) in
            settled-walk n h U R (with_filters m c o.was es) (with_filters m c o.now es) x.0 typed-was typed-now x.1 x.2

        made : Pipe
        made = pipe (all_steps b ++ filled h' more.0 ∷ Z)

        walk-p : walk All m c S p ≡ pipe (all_steps b ++ filled h' v ∷ Z)
        walk-p =
            let z = rest-filters k.ahead T false (s one) Z (rest one).rest in
            ap (λ p. whole (put_steps All m c S p front)) o.from
            ∙ ap whole (put-behind one)
            ∙ ap pipe_or_identity (hole-kept T S' h' (Entering h T k.exprs o.was) Z z.0 b (shapes one).1 z.1)
            ∙ long-list (all_steps b) (s one) Z
            ∙ ap (λ x. pipe (all_steps b ++ filled h' x ∷ Z)) (entering-settled h T k.exprs o.was)

        out : Within m c (Deep m c n) S (walk All m c S p) made
        out = record {
          ahead = all_steps b;
          hole = h';
          was = v;
          now = more.0;
          behind = Z;
          there = subst (λ V. IsThere m V h') (sym b'.1) there';
          from = walk-p;
          into = refl;
          within = subst (λ V. Deep m c n V v more.0) (sym (ap (λ V. inside V h') b'.1 ∙ same-inside)) more.1;
        }

        first : step_shape m c T (s one) ≡ Some (after m c T (s one))
        first = (typed_first m c T S' (s one) (pipe Z) (shapes one).1).0

        -- the pipeline inside
        v' : (X : Shape) × IsTypedFrom m c (inside T h') X (Entering h T k.exprs o.was)
        v' = hole-typed m c h' T (after m c T (s one)) (Entering h T k.exprs o.was) there' t.customs law first

        typed-more : IsTypedFrom m c (inside T h') v'.0 more.0
        typed-more = deep-typed m c n (inside T h') v'.0 (Entering h T k.exprs o.was) more.0 v'.1 (subst (λ V. Deep m c n V (Entering h T k.exprs o.was) more.0) (sym same-inside) (subst (λ z. Deep m c n U z more.0) (sym (entering-settled h T k.exprs o.was)) more.1))

        step-more : step_shape m c T (filled h' more.0) ≡ Some (after m c T (s one))
        step-more = hole-shape m c h' T v'.0 (Entering h T k.exprs o.was) more.0 there' v'.1 typed-more ∙ first

        settled-more : Settled h' (inside T h') more.0 ≡ Entering h T k.exprs o.now
        settled-more = (λ i. whole (around-ending m c T h k.exprs (put_steps All m c (same-inside i) more.0 front) i)) ∙ more.2 ∙ sym (entering-settled h T k.exprs o.now)

        same : walk All m c S made ≡ walk All m c S y
        same =
            ap whole (
            put-append m c S (all_steps b) (filled h' more.0 ∷ Z) front
            ∙ (λ i. put_steps All m c (b'.1 i) (pipe (filled h' more.0 ∷ Z)) (b'.0 i))
            ∙ sym (again-settled T (after m c T (s one)) v'.0 h' more.0 (pipe Z) b there' step-more law typed-more)
            ∙ ap (λ x. put_steps All m c T (pipe (filled h' x ∷ Z)) b) settled-more
            ∙ sym (put-behind two))
            ∙ sym (ap (λ p. whole (put_steps All m c S p front)) o.into)

  pub deep-walk : (n : ℕ) (S S' : Shape) (p y : Pipe) → IsTypedFrom m c S S' p → Deep m c n S p y → (u : Pipe) × Deep m c n S (walk All m c S p) u × (walk All m c S u ≡ walk All m c S y)
  deep-walk zero S S' p y t o = out-walk m c S S' p y t o
  deep-walk (suc n) S S' p y t (inl o) = let x = inside-walk m c n (deep-walk n) S S' p y t o in (x.0, inl x.1, x.2)
  deep-walk (suc n) S S' p y t (inr o) = let x = within-walk n (deep-walk n) S S' p y t o in (x.0, inr x.1, x.2)
