-- Where a filter comes out of a concatenation of a pipeline, it comes out of that of what the walk by all rules makes of it, and the walks of both come to the same.
use Rattle.std.proofs.Common.{◌≡◌, refl, sym, ◌∙◌, ap, subst, ℕ, zero, suc, Bool, true, ◌&&◌, List, [], ◌∷◌, ◌++◌, Option, Some, None, IsTrue, append-nil, map, inl, inr, if◌then◌else◌}
use Rattle.std.specs.Prelude.{option_and_then, slice_get}
use Rattle.std.specs.Bool.{then_some}
use Rattle.std.specs.List.{list_all}
use Rattle.std.proofs.lemmas.Bool.{and_from, and_parts}
use Rattle.std.proofs.lemmas.List.{append_assoc}
use Rattle.edm_values.specs.Lists.{all_some, is_some_and}
use Rattle.edm_values.specs.Literals.{is_boolean_kind}
use Rattle.edm_values.proofs.EachLemmas.{Each, each-append}
use Rattle.edm_values.proofs.OptionFacts.{if_else-parts, then_some-parts}
use Rattle.edm_model.specs.Models.{Model}
use Rattle.apply_ast.specs.Trees.{Expr, Pipe, Pipes, Step, is_long, pipe, steps}
use Rattle.context_typing.specs.Shapes.{Shape}
use Rattle.context_typing.specs.Typing.{Customs, after, concat_shape, customs_typed, has_kind, is_lawful, step_shape, steps_shape}
use Rattle.context_typing.proofs.WalkFacts.{pipe-steps, shape-append, steps-pipe}
use Rattle.rewrite_laws.specs.RewriteLaws.{IsTypedFrom}
use Rattle.rewrite_laws.specs.Rewrites.{branches, pipe_or_identity}
use Rattle.rewrite_laws.specs.TreeEquality.{step_same}
use Rattle.rewrite_laws.proofs.FactorRule.{begins-with, rest-shapes, rests}
use Rattle.rewrite_laws.proofs.SameTrees.{Begin, rest}
use Rattle.walk_laws.specs.Walks.{All, Segment, Test, all_steps, front, parts, put_filter, put_filters, put_selection, put_step, put_steps, put_test, selection, settled_branches, settled_step, shape_behind, step_enters, taken, taken_as, tests_passed, walk, whole, without_orders}
use Rattle.walk_laws.proofs.GivenFilters.{branch-given, given}
use Rattle.walk_laws.proofs.GivenPlaces.{behind-same, concat-counts, concat-orders, concat-put, concat_with, enters-same, filters_of, first-typed, put-concat}
use Rattle.walk_laws.proofs.Holes.{filled}
use Rattle.walk_laws.proofs.OutKeeps.{after-same, branch-typed, deep-typed, lawful-behind, shapes-same, typed-behind}
use Rattle.walk_laws.proofs.OutPlaces.{Deep, Inside, Out, spliced}
use Rattle.walk_laws.proofs.SameItself.{step-self}
use Rattle.walk_laws.proofs.SegmentTails.{SameBefore, StandsApart, steps-append, steps-same}
use Rattle.walk_laws.proofs.WalkPlaces.{behind-typed}
use Rattle.walk_laws.proofs.WalkPlan.{next-alike, walked}
use Rattle.walk_laws.proofs.WalkPuts.{one-filter}

-- ---- concatenations at the ends of two lists

-- concatenations with the same filters behind them, whose branches are of a kind, before two lists
record Ended (Q : (List Expr → Pipes) → (List Expr → Pipes) → Type 0) (E : Test → Option Expr) (X Y a b : List Segment) : Type 0 where
  k1 : List Expr → Pipes
  k2 : List Expr → Pipes
  tests : List Test
  kind : Q k1 k2
  one : a ≡ concat_with E k1 tests ∷ X
  other : b ≡ concat_with E k2 tests ∷ Y

module _ (Q : (List Expr → Pipes) → (List Expr → Pipes) → Type 0) (E : Test → Option Expr) (more : (t : Test) (x : Expr) → E t ≡ Some x → (k1 k2 : List Expr → Pipes) → Q k1 k2 → Q (λ es. k1 (x ∷ es)) (λ es. k2 (x ∷ es))) (X Y : List Segment) where
  ended-apart : StandsApart (Ended Q E X Y)
  ended-apart = record {
    test = λ t a b k.
        let D : List Segment → List Segment → Type 0 = Ended Q E X Y in
        subst (λ z. D z (put_test t b)) (sym (ap (put_test t) k.one ∙ put-concat E k.k1 k.tests t X))
        (subst (D (taken (concat_with E k.k1 k.tests) t ∷ X)) (sym (ap (put_test t) k.other ∙ put-concat E k.k2 k.tests t Y))
        (go t k.k1 k.k2 k.tests k.kind (if tests_passed k.tests t then E t else None) (λ x e. (if_else-parts (tests_passed k.tests t) (E t) x e).1)));
    orders = λ a b k. (ap without_orders k.one ∙ concat-orders E k.k1 k.tests X ∙ sym k.one, ap without_orders k.other ∙ concat-orders E k.k2 k.tests Y ∙ sym k.other);
    counts = λ t a b k. (
      ap (put_selection t) k.one ∙ concat-counts t E k.k1 k.tests X ∙ ap (λ l. selection t ∷ l) (sym k.one),
      ap (put_selection t) k.other ∙ concat-counts t E k.k2 k.tests Y ∙ ap (λ l. selection t ∷ l) (sym k.other),
    );
  }
    where
      go : (t : Test) (k1 k2 : List Expr → Pipes) (ts : List Test) → Q k1 k2 → (o : Option Expr) → ((x : Expr) → o ≡ Some x → E t ≡ Some x) → Ended Q E X Y (taken_as (concat_with E k1 ts) t o ∷ X) (taken_as (concat_with E k2 ts) t o ∷ Y)
      go t k1 k2 ts q None f = record { k1 = k1; k2 = k2; tests = ts ++ (t ∷ []); kind = q; one = refl; other = refl }
      go t k1 k2 ts q (Some x) f = record { k1 = λ es. k1 (x ∷ es); k2 = λ es. k2 (x ∷ es); tests = ts; kind = more t x (f x refl) k1 k2 q; one = refl; other = refl }

-- the same branches
abbrev Same : (List Expr → Pipes) → (List Expr → Pipes) → Type 0
Same k1 k2 = k1 ≡ k2

same-more : (k1 k2 : List Expr → Pipes) (x : Expr) → Same k1 k2 → Same (λ es. k1 (x ∷ es)) (λ es. k2 (x ∷ es))
same-more k1 k2 x e = λ i es. e i (x ∷ es)

-- branches that begin with a filter, and what is behind it
record Led (e : Expr) (k1 k2 : List Expr → Pipes) : Type 0 where
  first : List Expr → Pipe
  others : List Expr → Pipes
  some : (es : List Expr) → k1 es ≡ Pipes.MorePipes (first es) (others es)
  begin : (es : List Expr) → Begin (Step.Filter e) (k1 es) ≡ true
  rests' : (es : List Expr) → rests (k1 es) ≡ k2 es

led-more : (e : Expr) (k1 k2 : List Expr → Pipes) (x : Expr) → Led e k1 k2 → Led e (λ es. k1 (x ∷ es)) (λ es. k2 (x ∷ es))
led-more e k1 k2 x h = record { first = λ es. h.first (x ∷ es); others = λ es. h.others (x ∷ es); some = λ es. h.some (x ∷ es); begin = λ es. h.begin (x ∷ es); rests' = λ es. h.rests' (x ∷ es) }

pub long-list : (xs : List Step) (s : Step) (ts : List Step) → pipe_or_identity (xs ++ s ∷ ts) ≡ pipe (xs ++ s ∷ ts)
long-list [] s ts = refl
long-list (x ∷ xs) s ts = refl

module _ (m : Model) (c : Customs) where
  -- what is before a concatenation stays as it is
  tail-kept : (T : Shape) (B : Pipe) (E : Test → Option Expr) (K : List Expr → Pipes) (X : List Segment) → put_steps All m c T B (concat_with E K [] ∷ X) ≡ put_steps All m c T B (concat_with E K [] ∷ []) ++ X
  tail-kept T B E K X =
      let R : List Segment → List Segment → Type 0 = Ended Same E [] X in
      let k : SameBefore R (put_steps All m c T B (concat_with E K [] ∷ [])) (put_steps All m c T B (concat_with E K [] ∷ X)) =
      steps-same R (ended-apart Same E (λ t x e k1 k2 k. same-more k1 k2 x k) [] X) m c T B (concat_with E K [] ∷ []) (concat_with E K [] ∷ X)
      (record { before = []; one = concat_with E K [] ∷ []; other = concat_with E K [] ∷ X; first = refl; second = refl; differ = record { k1 = K; k2 = K; tests = []; kind = refl; one = refl; other = refl } }) in
      let d = k.differ in
      k.second ∙ ap (λ l. k.before ++ l) (d.other ∙ ap (λ z. concat_with E z d.tests ∷ X) (sym d.kind))
      ∙ sym (append_assoc k.before (concat_with E d.k1 d.tests ∷ []) X)
      ∙ ap (λ l. l ++ X) (sym (k.first ∙ ap (λ l. k.before ++ l) d.one))

  -- the branches of a concatenation from which a filter comes out
  branches-led : (T : Shape) (e : Expr) → parts m T e ≡ e ∷ [] → (ps : Pipes) (es : List Expr) → Begin (Step.Filter e) ps ≡ true
      → (Begin (Step.Filter e) (settled_branches All m c T ps es) ≡ true) × (rests (settled_branches All m c T ps es) ≡ settled_branches All m c T (rests ps) es)
  unfolding put_steps
  branches-led T e one Pipes.NoPipes es h = (refl, refl)
  branches-led T e one (Pipes.MorePipes p ps) es h =
      let t = and_parts (is_some_and (step_same (Step.Filter e)) (slice_get (steps p) 0)) _ h in
      let q = begins-with (Step.Filter e) p t.0 in
      let g = branch-given m c T e one q.0 es in
      let into : given m c T e one p es ≡ Pipe.Then (Step.Filter e) (pipe g.0) = ap (λ p. given m c T e one p es) q.1 ∙ g.1 in
      let more = branches-led T e one ps es t.1 in (
        and_from (is_some_and (step_same (Step.Filter e)) (slice_get (steps (given m c T e one p es)) 0)) _ (ap (λ p. is_some_and (step_same (Step.Filter e)) (slice_get (steps p) 0)) into ∙ step-self (Step.Filter e)) more.0,
        λ i. Pipes.MorePipes ((ap rest into ∙ ap pipe_or_identity (steps-pipe g.0) ∙ sym g.2 ∙ ap (λ l. given m c T e one (pipe_or_identity l) es) (sym q.2)) i) (more.1 i),
      )

  -- ---- steps before and behind

  pub put-append : (S : Shape) (ss ts : List Step) (gs : List Segment) → put_steps All m c S (pipe (ss ++ ts)) gs ≡ put_steps All m c (shape_behind m c S (pipe ss)) (pipe ts) (put_steps All m c S (pipe ss) gs)
  unfolding put_steps
  put-append S [] ts gs = refl
  put-append S (s ∷ ss) ts gs = put-append (after m c S s) ss ts (put_step All m c S s (settled_step All m c S s) gs)

  put-identity : (S : Shape) (l : List Step) (gs : List Segment) → put_steps All m c S (pipe_or_identity l) gs ≡ put_steps All m c S (pipe l) gs
  unfolding put_steps steps_shape
  put-identity S [] gs = refl
  put-identity S (s ∷ l) gs = refl

  behind-identity : (S : Shape) (l : List Step) → shape_behind m c S (pipe_or_identity l) ≡ shape_behind m c S (pipe l)
  unfolding steps_shape
  behind-identity S [] = refl
  behind-identity S (s ∷ l) = refl

  -- what the walk makes is typed and put as the pipeline
  pub record IsAgain (S S' : Shape) (p q : Pipe) : Type 0 where
    pub put : (gs : List Segment) → put_steps All m c S q gs ≡ put_steps All m c S p gs
    pub shape : shape_behind m c S q ≡ shape_behind m c S p
    pub typed : IsTypedFrom m c S S' q

  pub again : (S S' : Shape) (p : Pipe) → IsTypedFrom m c S S' p → IsAgain S S' p (walk All m c S p)
  again S S' p t =
      walked All m c S S' (IsAgain S S')
      (λ p t e. record { put = λ gs. refl; shape = refl; typed = t })
      (λ p q r t e h. let k = next-alike All m c S S' p t q e in record { put = λ gs. h.put gs ∙ k.0 gs; shape = h.shape ∙ k.1; typed = h.typed }) p t

  -- so are steps of which it is made, or none
  pub again-steps : (S T : Shape) (ss : List Step) → IsTrue (customs_typed m c) → IsTrue (is_lawful m S) → steps_shape m c S (pipe ss) ≡ Some T
      → (put_steps All m c S (pipe (all_steps (put_steps All m c S (pipe ss) front))) front ≡ put_steps All m c S (pipe ss) front) × (shape_behind m c S (pipe (all_steps (put_steps All m c S (pipe ss) front))) ≡ T)
  unfolding put_steps steps_shape
  again-steps S T [] k l e = (refl, behind-typed m c S T Pipe.End e)
  again-steps S T (s ∷ ss) k l e =
      let p = pipe (s ∷ ss) in
      let t : IsTypedFrom m c S T p = record { customs = k; lawful = l; typed = (refl, e) } in
      let x = again S T p t in
      let made = all_steps (put_steps All m c S p front) in
      (sym (put-identity S made front) ∙ x.put front, sym (behind-identity S made) ∙ x.shape ∙ behind-typed m c S T p e)

  -- ---- the walks

  pub out-walk : (S S' : Shape) (p y : Pipe) → IsTypedFrom m c S S' p → Out m c S p y → (u : Pipe) × Out m c S (walk All m c S p) u × (walk All m c S u ≡ walk All m c S y)
  unfolding put_steps steps_shape
  out-walk S S' p y t o = (made, out, same)
    where
      A : List Step
      A = o.ahead

      e : Expr
      e = o.expr

      qs : Pipes
      qs = Pipes.MorePipes o.first o.others

      zs : List Step
      zs = o.behind

      T : Shape
      T = shape_behind m c S (pipe A)

      at : (steps_shape m c S (pipe A) ≡ Some T) × (steps_shape m c T (pipe (Step.Concat qs ∷ zs)) ≡ Some S')
      at = typed-behind m c A (Step.Concat qs ∷ zs) S S' (sym (ap (steps_shape m c S) o.from) ∙ t.typed.1)

      typed-filter : step_shape m c T (Step.Filter e) ≡ Some T
      typed-filter = first-typed m c T S' e o.first o.others (pipe zs) at.1 o.begin

      A' : (put_steps All m c S (pipe (all_steps (put_steps All m c S (pipe A) front))) front ≡ put_steps All m c S (pipe A) front) × (shape_behind m c S (pipe (all_steps (put_steps All m c S (pipe A) front))) ≡ T)
      A' = again-steps S T A t.customs t.lawful at.0

      E : Test → Option Expr
      E = step_enters All m c T (Step.Concat qs)

      V : Shape
      V = after m c T (Step.Concat qs)

      a : List Segment
      a = put_steps All m c S (pipe A) front

      k : SameBefore (Ended (Led e) E [] []) (put_steps All m c V (pipe zs) (concat_with E (settled_branches All m c T qs) [] ∷ [])) (put_steps All m c V (pipe zs) (concat_with E (settled_branches All m c T (rests qs)) [] ∷ []))
      k =
          steps-same (Ended (Led e) E [] []) (ended-apart (Led e) E (λ t x z k1 k2 k. led-more e k1 k2 x k) [] []) m c V (pipe zs) (concat_with E (settled_branches All m c T qs) [] ∷ []) (concat_with E (settled_branches All m c T (rests qs)) [] ∷ [])
          (record {
            before = [];
            one = concat_with E (settled_branches All m c T qs) [] ∷ [];
            other = concat_with E (settled_branches All m c T (rests qs)) [] ∷ [];
            first = refl;
            second = refl;
            differ = record { k1 = settled_branches All m c T qs; k2 = settled_branches All m c T (rests qs); tests = []; kind = led; one = refl; other = refl };
          })
        where
          led : Led e (settled_branches All m c T qs) (settled_branches All m c T (rests qs))
          led = record {
            first = λ es. given m c T e o.one o.first es;
            others = λ es. settled_branches All m c T o.others es;
            some = λ es. refl;
            begin = λ es. (branches-led T e o.one qs es o.begin).0;
            rests' = λ es. (branches-led T e o.one qs es o.begin).1;
          }

      d : Ended (Led e) E [] [] k.one k.other
      d = k.differ

      -- what stands behind the concatenation
      R : List Step
      R = filters_of d.tests ++ all_steps k.before

      -- the steps of both, before any segments
      steps-of : (K : List Expr → Pipes) (X : List Segment) → all_steps ((k.before ++ (concat_with E K d.tests ∷ [])) ++ X) ≡ all_steps X ++ Step.Concat (K []) ∷ R
      steps-of K X = steps-append (k.before ++ (concat_with E K d.tests ∷ [])) X ∙ ap (λ l. all_steps X ++ l) (steps-append k.before (concat_with E K d.tests ∷ []))

      put-one : (X : List Segment) → put_steps All m c T (pipe (Step.Concat qs ∷ zs)) X ≡ (k.before ++ (concat_with E d.k1 d.tests ∷ [])) ++ X
      put-one X = concat-put m c T qs (pipe zs) X ∙ tail-kept V (pipe zs) E (settled_branches All m c T qs) X ∙ ap (λ l. l ++ X) (k.first ∙ ap (λ l. k.before ++ l) d.one)

      put-other : (X : List Segment) → put_steps All m c T (pipe (Step.Concat (rests qs) ∷ zs)) X ≡ (k.before ++ (concat_with E d.k2 d.tests ∷ [])) ++ X
      put-other X =
          concat-put m c T (rests qs) (pipe zs) X
          ∙ (λ i. put_steps All m c (behind-same m c T e qs typed-filter o.begin i) (pipe zs) (concat_with (enters-same m c T e qs typed-filter o.begin i) (settled_branches All m c T (rests qs)) [] ∷ X))
          ∙ tail-kept V (pipe zs) E (settled_branches All m c T (rests qs)) X ∙ ap (λ l. l ++ X) (k.second ∙ ap (λ l. k.before ++ l) d.other)

      made : Pipe
      made = pipe (all_steps a ++ Step.Filter e ∷ Step.Concat (d.k2 []) ∷ R)

      walk-p : walk All m c S p ≡ pipe (all_steps a ++ Step.Concat (d.k1 []) ∷ R)
      walk-p =
          ap (λ p. whole (put_steps All m c S p front)) o.from
          ∙ ap whole (put-append S A (Step.Concat qs ∷ zs) front ∙ put-one a)
          ∙ ap pipe_or_identity (steps-of d.k1 a) ∙ long-list (all_steps a) (Step.Concat (d.k1 [])) R

      out : Out m c S (walk All m c S p) made
      out = record {
        ahead = all_steps a;
        expr = e;
        first = (d.kind).first [];
        others = (d.kind).others [];
        behind = R;
        from = walk-p ∙ ap (λ ps. pipe (all_steps a ++ Step.Concat ps ∷ R)) ((d.kind).some []);
        into = ap (λ ps. pipe (all_steps a ++ Step.Filter e ∷ Step.Concat ps ∷ R)) (sym ((d.kind).rests' []) ∙ ap rests ((d.kind).some []));
        begin = ap (Begin (Step.Filter e)) (sym ((d.kind).some [])) ∙ (d.kind).begin [];
        one = ap (λ Z. parts m Z e) A'.1 ∙ o.one;
      }

      -- the concatenation without the filter, and what is behind it
      W : Pipe
      W = pipe (Step.Concat (rests qs) ∷ zs)

      typed-W : IsTypedFrom m c T S' W
      typed-W = record {
        customs = t.customs;
        lawful = lawful-behind m c A S T t.lawful at.0;
        typed = (refl, ap (λ os. option_and_then (λ Z. steps_shape m c Z (pipe zs)) (option_and_then (concat_shape m) (all_some os))) (rest-shapes m c T T (Step.Filter e) qs typed-filter o.begin) ∙ at.1);
      }

      walk-W : walk All m c T W ≡ pipe (Step.Concat (d.k2 []) ∷ R)
      walk-W = ap whole (put-other front) ∙ ap pipe_or_identity (steps-of d.k2 front)

      same : walk All m c S made ≡ walk All m c S y
      same =
          ap whole (
          put-append S (all_steps a) (Step.Filter e ∷ Step.Concat (d.k2 []) ∷ R) front
          ∙ (λ i. put_steps All m c (A'.1 i) (pipe (Step.Filter e ∷ Step.Concat (d.k2 []) ∷ R)) (A'.0 i))
          ∙ one-filter All m c T e (pipe (Step.Concat (d.k2 []) ∷ R)) a
          ∙ ap (λ q. put_steps All m c T q (put_filter m T e a)) (sym walk-W)
          ∙ (again T S' W typed-W).put (put_filter m T e a)
          ∙ sym (one-filter All m c T e W a)
          ∙ sym (put-append S A (Step.Filter e ∷ Step.Concat (rests qs) ∷ zs) front))
          ∙ sym (ap (λ p. whole (put_steps All m c S p front)) o.into)

  -- ---- a branch in which a filter comes out

  -- a pipeline with filters at its end
  abbrev pub with_filters : Pipe → List Expr → Pipe
  with_filters p es = pipe (steps p ++ map Step.Filter es)

  filters-put : (T : Shape) (es : List Expr) (gs : List Segment) → put_steps All m c T (pipe (map Step.Filter es)) gs ≡ put_filters m T es gs
  unfolding put_steps
  filters-put T [] gs = refl
  filters-put T (e ∷ es) gs = one-filter All m c T e (pipe (map Step.Filter es)) gs ∙ filters-put T es (put_filter m T e gs)

  -- a branch that filters go into is walked as one that has them
  abbrev pub entered' : Shape → List Expr → Pipe → Pipe
  entered' T es p = whole (put_filters m (shape_behind m c T p) es (put_steps All m c T p front))

  pub entered-put : (T : Shape) (p : Pipe) (es : List Expr) → put_filters m (shape_behind m c T p) es (put_steps All m c T p front) ≡ put_steps All m c T (with_filters p es) front
  entered-put T p es =
      sym (put-append T (steps p) (map Step.Filter es) front ∙ (λ i. put_steps All m c (shape_behind m c T (pipe-steps p i)) (pipe (map Step.Filter es)) (put_steps All m c T (pipe-steps p i) front)) ∙ filters-put (shape_behind m c T p) es (put_steps All m c T p front))

  pub entered-walk : (T : Shape) (p : Pipe) (es : List Expr) → entered' T es p ≡ walk All m c T (with_filters p es)
  entered-walk T p es = ap whole (entered-put T p es)

  -- filters that are typed on a shape
  abbrev pub AreTyped : Shape → List Expr → Type 0
  AreTyped R es = Each (λ e. step_shape m c R (Step.Filter e) ≡ Some R) es

  filters-typed : (R : Shape) (es : List Expr) → AreTyped R es → steps_shape m c R (pipe (map Step.Filter es)) ≡ Some R
  unfolding steps_shape
  filters-typed R [] a = refl
  filters-typed R (e ∷ es) a = ap (option_and_then (λ Z. steps_shape m c Z (pipe (map Step.Filter es)))) a.0 ∙ filters-typed R es a.1

  pub long-with : (p : Pipe) (ts : List Step) → is_long p ≡ true → is_long (pipe (steps p ++ ts)) ≡ true
  long-with Pipe.End ts h = cc
  long-with (Pipe.Then s p) ts h = refl

  pub with-typed : (T R : Shape) (p : Pipe) (es : List Expr) → IsTypedFrom m c T R p → AreTyped R es → IsTypedFrom m c T R (with_filters p es)
  with-typed T R p es t a = record {
    customs = t.customs;
    lawful = t.lawful;
    typed = (
      long-with p (map Step.Filter es) t.typed.0,
      shape-append m c T (steps p) (map Step.Filter es) ∙ ap (option_and_then (λ Z. steps_shape m c Z (pipe (map Step.Filter es)))) (ap (steps_shape m c T) (pipe-steps p) ∙ t.typed.1) ∙ filters-typed R es a,
    );
  }

  -- more steps behind
  pub behind-more : (p : Pipe) (ahead : List Step) (s : Step) (zs ts : List Step) → p ≡ pipe (ahead ++ s ∷ zs) → pipe (steps p ++ ts) ≡ pipe (ahead ++ s ∷ (zs ++ ts))
  behind-more p ahead s zs ts e = ap (λ p. pipe (steps p ++ ts)) e ∙ ap (λ l. pipe (l ++ ts)) (steps-pipe (ahead ++ s ∷ zs)) ∙ ap pipe (append_assoc ahead (s ∷ zs) ts)

  pub behind-two : (p : Pipe) (ahead : List Step) (r s : Step) (zs ts : List Step) → p ≡ pipe (ahead ++ r ∷ s ∷ zs) → pipe (steps p ++ ts) ≡ pipe (ahead ++ r ∷ s ∷ (zs ++ ts))
  behind-two p ahead r s zs ts e = ap (λ p. pipe (steps p ++ ts)) e ∙ ap (λ l. pipe (l ++ ts)) (steps-pipe (ahead ++ r ∷ s ∷ zs)) ∙ ap pipe (append_assoc ahead (r ∷ s ∷ zs) ts)

  pub deep-more : (n : ℕ) (T : Shape) (p q : Pipe) (es : List Expr) → Deep m c n T p q → Deep m c n T (with_filters p es) (with_filters q es)
  deep-more zero T p q es o = record {
    ahead = o.ahead;
    expr = o.expr;
    first = o.first;
    others = o.others;
    behind = o.behind ++ map Step.Filter es;
    from = behind-more p o.ahead (Step.Concat (Pipes.MorePipes o.first o.others)) o.behind (map Step.Filter es) o.from;
    into = behind-two q o.ahead (Step.Filter o.expr) (Step.Concat (rests (Pipes.MorePipes o.first o.others))) o.behind (map Step.Filter es) o.into;
    begin = o.begin;
    one = o.one;
  }
  deep-more (suc n) T p q es (inr o) = inr (record {
    ahead = o.ahead;
    hole = o.hole;
    was = o.was;
    now = o.now;
    behind = o.behind ++ map Step.Filter es;
    there = o.there;
    from = behind-more p o.ahead (filled o.hole o.was) o.behind (map Step.Filter es) o.from;
    into = behind-more q o.ahead (filled o.hole o.now) o.behind (map Step.Filter es) o.into;
    within = o.within;
  })
  deep-more (suc n) T p q es (inl o) = inl (record {
    ahead = o.ahead;
    left = o.left;
    was = o.was;
    now = o.now;
    right = o.right;
    behind = o.behind ++ map Step.Filter es;
    from = behind-more p o.ahead (Step.Concat (spliced o.left o.was o.right)) o.behind (map Step.Filter es) o.from;
    into = behind-more q o.ahead (Step.Concat (spliced o.left o.now o.right)) o.behind (map Step.Filter es) o.into;
    within = o.within;
  })

  -- ---- concatenations that differ in one branch

  spliced-settled : (left : List Pipe) (T : Shape) (p : Pipe) (right : Pipes) (es : List Expr) → settled_branches All m c T (spliced left p right) es ≡ spliced (map (entered' T es) left) (entered' T es p) (settled_branches All m c T right es)
  unfolding put_steps
  spliced-settled [] T p right es = refl
  spliced-settled (x ∷ left) T p right es = ap (Pipes.MorePipes (entered' T es x)) (spliced-settled left T p right es)

  abbrev takes : Shape → Test → Pipe → Bool
  takes T t p = is_some_and (λ S'. has_kind is_boolean_kind m S' t.expr) (steps_shape m c T p)

  spliced-takes : (left : List Pipe) (T : Shape) (t : Test) (p q : Pipe) (right : Pipes) → steps_shape m c T q ≡ steps_shape m c T p → list_all (takes T t) (branches (spliced left q right)) ≡ list_all (takes T t) (branches (spliced left p right))
  spliced-takes [] T t p q right e = ap (λ o. is_some_and (λ S'. has_kind is_boolean_kind m S' t.expr) o && list_all (takes T t) (branches right)) e
  spliced-takes (x ∷ left) T t p q right e = ap (λ z. takes T t x && z) (spliced-takes left T t p q right e)

  spliced-enters : (left : List Pipe) (T : Shape) (p q : Pipe) (right : Pipes) → steps_shape m c T q ≡ steps_shape m c T p → step_enters All m c T (Step.Concat (spliced left q right)) ≡ step_enters All m c T (Step.Concat (spliced left p right))
  spliced-enters left T p q right e = λ i t. then_some (spliced-takes left T t p q right e i) t.expr

  -- a filter that goes into the branches is typed on one
  taken-among : (left : List Pipe) (T : Shape) (t : Test) (p : Pipe) (right : Pipes) → list_all (takes T t) (branches (spliced left p right)) ≡ true → takes T t p ≡ true
  taken-among [] T t p right h = (and_parts (takes T t p) (list_all (takes T t) (branches right)) h).0
  taken-among (x ∷ left) T t p right h = taken-among left T t p right (and_parts (takes T t x) (list_all (takes T t) (branches (spliced left p right))) h).1

  taken-typed : (left : List Pipe) (T R : Shape) (t : Test) (x : Expr) (p : Pipe) (right : Pipes) → steps_shape m c T p ≡ Some R → step_enters All m c T (Step.Concat (spliced left p right)) t ≡ Some x → step_shape m c R (Step.Filter x) ≡ Some R
  unfolding steps_shape
  taken-typed left T R t x p right e h =
      let v = then_some-parts (list_all (takes T t) (branches (spliced left p right))) t.expr x h in
      let k : has_kind is_boolean_kind m R t.expr ≡ true = sym (ap (is_some_and (λ S'. has_kind is_boolean_kind m S' t.expr)) e) ∙ taken-among left T t p right v.0 in
      ap (λ z. then_some z R) (ap (has_kind is_boolean_kind m R) (sym v.1) ∙ k)

  -- a branch in place of another that is put as it
  spliced-same : (left : List Pipe) (T : Shape) (p q : Pipe) (right : Pipes) (es : List Expr) → entered' T es q ≡ entered' T es p → settled_branches All m c T (spliced left q right) es ≡ settled_branches All m c T (spliced left p right) es
  unfolding put_steps
  spliced-same [] T p q right es e = ap (λ z. Pipes.MorePipes z (settled_branches All m c T right es)) e
  spliced-same (x ∷ left) T p q right es e = ap (Pipes.MorePipes (entered' T es x)) (spliced-same left T p q right es e)

  again-spliced : (left : List Pipe) (T R : Shape) (p : Pipe) (right : Pipes) (zs : List Step) (gs : List Segment) → IsTypedFrom m c T R p
      → put_steps All m c T (pipe (Step.Concat (spliced left (walk All m c T p) right) ∷ zs)) gs ≡ put_steps All m c T (pipe (Step.Concat (spliced left p right) ∷ zs)) gs
  again-spliced left T R p right zs gs t =
      let k = again T R p t in
      let w = walk All m c T p in
      concat-put m c T (spliced left w right) (pipe zs) gs
      ∙ (λ i.
      put_steps All m c (after-same m c left T R p w right t k.typed i) (pipe zs)
      (concat_with (spliced-enters left T p w right (k.typed.typed.1 ∙ sym t.typed.1) i) (λ es. spliced-same left T p w right es (λ j. whole (put_filters m (k.shape j) es (k.put front j))) i) [] ∷ gs))
      ∙ sym (concat-put m c T (spliced left p right) (pipe zs) gs)

  -- branches that filters have gone into
  record Entered (T R : Shape) (ps qs : Pipes) (k1 k2 : List Expr → Pipes) : Type 0 where
    exprs : List Expr
    typed : AreTyped R exprs
    one : k1 ≡ (λ es. settled_branches All m c T ps (exprs ++ es))
    other : k2 ≡ (λ es. settled_branches All m c T qs (exprs ++ es))

  entered-more : (T R : Shape) (ps qs : Pipes) (x : Expr) → step_shape m c R (Step.Filter x) ≡ Some R → (k1 k2 : List Expr → Pipes) → Entered T R ps qs k1 k2 → Entered T R ps qs (λ es. k1 (x ∷ es)) (λ es. k2 (x ∷ es))
  entered-more T R ps qs x e k1 k2 h = record {
    exprs = h.exprs ++ (x ∷ []);
    typed = each-append (λ e. step_shape m c R (Step.Filter e) ≡ Some R) h.exprs (x ∷ []) h.typed (e, tt);
    one = (λ i es. h.one i (x ∷ es)) ∙ sym (λ i es. settled_branches All m c T ps (append_assoc h.exprs (x ∷ []) es i));
    other = (λ i es. h.other i (x ∷ es)) ∙ sym (λ i es. settled_branches All m c T qs (append_assoc h.exprs (x ∷ []) es i));
  }

  module _ (n : ℕ) (ih : (T R : Shape) (p y : Pipe) → IsTypedFrom m c T R p → Deep m c n T p y → (u : Pipe) × Deep m c n T (walk All m c T p) u × (walk All m c T u ≡ walk All m c T y)) where
    pub inside-walk : (S S' : Shape) (p y : Pipe) → IsTypedFrom m c S S' p → Inside m c (Deep m c n) S p y → (u : Pipe) × Inside m c (Deep m c n) S (walk All m c S p) u × (walk All m c S u ≡ walk All m c S y)
    unfolding put_steps steps_shape
    inside-walk S S' p y t o = (made, out, same)
      where
        A : List Step
        A = o.ahead

        ps : Pipes
        ps = spliced o.left o.was o.right

        qs : Pipes
        qs = spliced o.left o.now o.right

        zs : List Step
        zs = o.behind

        T : Shape
        T = shape_behind m c S (pipe A)

        at : (steps_shape m c S (pipe A) ≡ Some T) × (steps_shape m c T (pipe (Step.Concat ps ∷ zs)) ≡ Some S')
        at = typed-behind m c A (Step.Concat ps ∷ zs) S S' (sym (ap (steps_shape m c S) o.from) ∙ t.typed.1)

        A' : (put_steps All m c S (pipe (all_steps (put_steps All m c S (pipe A) front))) front ≡ put_steps All m c S (pipe A) front) × (shape_behind m c S (pipe (all_steps (put_steps All m c S (pipe A) front))) ≡ T)
        A' = again-steps S T A t.customs t.lawful at.0

        law : IsTrue (is_lawful m T)
        law = lawful-behind m c A S T t.lawful at.0

        was' : (R : Shape) × IsTypedFrom m c T R o.was
        was' = branch-typed m c o.left T S' o.was o.right zs t.customs law at.1

        R : Shape
        R = was'.0

        now' : IsTypedFrom m c T R o.now
        now' = deep-typed m c n T R o.was o.now was'.1 o.within

        E : Test → Option Expr
        E = step_enters All m c T (Step.Concat ps)

        V : Shape
        V = after m c T (Step.Concat ps)

        a : List Segment
        a = put_steps All m c S (pipe A) front

        K : (List Expr → Pipes) → (List Expr → Pipes) → Type 0
        K = Entered T R ps qs

        k : SameBefore (Ended K E [] []) (put_steps All m c V (pipe zs) (concat_with E (settled_branches All m c T ps) [] ∷ [])) (put_steps All m c V (pipe zs) (concat_with E (settled_branches All m c T qs) [] ∷ []))
        k =
            steps-same (Ended K E [] []) (ended-apart K E (λ t x e k1 k2 h. entered-more T R ps qs x (taken-typed o.left T R t x o.was o.right was'.1.typed.1 e) k1 k2 h) [] []) m c V (pipe zs) (concat_with E (settled_branches All m c T ps) [] ∷ []) (concat_with E (settled_branches All m c T qs) [] ∷ [])
            (record {
              before = [];
              one = concat_with E (settled_branches All m c T ps) [] ∷ [];
              other = concat_with E (settled_branches All m c T qs) [] ∷ [];
              first = refl;
              second = refl;
              differ = record { k1 = settled_branches All m c T ps; k2 = settled_branches All m c T qs; tests = []; kind = record { exprs = []; typed = tt; one = refl; other = refl }; one = refl; other = refl };
            })

        d : Ended K E [] [] k.one k.other
        d = k.differ

        es : List Expr
        es = (d.kind).exprs

        Z : List Step
        Z = filters_of d.tests ++ all_steps k.before

        steps-of : (G : List Expr → Pipes) (X : List Segment) → all_steps ((k.before ++ (concat_with E G d.tests ∷ [])) ++ X) ≡ all_steps X ++ Step.Concat (G []) ∷ Z
        steps-of G X = steps-append (k.before ++ (concat_with E G d.tests ∷ [])) X ∙ ap (λ l. all_steps X ++ l) (steps-append k.before (concat_with E G d.tests ∷ []))

        put-one : (X : List Segment) → put_steps All m c T (pipe (Step.Concat ps ∷ zs)) X ≡ (k.before ++ (concat_with E d.k1 d.tests ∷ [])) ++ X
        put-one X = concat-put m c T ps (pipe zs) X ∙ tail-kept V (pipe zs) E (settled_branches All m c T ps) X ∙ ap (λ l. l ++ X) (k.first ∙ ap (λ l. k.before ++ l) d.one)

        put-other : (X : List Segment) → put_steps All m c T (pipe (Step.Concat qs ∷ zs)) X ≡ (k.before ++ (concat_with E d.k2 d.tests ∷ [])) ++ X
        put-other X =
            concat-put m c T qs (pipe zs) X
            ∙ (λ i. put_steps All m c (after-same m c o.left T R o.was o.now o.right was'.1 now' i) (pipe zs) (concat_with (spliced-enters o.left T o.was o.now o.right (now'.typed.1 ∙ sym was'.1.typed.1) i) (settled_branches All m c T qs) [] ∷ X))
            ∙ tail-kept V (pipe zs) E (settled_branches All m c T qs) X ∙ ap (λ l. l ++ X) (k.second ∙ ap (λ l. k.before ++ l) d.other)

        left' : List Pipe
        left' = map (entered' T es) o.left

        right' : Pipes
        right' = settled_branches All m c T o.right es

        more : (u : Pipe) × Deep m c n T (walk All m c T (with_filters o.was es)) u × (walk All m c T u ≡ walk All m c T (with_filters o.now es))
        more = ih T R (with_filters o.was es) (with_filters o.now es) (with-typed T R o.was es was'.1 (d.kind).typed) (deep-more n T o.was o.now es o.within)

        v : Pipe
        v = walk All m c T (with_filters o.was es)

        one-branches : d.k1 [] ≡ spliced left' v right'
        one-branches = (λ i. (d.kind).one i []) ∙ ap (settled_branches All m c T ps) (append-nil es) ∙ spliced-settled o.left T o.was o.right es ∙ ap (λ z. spliced left' z right') (entered-walk T o.was es)

        other-branches : d.k2 [] ≡ spliced left' (walk All m c T (with_filters o.now es)) right'
        other-branches = (λ i. (d.kind).other i []) ∙ ap (settled_branches All m c T qs) (append-nil es) ∙ spliced-settled o.left T o.now o.right es ∙ ap (λ z. spliced left' z right') (entered-walk T o.now es)

        made : Pipe
        made = pipe (all_steps a ++ Step.Concat (spliced left' more.0 right') ∷ Z)

        walk-p : walk All m c S p ≡ pipe (all_steps a ++ Step.Concat (d.k1 []) ∷ Z)
        walk-p =
            ap (λ p. whole (put_steps All m c S p front)) o.from
            ∙ ap whole (put-append S A (Step.Concat ps ∷ zs) front ∙ put-one a)
            ∙ ap pipe_or_identity (steps-of d.k1 a) ∙ long-list (all_steps a) (Step.Concat (d.k1 [])) Z

        out : Inside m c (Deep m c n) S (walk All m c S p) made
        out = record {
          ahead = all_steps a;
          left = left';
          was = v;
          now = more.0;
          right = right';
          behind = Z;
          from = walk-p ∙ ap (λ ps. pipe (all_steps a ++ Step.Concat ps ∷ Z)) one-branches;
          into = refl;
          within = subst (λ U. Deep m c n U v more.0) (sym A'.1) more.1;
        }

        W : Pipe
        W = pipe (Step.Concat qs ∷ zs)

        typed-W : IsTypedFrom m c T S' W
        typed-W = record {
          customs = t.customs;
          lawful = law;
          typed = (refl, ap (λ os. option_and_then (λ U. steps_shape m c U (pipe zs)) (option_and_then (concat_shape m) (all_some os))) (shapes-same m c o.left T R o.was o.now o.right was'.1 now') ∙ at.1);
        }

        walk-W : walk All m c T W ≡ pipe (Step.Concat (d.k2 []) ∷ Z)
        walk-W = ap whole (put-other front) ∙ ap pipe_or_identity (steps-of d.k2 front)

        typed-more : IsTypedFrom m c T R more.0
        typed-more = deep-typed m c n T R v more.0 (again T R (with_filters o.was es) (with-typed T R o.was es was'.1 (d.kind).typed)).typed more.1

        same : walk All m c S made ≡ walk All m c S y
        same =
            ap whole (
            put-append S (all_steps a) (Step.Concat (spliced left' more.0 right') ∷ Z) front
            ∙ (λ i. put_steps All m c (A'.1 i) (pipe (Step.Concat (spliced left' more.0 right') ∷ Z)) (A'.0 i))
            ∙ sym (again-spliced left' T R more.0 right' Z a typed-more)
            ∙ ap (λ x. put_steps All m c T (pipe (Step.Concat (spliced left' x right') ∷ Z)) a) more.2
            ∙ ap (λ x. put_steps All m c T (pipe (Step.Concat x ∷ Z)) a) (sym other-branches)
            ∙ ap (λ q. put_steps All m c T q a) (sym walk-W)
            ∙ (again T S' W typed-W).put a
            ∙ sym (put-append S A (Step.Concat qs ∷ zs) front))
            ∙ sym (ap (λ p. whole (put_steps All m c S p front)) o.into)
