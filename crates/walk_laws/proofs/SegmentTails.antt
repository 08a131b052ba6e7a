-- Two lists of segments that are the same but at their ends: they stay so, whatever steps are put, where what differs there does.
use Rattle.std.proofs.Common.{◌≡◌, refl, sym, ◌∙◌, ap, subst, Bool, true, false, not, ◌&&◌, List, [], ◌∷◌, ◌++◌, Option, Some, None, map, if◌then◌else◌}
use Rattle.std.proofs.lemmas.List.{append_assoc}
use Rattle.edm_values.specs.Lists.{is_nonempty}
use Rattle.edm_model.specs.Models.{Model}
use Rattle.apply_ast.specs.Trees.{Expr, Pipe, Step, TopStep}
use Rattle.context_typing.specs.Shapes.{Shape}
use Rattle.context_typing.specs.Typing.{Customs, after}
use Rattle.walk_laws.specs.Walks.{All, Segment, Test, all_steps, head_of, is_order, judged, last_count, parts, put_filter, put_filters, put_selection, put_step, put_steps, put_test, put_tests, segment, segment_passed, segment_steps, selection, settled_step, taken, without_orders}

-- lists that are the same before ends that differ in a way
pub record SameBefore (R : List Segment → List Segment → Type 0) (gs hs : List Segment) : Type 0 where
  pub before : List Segment
  pub one : List Segment
  pub other : List Segment
  pub first : gs ≡ before ++ one
  pub second : hs ≡ before ++ other
  pub differ : R one other

-- what differs at the ends differs in this way once a filter is put, and other steps stand behind it
pub record StandsApart (R : List Segment → List Segment → Type 0) : Type 0 where
  pub test : (t : Test) (a b : List Segment) → R a b → R (put_test t a) (put_test t b)
  pub orders : (a b : List Segment) → R a b → (without_orders a ≡ a) × (without_orders b ≡ b)
  pub counts : (t : TopStep) (a b : List Segment) → R a b → (put_selection t a ≡ selection t ∷ a) × (put_selection t b ≡ selection t ∷ b)

pub steps-append : (gs hs : List Segment) → all_steps (gs ++ hs) ≡ all_steps hs ++ all_steps gs
steps-append [] hs = go (all_steps hs)
  where
    go : (l : List Step) → l ≡ l ++ []
    go [] = refl
    go (s ∷ l) = ap (λ r. s ∷ r) (go l)
steps-append (g ∷ gs) hs = ap (λ l. l ++ segment_steps g) (steps-append gs hs) ∙ append_assoc (all_steps hs) (all_steps gs) (segment_steps g)

module _ (R : List Segment → List Segment → Type 0) (A : StandsApart R) where
  abbrev Same : List Segment → List Segment → Type 0
  Same = SameBefore R

  push : (g : Segment) (gs hs : List Segment) → Same gs hs → Same (g ∷ gs) (g ∷ hs)
  push g gs hs k = record { before = g ∷ k.before; one = k.one; other = k.other; first = ap (λ l. g ∷ l) k.first; second = ap (λ l. g ∷ l) k.second; differ = k.differ }

  -- from what is the same
  from-before : (F : List Segment → List Segment) → ((ys a b : List Segment) → R a b → Same (F (ys ++ a)) (F (ys ++ b))) → (gs hs : List Segment) → Same gs hs → Same (F gs) (F hs)
  from-before F f gs hs k =
      subst (λ z. Same (F z) (F hs)) (sym k.first) (subst (λ z. Same (F (k.before ++ k.one)) (F z)) (sym k.second) (f k.before k.one k.other k.differ))

  test-before : (t : Test) (ys a b : List Segment) → R a b → Same (put_test t (ys ++ a)) (put_test t (ys ++ b))
  test-before t [] a b d = record { before = []; one = put_test t a; other = put_test t b; first = refl; second = refl; differ = A.test t a b d }
  test-before t (y ∷ ys) a b d = go (segment_passed y t) (test-before t ys a b d)
    where
      go : (z : Bool) → Same (put_test t (ys ++ a)) (put_test t (ys ++ b)) → Same (if z then y ∷ put_test t (ys ++ a) else taken y t ∷ (ys ++ a)) (if z then y ∷ put_test t (ys ++ b) else taken y t ∷ (ys ++ b))
      go true k = push y (put_test t (ys ++ a)) (put_test t (ys ++ b)) k
      go false k = record { before = taken y t ∷ ys; one = a; other = b; first = refl; second = refl; differ = d }

  orders-before : (ys a b : List Segment) → R a b → Same (without_orders (ys ++ a)) (without_orders (ys ++ b))
  orders-before [] a b d = record { before = []; one = a; other = b; first = (A.orders a b d).0; second = (A.orders a b d).1; differ = d }
  orders-before (y ∷ ys) a b d = go (not (is_nonempty y.tests) && y.lets && is_order (head_of y)) (orders-before ys a b d)
    where
      go : (z : Bool) → Same (without_orders (ys ++ a)) (without_orders (ys ++ b)) → Same (if z then without_orders (ys ++ a) else y ∷ (ys ++ a)) (if z then without_orders (ys ++ b) else y ∷ (ys ++ b))
      go true k = k
      go false k = record { before = y ∷ ys; one = a; other = b; first = refl; second = refl; differ = d }

  counts-before : (t : TopStep) (ys a b : List Segment) → R a b → Same (put_selection t (ys ++ a)) (put_selection t (ys ++ b))
  counts-before t [] a b d = record { before = selection t ∷ []; one = a; other = b; first = (A.counts t a b d).0; second = (A.counts t a b d).1; differ = d }
  counts-before t (y ∷ ys) a b d = go (last_count y t)
    where
      go : (o : Option TopStep) → Same (elim o [ None ↦ selection t ∷ y ∷ (ys ++ a) | Some u ↦ selection u ∷ (ys ++ a) ]) (elim o [ None ↦ selection t ∷ y ∷ (ys ++ b) | Some u ↦ selection u ∷ (ys ++ b) ])
      go None = record { before = selection t ∷ y ∷ ys; one = a; other = b; first = refl; second = refl; differ = d }
      go (Some u) = record { before = selection u ∷ ys; one = a; other = b; first = refl; second = refl; differ = d }

  tests-same : (ts : List Test) (gs hs : List Segment) → Same gs hs → Same (put_tests ts gs) (put_tests ts hs)
  tests-same [] gs hs k = k
  tests-same (t ∷ ts) gs hs k = tests-same ts (put_test t gs) (put_test t hs) (from-before (put_test t) (test-before t) gs hs k)

  module _ (m : Model) (c : Customs) where
    -- filters as they were written
    pub filters-same : (S : Shape) (es : List Expr) (gs hs : List Segment) → Same gs hs → Same (put_filters m S es gs) (put_filters m S es hs)
    filters-same S [] gs hs k = k
    filters-same S (e ∷ es) gs hs k = filters-same S es (put_filter m S e gs) (put_filter m S e hs) (tests-same (map (judged m S) (parts m S e)) gs hs k)

    step-same : (S : Shape) (s : Step) (made : List Expr → Step) (gs hs : List Segment) → Same gs hs → Same (put_step All m c S s made gs) (put_step All m c S s made hs)
    step-same S Step.Identity made gs hs k = k
    step-same S (Step.Filter e) made gs hs k = tests-same (map (judged m S) (parts m S e)) gs hs k
    step-same S (Step.Aggregate as') made gs hs k = push (segment All m c S (Step.Aggregate as') made) (without_orders gs) (without_orders hs) (from-before without_orders orders-before gs hs k)
    step-same S (Step.TopBy t) made gs hs k = from-before (put_selection t) (counts-before t) gs hs k
    step-same S s made gs hs k = push (segment All m c S s made) gs hs k

    -- any steps
    pub steps-same : (S : Shape) (p : Pipe) (gs hs : List Segment) → Same gs hs → Same (put_steps All m c S p gs) (put_steps All m c S p hs)
    unfolding put_steps
    steps-same S Pipe.End gs hs k = k
    steps-same S (Pipe.Then s p) gs hs k = steps-same (after m c S s) p (put_step All m c S s (settled_step All m c S s) gs) (put_step All m c S s (settled_step All m c S s) hs) (step-same S s (settled_step All m c S s) gs hs k)
