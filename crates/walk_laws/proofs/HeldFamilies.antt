-- Lists of segments, one for each of some things, that differ in the step of one segment alone, before which stand only filters: they stay so, whatever steps are put.
use Rattle.std.proofs.Common.{◌≡◌, refl, sym, ◌∙◌, ap, Bool, true, false, not, ◌&&◌, List, [], ◌∷◌, ◌++◌, Option, Some, None, map, if◌then◌else◌}
use Rattle.std.proofs.lemmas.List.{append_assoc}
use Rattle.edm_values.specs.Lists.{is_nonempty}
use Rattle.edm_model.specs.Models.{Model}
use Rattle.apply_ast.specs.Trees.{Expr, Pipe, Step, TopStep}
use Rattle.context_typing.specs.Shapes.{Shape}
use Rattle.context_typing.specs.Typing.{Customs, after}
use Rattle.walk_laws.specs.Walks.{All, Segment, Test, head_of, is_order, joined_count, judged, last_count, parts, put_selection, put_step, put_steps, put_test, put_tests, segment, segment_passed, selection, settled_step, taken, taken_as, tests_passed, without_orders}

-- a segment whose step is one of a family once filters have gone into it, these and others
abbrev pub held : Bool → (Test → Bool) → (Test → Option Expr) → (List Expr → Step) → List Expr → List Test → Segment
held lets passes enters f es ts = record { lets = lets; passes = passes; enters = enters; head = λ xs. Some (f (es ++ xs)); tests = ts }

-- filters at the front, where no step stands
abbrev pub fronted : List Test → List Segment
fronted ts = record { lets = false; passes = λ t. false; enters = λ t. None; head = λ es. None; tests = ts } ∷ []

pub front-takes : (t : Test) (ts : List Test) → put_test t (fronted ts) ≡ fronted (ts ++ (t ∷ []))
front-takes t ts = go (tests_passed ts t)
  where
    g : Segment
    g = record { lets = false; passes = λ t. false; enters = λ t. None; head = λ es. None; tests = ts }

    go : (z : Bool) → (if z && false && false then g ∷ [] else taken_as g t (if z then None else None) ∷ []) ≡ fronted (ts ++ (t ∷ []))
    go true = refl
    go false = refl

module _ {I : Type 0} (f : I → List Expr → Step) (passes : Test → Bool) (enters : Test → Option Expr)
    (order : (i : I) (es : List Expr) → is_order (Some (f i es)) ≡ false) (count : (i : I) (es : List Expr) (t : TopStep) → joined_count (Some (f i es)) t ≡ None) where
  -- the lists are the same but for the step
  pub record Family (gs : I → List Segment) : Type 0 where
    pub before : List Segment
    pub lets : Bool
    pub exprs : List Expr
    pub tests : List Test
    pub ahead : List Test
    pub is : (i : I) → gs i ≡ before ++ (held lets passes enters (f i) exprs tests ∷ fronted ahead)

  abbrev At : Bool → List Expr → List Test → List Test → I → List Segment
  At l es ts us i = held l passes enters (f i) es ts ∷ fronted us

  push : (g : Segment) (gs : I → List Segment) → Family gs → Family (λ i. g ∷ gs i)
  push g gs k = record { before = g ∷ k.before; lets = k.lets; exprs = k.exprs; tests = k.tests; ahead = k.ahead; is = λ i. ap (λ l. g ∷ l) (k.is i) }

  from-before : (F : List Segment → List Segment) → ((ys : List Segment) (l : Bool) (es : List Expr) (ts us : List Test) → Family (λ i. F (ys ++ At l es ts us i))) → (gs : I → List Segment) → Family gs → Family (λ i. F (gs i))
  from-before F h gs k =
      let x = h k.before k.lets k.exprs k.tests k.ahead in
      record { before = x.before; lets = x.lets; exprs = x.exprs; tests = x.tests; ahead = x.ahead; is = λ i. ap F (k.is i) ∙ x.is i }

  here : (l : Bool) (es : List Expr) (ts us : List Test) → Family (At l es ts us)
  here l es ts us = record { before = []; lets = l; exprs = es; tests = ts; ahead = us; is = λ i. refl }

  test-here : (t : Test) (l : Bool) (es : List Expr) (ts us : List Test) → Family (λ i. put_test t (At l es ts us i))
  test-here t l es ts us = go (tests_passed ts t && l && passes t)
    where
      into' : (o : Option Expr) → Family (λ i. taken_as (held l passes enters (f i) es ts) t o ∷ fronted us)
      into' None = here l es (ts ++ (t ∷ [])) us
      into' (Some e) = record { before = []; lets = l && t.sure; exprs = es ++ (e ∷ []); tests = ts; ahead = us; is = λ i j. record { lets = l && t.sure; passes = passes; enters = enters; head = λ xs. Some (f i (sym (append_assoc es (e ∷ []) xs) j)); tests = ts } ∷ fronted us }

      go : (z : Bool) → Family (λ i. if z then held l passes enters (f i) es ts ∷ put_test t (fronted us) else taken (held l passes enters (f i) es ts) t ∷ fronted us)
      go true = record { before = []; lets = l; exprs = es; tests = ts; ahead = us ++ (t ∷ []); is = λ i. ap (λ gs. held l passes enters (f i) es ts ∷ gs) (front-takes t us) }
      go false = into' (if tests_passed ts t then enters t else None)

  test-before : (t : Test) (ys : List Segment) (l : Bool) (es : List Expr) (ts us : List Test) → Family (λ i. put_test t (ys ++ At l es ts us i))
  test-before t [] l es ts us = test-here t l es ts us
  test-before t (y ∷ ys) l es ts us = go (segment_passed y t) (test-before t ys l es ts us)
    where
      go : (z : Bool) → Family (λ i. put_test t (ys ++ At l es ts us i)) → Family (λ i. if z then y ∷ put_test t (ys ++ At l es ts us i) else taken y t ∷ (ys ++ At l es ts us i))
      go true k = push y (λ i. put_test t (ys ++ At l es ts us i)) k
      go false k = record { before = taken y t ∷ ys; lets = l; exprs = es; tests = ts; ahead = us; is = λ i. refl }

  orders-before : (ys : List Segment) (l : Bool) (es : List Expr) (ts : List Test) (us : List Test) → Family (λ i. without_orders (ys ++ At l es ts us i))
  orders-before [] l es ts us = record { before = []; lets = l; exprs = es; tests = ts; ahead = us; is = λ i. kept i }
    where
      no-and : (a : Bool) → (a && false) ≡ false
      no-and true = refl
      no-and false = refl

      kept : (i : I) → without_orders (At l es ts us i) ≡ At l es ts us i
      kept i =
          ap (λ z. if not (is_nonempty ts) && l && z then without_orders (fronted us) else At l es ts us i) (order i (es ++ []))
          ∙ ap (λ z. if z then without_orders (fronted us) else At l es ts us i) (no-and (not (is_nonempty ts) && l))
  orders-before (y ∷ ys) l es ts us = go (not (is_nonempty y.tests) && y.lets && is_order (head_of y)) (orders-before ys l es ts us)
    where
      go : (z : Bool) → Family (λ i. without_orders (ys ++ At l es ts us i)) → Family (λ i. if z then without_orders (ys ++ At l es ts us i) else y ∷ (ys ++ At l es ts us i))
      go true k = k
      go false k = record { before = y ∷ ys; lets = l; exprs = es; tests = ts; ahead = us; is = λ i. refl }

  counts-before : (t : TopStep) (ys : List Segment) (l : Bool) (es : List Expr) (ts : List Test) (us : List Test) → Family (λ i. put_selection t (ys ++ At l es ts us i))
  counts-before t [] l es ts us = record { before = selection t ∷ []; lets = l; exprs = es; tests = ts; ahead = us; is = λ i. kept i }
    where
      kept : (i : I) → put_selection t (At l es ts us i) ≡ selection t ∷ At l es ts us i
      kept i =
          let F : Option TopStep → List Segment = λ o. elim o [ None ↦ selection t ∷ At l es ts us i | Some u ↦ selection u ∷ fronted us ] in
          ap (λ o. F (if is_nonempty ts then None else o)) (count i (es ++ []) t) ∙ ap F (go (is_nonempty ts))
        where
          go : (z : Bool) → ◌≡◌ {A = Option TopStep} (if z then None else None) None
          go true = refl
          go false = refl
  counts-before t (y ∷ ys) l es ts us = go (last_count y t)
    where
      go : (o : Option TopStep) → Family (λ i. elim o [ None ↦ selection t ∷ y ∷ (ys ++ At l es ts us i) | Some u ↦ selection u ∷ (ys ++ At l es ts us i) ])
      go None = record { before = selection t ∷ y ∷ ys; lets = l; exprs = es; tests = ts; ahead = us; is = λ i. refl }
      go (Some u) = record { before = selection u ∷ ys; lets = l; exprs = es; tests = ts; ahead = us; is = λ i. refl }

  tests-family : (ts : List Test) (gs : I → List Segment) → Family gs → Family (λ i. put_tests ts (gs i))
  tests-family [] gs k = k
  tests-family (t ∷ ts) gs k = tests-family ts (λ i. put_test t (gs i)) (from-before (put_test t) (test-before t) gs k)

  module _ (m : Model) (c : Customs) where
    step-family : (S : Shape) (s : Step) (made : List Expr → Step) (gs : I → List Segment) → Family gs → Family (λ i. put_step All m c S s made (gs i))
    step-family S Step.Identity made gs k = k
    step-family S (Step.Filter e) made gs k = tests-family (map (judged m S) (parts m S e)) gs k
    step-family S (Step.Aggregate as') made gs k = push (segment All m c S (Step.Aggregate as') made) (λ i. without_orders (gs i)) (from-before without_orders orders-before gs k)
    step-family S (Step.TopBy t) made gs k = from-before (put_selection t) (counts-before t) gs k
    step-family S s made gs k = push (segment All m c S s made) gs k

    -- any steps
    pub steps-family : (S : Shape) (p : Pipe) (gs : I → List Segment) → Family gs → Family (λ i. put_steps All m c S p (gs i))
    unfolding put_steps
    steps-family S Pipe.End gs k = k
    steps-family S (Pipe.Then s p) gs k = steps-family (after m c S s) p (λ i. put_step All m c S s (settled_step All m c S s) (gs i)) (step-family S s (settled_step All m c S s) gs k)
