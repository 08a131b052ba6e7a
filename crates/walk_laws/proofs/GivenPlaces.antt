-- What the ninth rule makes, at any place, of a pipeline whose concatenation gives filters that stay before it: the same steps come out in the end.
use Rattle.std.proofs.Common.{◌≡◌, refl, sym, ◌∙◌, ap, subst, Bool, true, false, not, ◌&&◌, ◌||◌, List, [], ◌∷◌, ◌++◌, drop, Option, Some, None, map, ◌⊎◌, inl, inr, if◌then◌else◌}
use Rattle.std.specs.Prelude.{option_and_then, option_to_list, slice_get, unwrap_or}
use Rattle.std.specs.Bool.{then_some}
use Rattle.std.specs.List.{list_all}
use Rattle.std.proofs.lemmas.Bool.{and_from, and_parts, or_right, true≢false}
use Rattle.std.proofs.lemmas.List.{append_assoc}
use Rattle.edm_values.specs.Lists.{all_some, is_some_and}
use Rattle.edm_values.specs.Literals.{is_boolean_kind}
use Rattle.edm_values.proofs.EachLemmas.{Each, all_some-head, each-append, each-map}
use Rattle.edm_values.proofs.OptionFacts.{chained, if_else-parts, none_or, then_some-parts}
use Rattle.edm_model.specs.Models.{Model}
use Rattle.apply_ast.specs.Trees.{Expr, Pipe, Pipes, Step, TopStep, is_long, pipe, steps}
use Rattle.context_typing.specs.Shapes.{Shape}
use Rattle.context_typing.specs.Typing.{Customs, after, branch_shapes, concat_shape, has_kind, step_shape, steps_shape}
use Rattle.context_typing.proofs.WalkFacts.{pipe-steps}
use Rattle.rewrite_laws.specs.Rewrites.{branches, concat, drop_true, factor_branches, is_identity, pipe_or_identity, pipe_results, split_conjunction, step_results}
use Rattle.rewrite_laws.specs.TreeEquality.{step_same}
use Rattle.rewrite_laws.proofs.EachPlace.{typed_first}
use Rattle.rewrite_laws.proofs.FactorRule.{begins-with, concat-rests, rest-shapes, rests}
use Rattle.rewrite_laws.proofs.FilterRuns.{each-place}
use Rattle.rewrite_laws.proofs.RuleLemmas.{after-filter}
use Rattle.rewrite_laws.proofs.SameTrees.{Begin, rest}
use Rattle.rewrite_laws.proofs.StepLists.{identity-shape}
use Rattle.walk_laws.specs.Apart.{branches_apart, is_firm, is_loose, is_solid, kind_of, leads_to, may_go, never_first, some_never, stays_apart, step_apart}
use Rattle.walk_laws.specs.Factored.{before_concat, factored_branches}
use Rattle.walk_laws.specs.FiltersOut.{branches_give, front_of, front_kind, gives_alone, gives_no_other, has_own_front, lasting_kind, lasts, may_give, solid_kind, some_beside, some_lasting, some_own, stays_behind}
use Rattle.walk_laws.proofs.Lasting.{lasting-tight}
use Rattle.walk_laws.specs.Walks.{All, Segment, Test, all_steps, head_of, judged, parts, put_selection, put_step, put_steps, put_test, segment_steps, selection, settled_branches, settled_step, step_enters, taken, taken_as, tests_passed, with_test, without_orders}
use Rattle.walk_laws.proofs.ApartSteps.{never-filter, never-identity}
use Rattle.walk_laws.proofs.ApartPlaces.{branches-nowhere, factor-none, none-never, step-nowhere}
use Rattle.walk_laws.proofs.GivenFilters.{OutOf, StopsLast, middle-none, out-append, out-of-concat, put-stop, stop-step}
use Rattle.walk_laws.proofs.SameItself.{step-self}
use Rattle.walk_laws.proofs.SegmentTails.{SameBefore, StandsApart, steps-append, steps-same}
use Rattle.walk_laws.proofs.StayRules.{front-first, stay-filter}
use Rattle.walk_laws.proofs.Unsplit.{Unsplit, nothing-parts, one-part, unsplit-branches, unsplit-concat, unsplit-parts}
use Rattle.walk_laws.proofs.WalkPassing.{put-one}
use Rattle.walk_laws.proofs.WalkPuts.{one-filter, one-step}

-- ---- segments of concatenations

abbrev pub concat_with : (Test → Option Expr) → (List Expr → Pipes) → List Test → Segment
concat_with E K ts = record { lets = false; passes = λ t. false; enters = E; head = λ es. Some (Step.Concat (K es)); tests = ts }

-- two concatenations of which the first gives one filter more, before two lists
record ConcatsDiffer (e : Expr) (E : Test → Option Expr) (T1 T2 a b : List Segment) : Type 0 where
  k1 : List Expr → Pipes
  k2 : List Expr → Pipes
  tests : List Test
  out : (es : List Expr) → before_concat (factored_branches (k1 es)) ≡ Step.Filter e ∷ before_concat (factored_branches (k2 es))
  one : a ≡ concat_with E k1 tests ∷ T1
  other : b ≡ concat_with E k2 tests ∷ T2

pub put-concat : (E : Test → Option Expr) (K : List Expr → Pipes) (ts : List Test) (t : Test) (T : List Segment) → put_test t (concat_with E K ts ∷ T) ≡ taken (concat_with E K ts) t ∷ T
put-concat E K ts t T = ap (λ z. if z then concat_with E K ts ∷ put_test t T else taken (concat_with E K ts) t ∷ T) (middle-none (tests_passed ts t) false false refl)

pub concat-orders : (E : Test → Option Expr) (K : List Expr → Pipes) (ts : List Test) (T : List Segment) → without_orders (concat_with E K ts ∷ T) ≡ concat_with E K ts ∷ T
concat-orders E K [] T = refl
concat-orders E K (t ∷ ts) T = refl

pub concat-counts : (t : TopStep) (E : Test → Option Expr) (K : List Expr → Pipes) (ts : List Test) (T : List Segment) → put_selection t (concat_with E K ts ∷ T) ≡ selection t ∷ concat_with E K ts ∷ T
concat-counts t E K [] T = refl
concat-counts t E K (u ∷ ts) T = refl

concats-apart : (e : Expr) (E : Test → Option Expr) (T1 T2 : List Segment) → StandsApart (ConcatsDiffer e E T1 T2)
concats-apart e E T1 T2 = record {
  test = λ t a b k.
      let D : List Segment → List Segment → Type 0 = ConcatsDiffer e E T1 T2 in
      subst (λ z. D z (put_test t b)) (sym (ap (put_test t) k.one ∙ put-concat E k.k1 k.tests t T1))
      (subst (D (taken (concat_with E k.k1 k.tests) t ∷ T1)) (sym (ap (put_test t) k.other ∙ put-concat E k.k2 k.tests t T2))
      (go t k.k1 k.k2 k.tests k.out (if tests_passed k.tests t then E t else None)));
  orders = λ a b k. (ap without_orders k.one ∙ concat-orders E k.k1 k.tests T1 ∙ sym k.one, ap without_orders k.other ∙ concat-orders E k.k2 k.tests T2 ∙ sym k.other);
  counts = λ t a b k. (
    ap (put_selection t) k.one ∙ concat-counts t E k.k1 k.tests T1 ∙ ap (λ l. selection t ∷ l) (sym k.one),
    ap (put_selection t) k.other ∙ concat-counts t E k.k2 k.tests T2 ∙ ap (λ l. selection t ∷ l) (sym k.other),
  );
}
  where
    go : (t : Test) (k1 k2 : List Expr → Pipes) (ts : List Test) → ((es : List Expr) → before_concat (factored_branches (k1 es)) ≡ Step.Filter e ∷ before_concat (factored_branches (k2 es))) → (o : Option Expr)
        → ConcatsDiffer e E T1 T2 (taken_as (concat_with E k1 ts) t o ∷ T1) (taken_as (concat_with E k2 ts) t o ∷ T2)
    go t k1 k2 ts f None = record { k1 = k1; k2 = k2; tests = ts ++ (t ∷ []); out = f; one = refl; other = refl }
    go t k1 k2 ts f (Some x) = record { k1 = λ es. k1 (x ∷ es); k2 = λ es. k2 (x ∷ es); tests = ts; out = λ es. f (x ∷ es); one = refl; other = refl }

-- ---- what comes out of both

map-append : {X Y : Type 0} (f : X → Y) (xs ys : List X) → map f (xs ++ ys) ≡ map f xs ++ map f ys
map-append f [] ys = refl
map-append f (x ∷ xs) ys = ap (λ l. f x ∷ l) (map-append f xs ys)

abbrev pub filters_of : List Test → List Step
filters_of ts = map (λ (t : Test). Step.Filter t.expr) ts

-- a filter behind the last segment
with-last : (g : Segment) (gs : List Segment) (t : Test) → all_steps (with_test g t ∷ gs) ≡ all_steps (g ∷ gs) ++ (Step.Filter t.expr ∷ [])
with-last g gs t =
    ap (λ l. all_steps gs ++ (option_to_list (head_of g) ++ l)) (map-append (λ (t : Test). Step.Filter t.expr) g.tests (t ∷ []))
    ∙ ap (λ l. all_steps gs ++ l) (sym (append_assoc (option_to_list (head_of g)) (filters_of g.tests) (Step.Filter t.expr ∷ [])))
    ∙ sym (append_assoc (all_steps gs) (segment_steps g) (Step.Filter t.expr ∷ []))

-- what comes out of lists that end with a concatenation
out-ended : (E : Test → Option Expr) (K : List Expr → Pipes) (ts : List Test) (T ys : List Segment)
    → OutOf (all_steps (ys ++ (concat_with E K ts ∷ T))) ≡ (OutOf (all_steps T) ++ (before_concat (factored_branches (K [])) ++ OutOf (filters_of ts))) ++ OutOf (all_steps ys)
out-ended E K ts T ys =
    ap OutOf (steps-append ys (concat_with E K ts ∷ T))
    ∙ out-append (all_steps (concat_with E K ts ∷ T)) (all_steps ys)
    ∙ ap (λ l. l ++ OutOf (all_steps ys)) (out-append (all_steps T) (Step.Concat (K []) ∷ filters_of ts))

out-same : (e : Expr) (E : Test → Option Expr) (T1 T2 gs hs : List Segment) → OutOf (all_steps T2) ≡ OutOf (all_steps T1) ++ (Step.Filter e ∷ []) → SameBefore (ConcatsDiffer e E T1 T2) gs hs → OutOf (all_steps hs) ≡ OutOf (all_steps gs)
out-same e E T1 T2 gs hs more k =
    let d = k.differ in
    let ys = k.before in
    let c2 = before_concat (factored_branches (d.k2 [])) ++ OutOf (filters_of d.tests) in
    ap (λ l. OutOf (all_steps l)) (k.second ∙ ap (λ l. ys ++ l) d.other)
    ∙ out-ended E d.k2 d.tests T2 ys
    ∙ ap (λ l. (l ++ c2) ++ OutOf (all_steps ys)) more
    ∙ ap (λ l. l ++ OutOf (all_steps ys)) (append_assoc (OutOf (all_steps T1)) (Step.Filter e ∷ []) c2)
    ∙ sym (ap (λ l. OutOf (all_steps l)) (k.first ∙ ap (λ l. ys ++ l) d.one)
    ∙ out-ended E d.k1 d.tests T1 ys
    ∙ ap (λ l. (OutOf (all_steps T1) ++ (l ++ OutOf (filters_of d.tests))) ++ OutOf (all_steps ys)) (d.out []))

-- ---- the step that comes out is a filter

firm-stays : (x : Step) → is_firm x ≡ true → is_loose x ≡ false → may_go x ≡ false
firm-stays Step.Identity f l = cc
firm-stays (Step.Filter e) f l = cc
firm-stays (Step.OrderBy items) f l = cc
firm-stays x f l = l

leads-all : (x : Step) (ps : Pipes) → is_firm x ≡ true → is_loose x ≡ false → Begin x ps ≡ true → some_beside x ps ≡ false
leads-all x Pipes.NoPipes f l h = refl
leads-all x (Pipes.MorePipes p ps) f l h =
    let t = and_parts (is_some_and (step_same x) (slice_get (steps p) 0)) _ h in
    let q = begins-with x p t.0 in
    λ i. not ((ap (leads_to x) q.1 ∙ ap (λ z. if z then leads_to x q.0 else step_same x x) (firm-stays x f l) ∙ step-self x) i) || leads-all x ps f l t.1 i

none-own : (x : Step) (ps all : Pipes) → is_loose x ≡ false → Begin x ps ≡ true → Begin x all ≡ true → some_own all ps ≡ false
none-own x Pipes.NoPipes all l h k = refl
none-own x (Pipes.MorePipes p ps) all l h k =
    let t = and_parts (is_some_and (step_same x) (slice_get (steps p) 0)) _ h in
    let q = begins-with x p t.0 in
    λ i. (ap (λ p. has_own_front all (front_of p)) q.1 ∙ ap (has_own_front all) (front-first x q.0 l) ∙ go (is_firm x) refl) i || none-own x ps all l t.1 k i
  where
    go : (b : Bool) → is_firm x ≡ b → (is_firm x && some_beside x all) ≡ false
    go false e = ap (λ z. z && some_beside x all) e
    go true e = ap (λ z. is_firm x && z) (leads-all x all e l k) ∙ ap (λ z. z && false) e

none-lasting : (x : Step) (ps all : Pipes) → is_loose x ≡ false → Begin x ps ≡ true → Begin x all ≡ true → some_lasting all ps ≡ false
none-lasting x Pipes.NoPipes all l h k = refl
none-lasting x (Pipes.MorePipes p ps) all l h k =
    let t = and_parts (is_some_and (step_same x) (slice_get (steps p) 0)) _ h in
    let q = begins-with x p t.0 in
    λ i. (ap (λ p. is_some_and (λ x. some_never x all) (lasting_kind p)) q.1 ∙ go q.0 (lasts (Pipe.Then x q.0))) i || none-lasting x ps all l t.1 k i
  where
    solid : (b : Bool) → is_some_and (λ x. some_never x all) (then_some b (kind_of x)) ≡ false
    solid true = none-never x all k
    solid false = refl

    go : (q : Pipe) (b : Bool) → is_some_and (λ x. some_never x all) (if b then front_kind (Pipe.Then x q) else None) ≡ false
    go q true = ap (λ o. is_some_and (λ x. some_never x all) (option_and_then solid_kind o)) (front-first x q l) ∙ solid (is_solid x)
    go q false = refl

pub filter-given : (x : Step) (ps : Pipes) → is_identity x ≡ false → gives_no_other ps ≡ true → Begin x ps ≡ true → (e : Expr) × (x ≡ Step.Filter e)
filter-given x ps plain own h = go x plain (loose (is_loose x) refl)
  where
    loose : (b : Bool) → is_loose x ≡ b → is_loose x ≡ true
    loose true e = e
    loose false e = absurd (true≢false (sym own ∙ (λ i. none-own x ps ps e h h i || none-lasting x ps ps e h h i)))

    go : (x : Step) → is_identity x ≡ false → is_loose x ≡ true → (e : Expr) × (x ≡ Step.Filter e)
    go Step.Identity i l = cc
    go (Step.Filter e) i l = (e, refl)
    go (Step.Compute ns) i l = cc
    go (Step.OrderBy items) i l = cc
    go (Step.Skip n) i l = cc
    go (Step.Top n) i l = cc
    go (Step.Aggregate as') i l = cc
    go (Step.GroupBy ks T) i l = cc
    go (Step.Concat qs) i l = cc
    go (Step.Join outer n a T) i l = cc
    go (Step.TopBy t) i l = cc
    go (Step.Climb up h p T d keep) i l = cc
    go (Step.Traverse w) i l = cc

-- ---- filters stay in what is made

front-rest : (e : Expr) (p q : Pipe) → p ≡ Pipe.Then (Step.Filter e) q → drop 1 (steps p) ≡ steps q → front_of (rest p) ≡ front_of p
front-rest e p q h k = ap (λ l. front_of (pipe_or_identity l)) k ∙ go q ∙ sym (ap front_of h)
  where
    go : (q : Pipe) → front_of (pipe_or_identity (steps q)) ≡ front_of q
    go Pipe.End = refl
    go (Pipe.Then s q) = ap front_of (pipe-steps (Pipe.Then s q))

leads-rest : (x : Step) (e : Expr) (p q : Pipe) → p ≡ Pipe.Then (Step.Filter e) q → drop 1 (steps p) ≡ steps q → leads_to x (rest p) ≡ leads_to x p
leads-rest x e p q h k = ap (λ l. leads_to x (pipe_or_identity l)) k ∙ go q ∙ sym (ap (leads_to x) h)
  where
    go : (q : Pipe) → leads_to x (pipe_or_identity (steps q)) ≡ leads_to x q
    go Pipe.End = refl
    go (Pipe.Then s q) = ap (leads_to x) (pipe-steps (Pipe.Then s q))

apart-rest : (e : Expr) (p q : Pipe) → p ≡ Pipe.Then (Step.Filter e) q → drop 1 (steps p) ≡ steps q → stays_apart (rest p) ≡ stays_apart p
apart-rest e p q h k = ap (λ l. stays_apart (pipe_or_identity l)) k ∙ go q ∙ sym (ap stays_apart h)
  where
    go : (q : Pipe) → stays_apart (pipe_or_identity (steps q)) ≡ stays_apart q
    go Pipe.End = refl
    go (Pipe.Then s q) = ap stays_apart (pipe-steps (Pipe.Then s q))

beside-rests : (x : Step) (e : Expr) (ps : Pipes) → Begin (Step.Filter e) ps ≡ true → some_beside x (rests ps) ≡ some_beside x ps
beside-rests x e Pipes.NoPipes h = refl
beside-rests x e (Pipes.MorePipes p ps) h =
    let t = and_parts (is_some_and (step_same (Step.Filter e)) (slice_get (steps p) 0)) _ h in
    let q = begins-with (Step.Filter e) p t.0 in
    λ i. not (leads-rest x e p q.0 q.1 q.2 i) || beside-rests x e ps t.1 i

own-rests : (e : Expr) (all : Pipes) (ps : Pipes) → Begin (Step.Filter e) all ≡ true → Begin (Step.Filter e) ps ≡ true → some_own (rests all) (rests ps) ≡ some_own all ps
own-rests e all Pipes.NoPipes k h = refl
own-rests e all (Pipes.MorePipes p ps) k h =
    let t = and_parts (is_some_and (step_same (Step.Filter e)) (slice_get (steps p) 0)) _ h in
    let q = begins-with (Step.Filter e) p t.0 in
    λ i. (ap (has_own_front (rests all)) (front-rest e p q.0 q.1 q.2) ∙ go (front_of p)) i || own-rests e all ps k t.1 i
  where
    go : (o : Option Step) → has_own_front (rests all) o ≡ has_own_front all o
    go None = refl
    go (Some x) = ap (λ z. is_firm x && z) (beside-rests x e all k)

lasts-rest : (e : Expr) (p q : Pipe) → p ≡ Pipe.Then (Step.Filter e) q → drop 1 (steps p) ≡ steps q → lasts (rest p) ≡ lasts p
lasts-rest e p q h k = ap (λ l. lasts (pipe_or_identity l)) k ∙ go q ∙ sym (ap lasts h)
  where
    go : (q : Pipe) → lasts (pipe_or_identity (steps q)) ≡ lasts q
    go Pipe.End = refl
    go (Pipe.Then s q) = ap lasts (pipe-steps (Pipe.Then s q))

never-rest : (x : Step) (e : Expr) (p q : Pipe) → is_loose x ≡ false → p ≡ Pipe.Then (Step.Filter e) q → drop 1 (steps p) ≡ steps q → never_first x (rest p) ≡ never_first x p
never-rest x e p q l h k = ap (λ l. never_first x (pipe_or_identity l)) k ∙ go q ∙ sym (ap (never_first x) h ∙ never-filter x e q l)
  where
    go : (q : Pipe) → never_first x (pipe_or_identity (steps q)) ≡ never_first x q
    go Pipe.End = never-identity x Pipe.End l
    go (Pipe.Then s q) = ap (never_first x) (pipe-steps (Pipe.Then s q))

never-rests : (x : Step) (e : Expr) (ps : Pipes) → is_loose x ≡ false → Begin (Step.Filter e) ps ≡ true → some_never x (rests ps) ≡ some_never x ps
never-rests x e Pipes.NoPipes l h = refl
never-rests x e (Pipes.MorePipes p ps) l h =
    let t = and_parts (is_some_and (step_same (Step.Filter e)) (slice_get (steps p) 0)) _ h in
    let q = begins-with (Step.Filter e) p t.0 in
    λ i. never-rest x e p q.0 l q.1 q.2 i || never-rests x e ps l t.1 i

lasting-rests : (e : Expr) (all ps : Pipes) → Begin (Step.Filter e) all ≡ true → Begin (Step.Filter e) ps ≡ true → some_lasting (rests all) (rests ps) ≡ some_lasting all ps
lasting-rests e all Pipes.NoPipes k h = refl
lasting-rests e all (Pipes.MorePipes p ps) k h =
    let t = and_parts (is_some_and (step_same (Step.Filter e)) (slice_get (steps p) 0)) _ h in
    let q = begins-with (Step.Filter e) p t.0 in
    λ i. ((λ j. is_some_and (λ x. some_never x (rests all)) (if lasts-rest e p q.0 q.1 q.2 j then option_and_then solid_kind (front-rest e p q.0 q.1 q.2 j) else None)) ∙ go (lasting_kind p) (lasting-tight p)) i || lasting-rests e all ps k t.1 i
  where
    go : (o : Option Step) → ((x : Step) → o ≡ Some x → is_loose x ≡ false) → is_some_and (λ x. some_never x (rests all)) o ≡ is_some_and (λ x. some_never x all) o
    go None f = refl
    go (Some x) f = never-rests x e all (f x refl) k

apart-rests : (e : Expr) (ps : Pipes) → Begin (Step.Filter e) ps ≡ true → branches_apart (rests ps) ≡ branches_apart ps
apart-rests e Pipes.NoPipes h = refl
apart-rests e (Pipes.MorePipes p ps) h =
    let t = and_parts (is_some_and (step_same (Step.Filter e)) (slice_get (steps p) 0)) _ h in
    let q = begins-with (Step.Filter e) p t.0 in
    λ i. apart-rest e p q.0 q.1 q.2 i && apart-rests e ps t.1 i

give-rest : (e : Expr) (p q : Pipe) → p ≡ Pipe.Then (Step.Filter e) q → drop 1 (steps p) ≡ steps q → may_give true true (rest p) ≡ may_give true true p
give-rest e p q h k = ap (λ l. may_give true true (pipe_or_identity l)) k ∙ go q ∙ sym (ap (may_give true true) h ∙ stay-filter true true e q)
  where
    go : (q : Pipe) → may_give true true (pipe_or_identity (steps q)) ≡ may_give true true q
    go Pipe.End = refl
    go (Pipe.Then s q) = ap (may_give true true) (pipe-steps (Pipe.Then s q))

give-rests : (a : Bool) (e : Expr) (ps : Pipes) → Begin (Step.Filter e) ps ≡ true → branches_give a (rests ps) ≡ branches_give a ps
give-rests false e ps h = apart-rests e ps h
give-rests true e Pipes.NoPipes h = refl
give-rests true e (Pipes.MorePipes p ps) h =
    let t = and_parts (is_some_and (step_same (Step.Filter e)) (slice_get (steps p) 0)) _ h in
    let q = begins-with (Step.Filter e) p t.0 in
    λ i. give-rest e p q.0 q.1 q.2 i && give-rests true e ps t.1 i

pub gives-rests : (a : Bool) (e : Expr) (ps : Pipes) → Begin (Step.Filter e) ps ≡ true → gives_alone a (Step.Concat (rests ps)) ≡ gives_alone a (Step.Concat ps)
gives-rests a e ps h = λ i. (own-rests e ps ps h h i || lasting-rests e ps ps h h i) && give-rests a e ps h i

-- ---- at the concatenation

pub either : (a b : Bool) → (a || b) ≡ true → (a ≡ true) ⊎ (b ≡ true)
either true b h = inl refl
either false b h = inr h

module _ (m : Model) (c : Customs) where
  -- the filter with which all branches begin is typed, and is one part
  pub first-typed : (S S' : Shape) (e : Expr) (p : Pipe) (ps : Pipes) (B : Pipe) → steps_shape m c S (Pipe.Then (Step.Concat (Pipes.MorePipes p ps)) B) ≡ Some S' → Begin (Step.Filter e) (Pipes.MorePipes p ps) ≡ true → step_shape m c S (Step.Filter e) ≡ Some S
  unfolding steps_shape
  first-typed S S' e p ps B typed h =
      let x = typed_first m c S S' (Step.Concat (Pipes.MorePipes p ps)) B typed in
      let v = chained (concat_shape m) (all_some (branch_shapes m c S (Pipes.MorePipes p ps))) (after m c S (Step.Concat (Pipes.MorePipes p ps))) x.0 in
      let u = all_some-head (if is_long p then steps_shape m c S p else None) (branch_shapes m c S ps) v.0 v.1 in
      let w = if_else-parts (is_long p) (steps_shape m c S p) u.0 u.1 in
      let t = and_parts (is_some_and (step_same (Step.Filter e)) (slice_get (steps p) 0)) _ h in
      let q = begins-with (Step.Filter e) p t.0 in
      (typed_first m c S u.0 (Step.Filter e) q.0 (ap (steps_shape m c S) (sym q.1) ∙ w.1)).0 ∙ ap (λ Z. Some Z) (after-filter m c S e)

  pub first-one : (S : Shape) (before : Bool) (e : Expr) (p : Pipe) (ps : Pipes) (B : Pipe) → Unsplit m c S before (Pipe.Then (Step.Concat (Pipes.MorePipes p ps)) B) → Begin (Step.Filter e) (Pipes.MorePipes p ps) ≡ true → parts m S e ≡ e ∷ []
  first-one S before e p ps B u h =
      let t = and_parts (is_some_and (step_same (Step.Filter e)) (slice_get (steps p) 0)) _ h in
      let q = begins-with (Step.Filter e) p t.0 in
      let v = (unsplit-branches m c S p ps (unsplit-concat m c S (Pipes.MorePipes p ps) (unsplit-parts m c S before (Step.Concat (Pipes.MorePipes p ps)) B u).0)).0 in
      let w = subst (Unsplit m c S false) q.1 v in
      one-part m c S false e (steps q.0) (nothing-parts split_conjunction m c S false (Step.Filter e) q.0 w.split).0 (nothing-parts drop_true m c S false (Step.Filter e) q.0 w.true').0

  -- what is behind the filter in a branch is typed as the branch
  rest-typed : (S : Shape) (e : Expr) (p : Pipe) → step_shape m c S (Step.Filter e) ≡ Some S → is_some_and (step_same (Step.Filter e)) (slice_get (steps p) 0) ≡ true → steps_shape m c S (rest p) ≡ steps_shape m c S p
  unfolding steps_shape
  rest-typed S e p typed h =
      let q = begins-with (Step.Filter e) p h in
      ap (λ l. steps_shape m c S (pipe_or_identity l)) q.2 ∙ identity-shape m c S (steps q.0) ∙ ap (steps_shape m c S) (pipe-steps q.0)
      ∙ sym (ap (steps_shape m c S) q.1 ∙ ap (option_and_then (λ T. steps_shape m c T q.0)) typed)

  rests-typed : (S : Shape) (e : Expr) (t : Test) (ps : Pipes) → step_shape m c S (Step.Filter e) ≡ Some S → Begin (Step.Filter e) ps ≡ true
      → list_all (λ p. is_some_and (λ S'. has_kind is_boolean_kind m S' t.expr) (steps_shape m c S p)) (branches (rests ps)) ≡ list_all (λ p. is_some_and (λ S'. has_kind is_boolean_kind m S' t.expr) (steps_shape m c S p)) (branches ps)
  rests-typed S e t Pipes.NoPipes typed h = refl
  rests-typed S e t (Pipes.MorePipes p ps) typed h =
      let u = and_parts (is_some_and (step_same (Step.Filter e)) (slice_get (steps p) 0)) _ h in
      λ i. is_some_and (λ S'. has_kind is_boolean_kind m S' t.expr) (rest-typed S e p typed u.0 i) && rests-typed S e t ps typed u.1 i

  pub enters-same : (S : Shape) (e : Expr) (ps : Pipes) → step_shape m c S (Step.Filter e) ≡ Some S → Begin (Step.Filter e) ps ≡ true → step_enters All m c S (Step.Concat (rests ps)) ≡ step_enters All m c S (Step.Concat ps)
  enters-same S e ps typed h = λ i t. then_some (rests-typed S e t ps typed h i) t.expr

  pub behind-same : (S : Shape) (e : Expr) (ps : Pipes) → step_shape m c S (Step.Filter e) ≡ Some S → Begin (Step.Filter e) ps ≡ true → after m c S (Step.Concat (rests ps)) ≡ after m c S (Step.Concat ps)
  unfolding steps_shape
  behind-same S e ps typed h = ap (λ l. unwrap_or (option_and_then (concat_shape m) (all_some l)) S) (rest-shapes m c S S (Step.Filter e) ps typed h)

  pub concat-put : (S : Shape) (ps : Pipes) (B : Pipe) (gs : List Segment) → put_steps All m c S (Pipe.Then (Step.Concat ps) B) gs ≡ put_steps All m c (after m c S (Step.Concat ps)) B (concat_with (step_enters All m c S (Step.Concat ps)) (settled_branches All m c S ps) [] ∷ gs)
  unfolding put_steps
  concat-put S ps B gs = one-step All m c S (Step.Concat ps) B gs

  given-put : (S S' : Shape) (before : Bool) (e : Expr) (p : Pipe) (ps : Pipes) (B : Pipe) (gs : List Segment) → StopsLast gs → steps_shape m c S (Pipe.Then (Step.Concat (Pipes.MorePipes p ps)) B) ≡ Some S' → Unsplit m c S before (Pipe.Then (Step.Concat (Pipes.MorePipes p ps)) B) → Begin (Step.Filter e) (Pipes.MorePipes p ps) ≡ true
      → OutOf (all_steps (put_steps All m c S (Pipe.Then (Step.Filter e) (Pipe.Then (Step.Concat (rests (Pipes.MorePipes p ps))) B)) gs)) ≡ OutOf (all_steps (put_steps All m c S (Pipe.Then (Step.Concat (Pipes.MorePipes p ps)) B) gs))
  given-put S S' before e p ps B gs stop typed u h =
      let qs = Pipes.MorePipes p ps in
      let ft = first-typed S S' e p ps B typed h in
      let one = first-one S before e p ps B u h in
      let f : Test = judged m S e in
      let T1 = gs in
      let T2 = with_test stop.last f ∷ stop.others in
      let E = step_enters All m c S (Step.Concat qs) in
      let T = after m c S (Step.Concat qs) in
      let K1 = settled_branches All m c S qs in
      let K2 = settled_branches All m c S (rests qs) in
      let more : OutOf (all_steps T2) ≡ OutOf (all_steps T1) ++ (Step.Filter e ∷ []) =
      ap OutOf (with-last stop.last stop.others f ∙ ap (λ l. all_steps l ++ (Step.Filter e ∷ [])) (sym stop.parts')) ∙ out-append (all_steps T1) (Step.Filter e ∷ []) in
      let k : SameBefore (ConcatsDiffer e E T1 T2) (put_steps All m c T B (concat_with E K1 [] ∷ T1)) (put_steps All m c T B (concat_with E K2 [] ∷ T2)) =
      steps-same (ConcatsDiffer e E T1 T2) (concats-apart e E T1 T2) m c T B (concat_with E K1 [] ∷ T1) (concat_with E K2 [] ∷ T2)
      (record { before = []; one = concat_with E K1 [] ∷ T1; other = concat_with E K2 [] ∷ T2; first = refl; second = refl; differ = record { k1 = K1; k2 = K2; tests = []; out = λ es. out-of-concat m c S e one p ps es h; one = refl; other = refl } }) in
      ap (λ l. OutOf (all_steps l))
      (one-filter All m c S e (Pipe.Then (Step.Concat (rests qs)) B) gs
      ∙ ap (put_steps All m c S (Pipe.Then (Step.Concat (rests qs)) B)) (put-one All m c S e gs one ∙ ap (put_test f) stop.parts' ∙ put-stop stop.last f stop.others stop.stops)
      ∙ concat-put S (rests qs) B T2
      ∙ (λ i. put_steps All m c (behind-same S e qs ft h i) B (concat_with (enters-same S e qs ft h i) K2 [] ∷ T2)))
      ∙ out-same e E T1 T2 (put_steps All m c T B (concat_with E K1 [] ∷ T1)) (put_steps All m c T B (concat_with E K2 [] ∷ T2)) more k
      ∙ sym (ap (λ l. OutOf (all_steps l)) (concat-put S qs B gs))

  -- both sides come to the same
  abbrev pub ComesSame : Shape → Bool → List Segment → Pipe → Pipe → Type 0
  ComesSame S b gs p q = (OutOf (all_steps (put_steps All m c S q gs)) ≡ OutOf (all_steps (put_steps All m c S p gs))) × (may_give false b q ≡ true)

  at-concat : (S S' : Shape) (before b : Bool) (s : Step) (B : Pipe) (ss' : List Step) (gs : List Segment) → (b ≡ true → StopsLast gs) → may_give false b (Pipe.Then s B) ≡ true → steps_shape m c S (Pipe.Then s B) ≡ Some S' → Unsplit m c S before (Pipe.Then s B)
      → factor_branches m c S before s (steps B) ≡ Some ss' → ComesSame S b gs (Pipe.Then s B) (pipe ss')
  at-concat S S' before b (Step.Concat Pipes.NoPipes) B ss' gs stop h typed u got = none_or ss' got
  at-concat S S' before b (Step.Concat (Pipes.MorePipes Pipe.End ps)) B ss' gs stop h typed u got = none_or ss' got
  at-concat S S' before b (Step.Concat (Pipes.MorePipes (Pipe.Then x q) ps)) B ss' gs stop h typed u got =
      elim (either (step_apart (Step.Concat qs)) (b && gives_alone false (Step.Concat qs)) (and_parts (step_apart (Step.Concat qs) || (b && gives_alone false (Step.Concat qs))) _ h).0) [
        | inl a ↦ none_or ss' (sym (factor-none m c S before (Step.Concat qs) (steps B) a) ∙ got)
        | inr a ↦ given a
      ]
    where
      qs : Pipes
      qs = Pipes.MorePipes (Pipe.Then x q) ps

      t : ((not (is_identity x) && Begin x qs) ≡ true) × ((x ∷ concat (map rest (branches qs)) ∷ steps B) ≡ ss')
      t = then_some-parts (not (is_identity x) && Begin x qs) (x ∷ concat (map rest (branches qs)) ∷ steps B) ss' got

      into : pipe ss' ≡ Pipe.Then x (Pipe.Then (Step.Concat (rests qs)) B)
      into = sym (ap pipe t.1) ∙ (λ i. Pipe.Then x (Pipe.Then (Step.Concat (concat-rests qs i)) (pipe-steps B i)))

      not-back : (z : Bool) → not z ≡ true → z ≡ false
      not-back true e = cc
      not-back false e = refl

      given : (b && gives_alone false (Step.Concat qs)) ≡ true → ComesSame S b gs (Pipe.Then (Step.Concat qs) B) (pipe ss')
      given a =
          let v = and_parts b (gives_alone false (Step.Concat qs)) a in
          let y = and_parts (not (is_identity x)) (Begin x qs) t.0 in
          let f = filter-given x qs (not-back (is_identity x) y.0) (and_parts (gives_no_other qs) (branches_apart qs) v.1).0 y.1 in
          let begin : Begin (Step.Filter f.0) qs ≡ true = ap (λ x. Begin x qs) (sym f.1) ∙ y.1 in
          let made : pipe ss' ≡ Pipe.Then (Step.Filter f.0) (Pipe.Then (Step.Concat (rests qs)) B) = into ∙ ap (λ x. Pipe.Then x (Pipe.Then (Step.Concat (rests qs)) B)) f.1 in (
            ap (λ p. OutOf (all_steps (put_steps All m c S p gs))) made ∙ given-put S S' before f.0 (Pipe.Then x q) ps B gs (stop v.0) typed u begin,
            ap (may_give false b) made ∙ stay-filter false b f.0 (Pipe.Then (Step.Concat (rests qs)) B)
                ∙ and_from (step_apart (Step.Concat (rests qs)) || (b && gives_alone false (Step.Concat (rests qs)))) (may_give false (stays_behind b (Step.Concat (rests qs))) B)
                (or_right (step_apart (Step.Concat (rests qs))) (b && gives_alone false (Step.Concat (rests qs))) (ap (λ z. b && z) (gives-rests false f.0 qs begin) ∙ a))
                (and_parts (step_apart (Step.Concat qs) || (b && gives_alone false (Step.Concat qs))) (may_give false (stays_behind b (Step.Concat qs)) B) h).1,
          )
  at-concat S S' before b s B ss' gs stop h typed u got = none_or ss' got

  -- no step comes out of what stands inside a step
  inside-none : (S : Shape) (b : Bool) (s : Step) (p : Pipe) → may_give false b (Pipe.Then s p) ≡ true → step_results factor_branches m c S s ≡ []
  unfolding pipe_results
  inside-none S b (Step.Concat ps) p h =
      elim (either (step_apart (Step.Concat ps)) (b && gives_alone false (Step.Concat ps)) (and_parts (step_apart (Step.Concat ps) || (b && gives_alone false (Step.Concat ps))) _ h).0) [
        | inl a ↦ step-nowhere m c (Step.Concat ps) S a
        | inr a ↦ ap (map Step.Concat) (branches-nowhere m c ps S (and_parts (gives_no_other ps) (branches_apart ps) (and_parts b (gives_alone false (Step.Concat ps)) a).1).1)
      ]
  inside-none S b s p h = step-nowhere m c s S (apart (either (step_apart s) (b && gives_alone false s) (and_parts (step_apart s || (b && gives_alone false s)) _ h).0))
    where
      apart : (step_apart s ≡ true) ⊎ ((b && gives_alone false s) ≡ true) → step_apart s ≡ true
      apart (inl a) = a
      apart (inr a) = absurd (true≢false (sym (and_parts b (gives_alone false s) a).1))

  -- behind a step
  rest-same : (S : Shape) (b : Bool) (s : Step) (p : Pipe) (gs : List Segment) → may_give false b (Pipe.Then s p) ≡ true
      → (may_give false (stays_behind b s) p ≡ true → Each (ComesSame (after m c S s) (stays_behind b s) (put_step All m c S s (settled_step All m c S s) gs) p) (pipe_results factor_branches m c (after m c S s) true p))
      → Each (ComesSame S b gs (Pipe.Then s p)) (map (Pipe.Then s) (pipe_results factor_branches m c (after m c S s) true p))
  rest-same S b s p gs h f =
      let v = and_parts (step_apart s || (b && gives_alone false s)) (may_give false (stays_behind b s) p) h in
      let G = put_step All m c S s (settled_step All m c S s) gs in
      each-map (ComesSame S b gs (Pipe.Then s p)) (ComesSame (after m c S s) (stays_behind b s) G p) (Pipe.Then s)
      (λ q k. (
        ap (λ l. OutOf (all_steps l)) (one-step All m c S s q gs) ∙ k.0 ∙ sym (ap (λ l. OutOf (all_steps l)) (one-step All m c S s p gs)),
        and_from (step_apart s || (b && gives_alone false s)) (may_give false (stays_behind b s) q) v.0 k.1,
      ))
      (pipe_results factor_branches m c (after m c S s) true p)
      (f v.1)

  -- at any place
  pub comes_same : (p : Pipe) (S S' : Shape) (before b : Bool) (gs : List Segment) → (b ≡ true → StopsLast gs) → may_give false b p ≡ true → steps_shape m c S p ≡ Some S' → Unsplit m c S before p → Each (ComesSame S b gs p) (pipe_results factor_branches m c S before p)
  unfolding pipe_results
  comes_same Pipe.End S S' before b gs stop h typed u = tt
  comes_same (Pipe.Then s p) S S' before b gs stop h typed u =
      let here = map pipe (option_to_list (factor_branches m c S before s (steps p))) in
      let inside = map (λ s'. Pipe.Then s' p) (step_results factor_branches m c S s) in
      let behind' = map (Pipe.Then s) (pipe_results factor_branches m c (after m c S s) true p) in
      let M = ComesSame S b gs (Pipe.Then s p) in
      each-append M (here ++ inside) behind'
      (each-append M here inside
      (each-place M (factor_branches m c S before s (steps p)) (λ ss' e. at-concat S S' before b s p ss' gs stop h typed u e))
      (subst (λ l. Each M (map (λ s'. Pipe.Then s' p) l)) (sym (inside-none S b s p h)) tt))
      (rest-same S b s p gs h
      (λ v. comes_same p (after m c S s) S' true (stays_behind b s) (put_step All m c S s (settled_step All m c S s) gs) (λ z. stop-step m c S b s (settled_step All m c S s) gs stop z) v (typed_first m c S S' s p typed).1 (unsplit-parts m c S before s p u).1))
