-- A filter that goes into a step by a rule goes to where one walk puts it.
use Rattle.std.proofs.Common.{◌≡◌, refl, sym, ◌∙◌, ap, subst, Bool, true, false, not, ◌&&◌, List, [], ◌∷◌, Option, Some, None, find, if◌then◌else◌}
use Rattle.std.specs.Prelude.{option_and_then, option_map, unwrap_or}
use Rattle.std.specs.List.{list_all}
use Rattle.std.proofs.Math.Bool.{and-true}
use Rattle.std.proofs.lemmas.Bool.{and_parts, or_right}
use Rattle.edm_values.specs.Lists.{is_nonempty}
use Rattle.edm_values.specs.Literals.{is_boolean_kind}
use Rattle.edm_values.proofs.EachLemmas.{Each, each-weaker}
use Rattle.edm_values.proofs.ListFacts.{all-append}
use Rattle.edm_values.proofs.OptionFacts.{mapped}
use Rattle.edm_model.specs.Models.{Model}
use Rattle.apply_ast.specs.Trees.{Expr, Pipe, Step, pipe}
use Rattle.context_typing.specs.Shapes.{Shape}
use Rattle.context_typing.specs.Typing.{Customs, after, has_kind, is_sure, step_shape, steps_shape}
use Rattle.rewrite_laws.specs.Rewrites.{FilterRun, behind, movable}
use Rattle.rewrite_laws.proofs.RuleLemmas.{MayPass, filters, filters-typed, movable-found, pipe-filters}
use Rattle.walk_laws.specs.Walks.{Rules, Segment, Test, entered, judged, parts, put_step, put_steps, put_test, segment, segment_passed, settled_step, step_enters, step_passed, taken, taken_as, tests_passed, with_test}
use Rattle.walk_laws.proofs.NearestFilters.{nearest-refused}
use Rattle.walk_laws.proofs.Unsplit.{Unsplit, unsplit-filters}
use Rattle.walk_laws.proofs.WalkPassing.{put-one, put-passed, put-taken}
use Rattle.walk_laws.proofs.WalkPuts.{one-filter, one-step}

-- a filter for which the step has no way in stays behind, or passes
pub no-way_in : (b : Bool) (o : Option Expr) → o ≡ None → (if b then o else None) ≡ None
no-way_in true o e = e
no-way_in false o e = refl

-- the same of two ways to put a filter
either-way : (z : Bool) (a b : List Segment) (X : List Segment → Type 0) → (z ≡ true → X a) → (z ≡ false → X b) → X (if z then a else b)
either-way true a b X f g = f refl
either-way false a b X f g = g refl

module _ (w : Rules) (m : Model) (c : Customs) (T : Shape) (b : Expr) (b' : Expr) (one : parts m T b ≡ b ∷ []) where
  abbrev test : Test
  test = judged m T b

  -- the segment with the filter in its step
  abbrev inside : Segment → Segment
  inside g = entered g test b'

  -- the filter next to the step
  last-in : (g : Segment) (p : Pipe) (gs : List Segment) → g.passes test ≡ false → g.enters test ≡ Some b' → tests_passed g.tests test ≡ true → put_steps w m c T p (inside g ∷ gs) ≡ put_steps w m c T (Pipe.Then (Step.Filter b) p) (g ∷ gs)
  last-in g p gs stays way past = sym (
      one-filter w m c T b p (g ∷ gs)
      ∙ ap (put_steps w m c T p) (put-one w m c T b (g ∷ gs) one ∙ put-taken g test gs stays ∙ ap (λ o. taken_as g test o ∷ gs) (ap (λ z. if z then g.enters test else None) past ∙ way)))

  -- behind sure filters, each of which stays behind the step or passes it
  sure-in : (es : List Expr) (g : Segment) (p : Pipe) (gs : List Segment) → g.passes test ≡ false → g.enters test ≡ Some b' → is_sure m T b ≡ true → list_all (λ (u : Test). u.sure) g.tests ≡ true → list_all (is_sure m T) es ≡ true
      → Each (λ e. g.enters (judged m T e) ≡ None) es → Each (λ e. parts m T e ≡ e ∷ []) es → put_steps w m c T (filters es p) (inside g ∷ gs) ≡ put_steps w m c T (filters es (Pipe.Then (Step.Filter b) p)) (g ∷ gs)
  sure-in [] g p gs stays way sure tests all r o = last-in g p gs stays way (or_right (not (is_nonempty g.tests)) (list_all (λ (u : Test). u.sure) g.tests && is_sure m T b) (λ i. tests i && sure i))
  sure-in (e ∷ es) g p gs stays way sure tests all r o =
      let t = judged m T e in
      let a = and_parts (is_sure m T e) _ all in
      let X : List Segment → Type 0 = λ hs. put_steps w m c T (filters (e ∷ es) p) (inside g ∷ gs) ≡ put_steps w m c T (filters es (Pipe.Then (Step.Filter b) p)) hs in
      either-way (segment_passed g t) (g ∷ put_test t gs) (taken g t ∷ gs) X
      (λ passed.
      one-filter w m c T e (filters es p) (inside g ∷ gs)
      ∙ ap (put_steps w m c T (filters es p)) (put-one w m c T e (inside g ∷ gs) o.0 ∙ put-passed (inside g) t gs (ap (λ z. tests_passed g.tests t && z && g.passes t) (ap (λ z. g.lets && z) sure ∙ and-true g.lets) ∙ passed))
      ∙ sure-in es g p (put_test t gs) stays way sure tests a.1 r.1 o.1)
      (λ not_passed.
      one-filter w m c T e (filters es p) (inside g ∷ gs)
      ∙ ap (put_steps w m c T (filters es p)) (
      put-one w m c T e (inside g ∷ gs) o.0
      ∙ ap (λ z. if z then inside g ∷ put_test t gs else taken (inside g) t ∷ gs) (ap (λ z. tests_passed g.tests t && z && g.passes t) (ap (λ z. g.lets && z) sure ∙ and-true g.lets) ∙ not_passed)
      ∙ ap (λ o. taken_as (inside g) t o ∷ gs) (no-way_in (tests_passed g.tests t) (g.enters t) r.0))
      ∙ sure-in es (with_test g t) p gs stays way sure (all-append (λ (u : Test). u.sure) g.tests (t ∷ []) tests (ap (λ z. z && true) a.0)) a.1 r.1 o.1
      ∙ ap (λ h. put_steps w m c T (filters es (Pipe.Then (Step.Filter b) p)) (h ∷ gs)) (sym (ap (taken_as g t) (no-way_in (tests_passed g.tests t) (g.enters t) r.0))))
      ∙ sym (one-filter w m c T e (filters es (Pipe.Then (Step.Filter b) p)) (g ∷ gs) ∙ ap (put_steps w m c T (filters es (Pipe.Then (Step.Filter b) p))) (put-one w m c T e (g ∷ gs) o.0))

  -- behind filters that may be passed
  goes-in : (es : List Expr) (g : Segment) (p : Pipe) (gs : List Segment) → g.passes test ≡ false → g.enters test ≡ Some b' → MayPass m T es b → g.tests ≡ []
      → Each (λ e. g.enters (judged m T e) ≡ None) es → Each (λ e. parts m T e ≡ e ∷ []) es → put_steps w m c T (filters es p) (inside g ∷ gs) ≡ put_steps w m c T (filters es (Pipe.Then (Step.Filter b) p)) (g ∷ gs)
  goes-in [] g p gs stays way may bare r o = last-in g p gs stays way (ap (λ ts. tests_passed ts test) bare)
  goes-in (e ∷ es) g p gs stays way may bare r o =
      let v = and_parts (list_all (is_sure m T) (e ∷ es)) (is_sure m T b) may in
      sure-in (e ∷ es) g p gs stays way v.1 (ap (list_all (λ (u : Test). u.sure)) bare) v.0 r o

-- ---- the step that a filter goes into

-- what a rule asks of the step: a typed filter that passes the test goes into it as something, and then it is another step with that filter inside; one that does not has no way in
pub record IsEntered (w : Rules) (m : Model) (c : Customs) (S S1 : Shape) (x : Step) (test : Expr → Bool) (into : Expr → Step) (form : Expr → Expr) : Type 0 where
  pub put : (gs : List Segment) → put_step w m c S x (settled_step w m c S x) gs ≡ segment w m c S x (settled_step w m c S x) ∷ gs
  pub put_into : (b : Expr) (gs : List Segment) → put_step w m c S (into b) (settled_step w m c S (into b)) gs ≡ segment w m c S (into b) (settled_step w m c S (into b)) ∷ gs
  pub refuses : (e : Expr) → test e ≡ false → step_enters w m c S x (judged m S1 e) ≡ None
  pub enters : (b : Expr) → test b ≡ true → has_kind is_boolean_kind m S1 b ≡ true → step_enters w m c S x (judged m S1 b) ≡ Some (form b)
  pub stays : (b : Expr) → test b ≡ true → step_passed w x (judged m S1 b) ≡ false
  pub made : (b : Expr) → test b ≡ true → has_kind is_boolean_kind m S1 b ≡ true
      → (step_shape m c S (into b) ≡ Some S1) × (segment w m c S (into b) (settled_step w m c S (into b)) ≡ entered (segment w m c S x (settled_step w m c S x)) (judged m S1 b) (form b))

module _ (w : Rules) (m : Model) (c : Customs) (S S1 : Shape) (x : Step) (test : Expr → Bool) (into : Expr → Step) (form : Expr → Expr) (h : IsEntered w m c S S1 x test into form) where
  -- what such a rule makes is put as what was there
  pub entering-put : (ss ss' : List Step) (before : Bool) (gs : List Segment) (S' : Shape) → step_shape m c S x ≡ Some S1 → steps_shape m c S (pipe (x ∷ ss)) ≡ Some S' → Unsplit m c (after m c S x) before (pipe ss)
      → option_map (λ r. behind (into r.last) r) (find (λ r. test r.last) (movable m (after m c S x) ss)) ≡ Some ss' → put_steps w m c S (pipe ss') gs ≡ put_steps w m c S (pipe (x ∷ ss)) gs
  unfolding steps_shape
  entering-put ss ss' before gs S' e typed unsplit got =
      let at : after m c S x ≡ S1 = ap (λ o. unwrap_or o S) e in
      let t = mapped (λ r. behind (into r.last) r) (find (λ r. test r.last) (movable m (after m c S x) ss)) ss' got in
      let found : find (λ (r : FilterRun). test r.last) (movable m S1 ss) ≡ Some t.0 = ap (λ Z. find (λ (r : FilterRun). test r.last) (movable m Z ss)) (sym at) ∙ t.1 in
      let r = movable-found m S1 test ss t.0 found in
      let es = (t.0).between in
      let b = (t.0).last in
      let p = pipe (t.0).rest in
      let from = ap pipe r.whole ∙ pipe-filters es (Step.Filter b ∷ (t.0).rest) in
      let to : pipe ss' ≡ Pipe.Then (into b) (filters es p) = sym (ap pipe t.2) ∙ ap (λ p. Pipe.Then (into b) p) (pipe-filters es (t.0).rest) in
      let f = filters-typed m c S1 S' es (Pipe.Then (Step.Filter b) p) (sym (ap (steps_shape m c S1) from) ∙ sym (ap (option_and_then (λ Z. steps_shape m c Z (pipe ss))) e) ∙ typed) in
      let u = filters-typed m c S1 S' (b ∷ []) p f.1 in
      let v = unsplit-filters m c S1 before es b p (subst (Unsplit m c S1 before) from (subst (λ Z. Unsplit m c Z before (pipe ss)) at unsplit)) in
      let boolean = (and_parts (has_kind is_boolean_kind m S1 b) _ u.0).0 in
      let k = h.made b r.tested boolean in
      let own = segment w m c S x (settled_step w m c S x) in
      ap (λ q. put_steps w m c S q gs) to
      ∙ one-step w m c S (into b) (filters es p) gs
      ∙ ap (λ o. put_steps w m c (unwrap_or o S) (filters es p) (put_step w m c S (into b) (settled_step w m c S (into b)) gs)) k.0
      ∙ ap (put_steps w m c S1 (filters es p)) (h.put_into b gs ∙ ap (λ g. g ∷ gs) k.1)
      ∙ goes-in w m c S1 b (form b) v.1 es own p gs (h.stays b r.tested) (h.enters b r.tested boolean) r.passes refl
      (each-weaker (λ e. test e ≡ false) (λ e. own.enters (judged m S1 e) ≡ None) es h.refuses (nearest-refused m S1 test ss t.0 found)) v.0
      ∙ sym (ap (put_steps w m c S1 (filters es (Pipe.Then (Step.Filter b) p))) (h.put gs))
      ∙ sym (ap (λ o. put_steps w m c (unwrap_or o S) (filters es (Pipe.Then (Step.Filter b) p)) (put_step w m c S x (settled_step w m c S x) gs)) e)
      ∙ sym (one-step w m c S x (filters es (Pipe.Then (Step.Filter b) p)) gs)
      ∙ sym (ap (λ q. put_steps w m c S (Pipe.Then x q) gs) from)
