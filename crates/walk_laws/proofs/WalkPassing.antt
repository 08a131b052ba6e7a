-- A filter that passes a step by a rule goes to where one walk puts it.
use Rattle.std.proofs.Common.{◌≡◌, refl, sym, ◌∙◌, ap, subst, Bool, true, false, not, ◌&&◌, List, [], ◌∷◌, Option, Some, None, IsTrue, map, find, if◌then◌else◌}
use Rattle.std.specs.List.{list_all}
use Rattle.std.proofs.Math.Bool.{and-true}
use Rattle.std.proofs.lemmas.Bool.{and_parts, or_right}
use Rattle.edm_values.specs.Lists.{is_nonempty}
use Rattle.edm_values.proofs.EachLemmas.{Each, each-weaker}
use Rattle.edm_values.proofs.ListFacts.{all-append}
use Rattle.edm_values.proofs.OptionFacts.{mapped}
use Rattle.edm_model.specs.Models.{Model}
use Rattle.apply_ast.specs.Trees.{Expr, Pipe, Step, pipe}
use Rattle.context_typing.specs.Shapes.{Shape}
use Rattle.context_typing.specs.Typing.{Customs, after, customs_typed, is_lawful, is_sure, steps_shape}
use Rattle.rewrite_laws.specs.Rewrites.{Rule, behind, movable, passing}
use Rattle.rewrite_laws.proofs.RuleLemmas.{MayPass, filters, movable-found, pipe-filters}
use Rattle.walk_laws.specs.Walks.{Rules, Segment, Test, judged, parts, put_filter, put_step, put_steps, put_test, put_tests, segment, segment_passed, settled_step, step_lets, step_passed, taken, taken_as, tests_passed, unbranched_step}
use Rattle.walk_laws.proofs.NearestFilters.{Refused, nearest-refused}
use Rattle.walk_laws.proofs.SameOnShapes.{AreAlike}
use Rattle.walk_laws.proofs.Unsplit.{Unsplit, unsplit-filters}
use Rattle.walk_laws.proofs.WalkPuts.{one-filter}

-- a rule's place in a typed pipeline; where that is needed, no filter behind the place is split or dropped, and the step is and has no concatenation
pub record IsPlace (needs flat : Bool) (m : Model) (c : Customs) (S : Shape) (s : Step) (ss : List Step) : Type 0 where
  pub customs : IsTrue (customs_typed m c)
  pub lawful : IsTrue (is_lawful m S)
  pub last : Shape
  pub typed : steps_shape m c S (pipe (s ∷ ss)) ≡ Some last
  pub unsplit : needs ≡ true → Unsplit m c (after m c S s) true (pipe ss)
  pub unbranched : flat ≡ true → unbranched_step s ≡ true

-- what a rule makes of steps is put as they are
abbrev pub PutsSame : Bool → Bool → Rules → Model → Customs → Rule → Type 0
PutsSame needs flat w m c r =
    (S : Shape) (before : Bool) (s : Step) (ss ss' : List Step) (gs : List Segment) → IsPlace needs flat m c S s ss → r m c S before s ss ≡ Some ss'
    → put_steps w m c S (pipe ss') gs ≡ put_steps w m c S (pipe (s ∷ ss)) gs

-- ---- segments with filters that do not pass

pub and-none : (a b : Bool) → b ≡ false → (a && b) ≡ false
and-none true b e = e
and-none false b e = refl

pub judged-sure : (m : Model) (S : Shape) (es : List Expr) → list_all (λ (u : Test). u.sure) (map (judged m S) es) ≡ list_all (is_sure m S) es
judged-sure m S [] = refl
judged-sure m S (e ∷ es) = ap (λ b. is_sure m S e && b) (judged-sure m S es)

-- a filter that does not pass leaves what may pass
pub taken-passes : (g : Segment) (t : Test) → (taken g t).passes ≡ g.passes
taken-passes g t = go (if tests_passed g.tests t then g.enters t else None)
  where
    go : (o : Option Expr) → (taken_as g t o).passes ≡ g.passes
    go None = refl
    go (Some e) = refl

-- sure filters leave the others sure, and the step as it is
pub taken-sure : (g : Segment) (t : Test) → t.sure ≡ true → list_all (λ (u : Test). u.sure) g.tests ≡ true → (list_all (λ (u : Test). u.sure) (taken g t).tests ≡ true) × ((taken g t).lets ≡ g.lets)
taken-sure g t s a = go (if tests_passed g.tests t then g.enters t else None)
  where
    go : (o : Option Expr) → (list_all (λ (u : Test). u.sure) (taken_as g t o).tests ≡ true) × ((taken_as g t o).lets ≡ g.lets)
    go None = (all-append (λ (u : Test). u.sure) g.tests (t ∷ []) a (ap (λ z. z && true) s), refl)
    go (Some e) = (a, ap (λ z. g.lets && z) s ∙ and-true g.lets)

-- filters that do not pass, one after the other
abbrev pub taken_all : List Test → Segment → Segment
taken_all [] g = g
taken_all (t ∷ ts) g = taken_all ts (taken g t)

pub all-taken-passes : (ts : List Test) (g : Segment) → (taken_all ts g).passes ≡ g.passes
all-taken-passes [] g = refl
all-taken-passes (t ∷ ts) g = all-taken-passes ts (taken g t) ∙ taken-passes g t

pub all-taken-sure : (ts : List Test) (g : Segment) → list_all (λ (u : Test). u.sure) ts ≡ true → list_all (λ (u : Test). u.sure) g.tests ≡ true → (list_all (λ (u : Test). u.sure) (taken_all ts g).tests ≡ true) × ((taken_all ts g).lets ≡ g.lets)
all-taken-sure [] g s a = (a, refl)
all-taken-sure (t ∷ ts) g s a =
    let u = and_parts t.sure _ s in
    let x = taken-sure g t u.0 a in
    let y = all-taken-sure ts (taken g t) u.1 x.0 in
    (y.0, y.1 ∙ x.1)

-- a filter that may not pass is taken
pub put-taken : (g : Segment) (t : Test) (gs : List Segment) → g.passes t ≡ false → put_test t (g ∷ gs) ≡ taken g t ∷ gs
put-taken g t gs e = ap (λ z. if z then g ∷ put_test t gs else taken g t ∷ gs) (and-none (tests_passed g.tests t && g.lets) (g.passes t) e)

-- one that passes goes on
pub put-passed : (g : Segment) (t : Test) (gs : List Segment) → segment_passed g t ≡ true → put_test t (g ∷ gs) ≡ g ∷ put_test t gs
put-passed g t gs e = ap (λ z. if z then g ∷ put_test t gs else taken g t ∷ gs) e

module _ (w : Rules) (m : Model) (c : Customs) (T : Shape) where
  -- a filter that is one part
  pub put-one : (e : Expr) (gs : List Segment) → parts m T e ≡ e ∷ [] → put_filter m T e gs ≡ put_test (judged m T e) gs
  put-one e gs one = ap (λ es. put_tests (map (judged m T) es) gs) one

  -- filters that do not pass the last segment are taken by it
  pub all-taken : (es : List Expr) (g : Segment) (p : Pipe) (gs : List Segment) → Each (λ e. g.passes (judged m T e) ≡ false) es → Each (λ e. parts m T e ≡ e ∷ []) es
      → put_steps w m c T (filters es p) (g ∷ gs) ≡ put_steps w m c T p (taken_all (map (judged m T) es) g ∷ gs)
  all-taken [] g p gs r o = refl
  all-taken (e ∷ es) g p gs r o =
      one-filter w m c T e (filters es p) (g ∷ gs)
      ∙ ap (put_steps w m c T (filters es p)) (put-one e (g ∷ gs) o.0 ∙ put-taken g (judged m T e) gs r.0)
      ∙ all-taken es (taken g (judged m T e)) p gs
      (each-weaker (λ e. g.passes (judged m T e) ≡ false) (λ d. (taken g (judged m T e)).passes (judged m T d) ≡ false) es (λ d h. ap (λ (f : Test → Bool). f (judged m T d)) (taken-passes g (judged m T e)) ∙ h) r.1)
      o.1

-- ---- the step that filters pass

-- what a rule asks of the step: it is put as it stands, it lets filters pass, and a filter that passes the test passes it and is the same on both sides
pub record IsPassed (w : Rules) (m : Model) (c : Customs) (S : Shape) (x : Step) (test : Expr → Bool) : Type 0 where
  pub put : (gs : List Segment) → put_step w m c S x (settled_step w m c S x) gs ≡ segment w m c S x (settled_step w m c S x) ∷ gs
  pub lets : step_lets m c S x ≡ true
  pub passes : (e : Expr) → step_passed w x (judged m (after m c S x) e) ≡ test e
  pub alike : (e : Expr) → test e ≡ true → AreAlike m S (after m c S x) e

module _ (w : Rules) (m : Model) (c : Customs) (S : Shape) (x : Step) (test : Expr → Bool) (h : IsPassed w m c S x test) where
  abbrev T : Shape
  T = after m c S x

  -- the step's segment
  abbrev own : Segment
  own = segment w m c S x (settled_step w m c S x)

  -- the filter that passes goes before the step
  passes : (b : Expr) (es : List Expr) (gs : List Segment) → test b ≡ true → MayPass m T es b → put_test (judged m T b) (taken_all (map (judged m T) es) own ∷ gs) ≡ taken_all (map (judged m T) es) own ∷ put_test (judged m T b) gs
  passes b [] gs passed may = put-passed own (judged m T b) gs (λ i. h.lets i && (h.passes b ∙ passed) i)
  passes b (e ∷ es) gs passed may =
      let ts = map (judged m T) (e ∷ es) in
      let g = taken_all ts own in
      let v = and_parts (list_all (is_sure m T) (e ∷ es)) (is_sure m T b) may in
      let u = all-taken-sure ts own (judged-sure m T (e ∷ es) ∙ v.0) refl in
      put-passed g (judged m T b) gs (λ i.
      (or_right (not (is_nonempty g.tests)) (list_all (λ (u : Test). u.sure) g.tests && is_sure m T b) (λ j. u.0 j && v.1 j)) i
      && (u.1 ∙ h.lets) i && (ap (λ (f : Test → Bool). f (judged m T b)) (all-taken-passes ts own) ∙ h.passes b ∙ passed) i)

  before-step : (b : Expr) (p : Pipe) (gs : List Segment) → put_steps w m c S (Pipe.Then (Step.Filter b) (Pipe.Then x p)) gs ≡ put_steps w m c T p (own ∷ put_filter m S b gs)
  unfolding put_steps
  before-step b p gs =
      one-filter w m c S b (Pipe.Then x p) gs
      ∙ ap (put_steps w m c T p) (h.put (put_filter m S b gs))

  behind-step : (p : Pipe) (gs : List Segment) → put_steps w m c S (Pipe.Then x p) gs ≡ put_steps w m c T p (own ∷ gs)
  unfolding put_steps
  behind-step p gs = ap (put_steps w m c T p) (h.put gs)

  -- both sides of the rule are put alike
  sides : (es : List Expr) (b : Expr) (p : Pipe) (gs : List Segment) → Refused m T test es → Each (λ e. parts m T e ≡ e ∷ []) es → parts m T b ≡ b ∷ [] → test b ≡ true → MayPass m T es b
      → put_steps w m c S (Pipe.Then (Step.Filter b) (Pipe.Then x (filters es p))) gs ≡ put_steps w m c S (Pipe.Then x (filters es (Pipe.Then (Step.Filter b) p))) gs
  sides es b p gs refused single one passed may =
      let r = each-weaker (λ e. test e ≡ false) (λ e. own.passes (judged m T e) ≡ false) es (λ e k. h.passes e ∙ k) refused in
      before-step b (filters es p) gs
      ∙ ap (λ l. put_steps w m c T (filters es p) (own ∷ put_tests (map (judged m S) l) gs)) (sym (h.alike b passed).parts' ∙ one)
      ∙ ap (λ z. put_steps w m c T (filters es p) (own ∷ put_test (record { expr = b; sure = z }) gs)) (sym (h.alike b passed).sure)
      ∙ all-taken w m c T es own p (put_test (judged m T b) gs) r single
      ∙ sym (ap (put_steps w m c T p) (passes b es gs passed may))
      ∙ sym (ap (put_steps w m c T p) (put-one w m c T b (taken_all (map (judged m T) es) own ∷ gs) one))
      ∙ sym (one-filter w m c T b p (taken_all (map (judged m T) es) own ∷ gs))
      ∙ sym (all-taken w m c T es own (Pipe.Then (Step.Filter b) p) gs r single)
      ∙ sym (behind-step (filters es (Pipe.Then (Step.Filter b) p)) gs)

  -- what such a rule makes is put as what was there
  pub passing-put : (ss ss' : List Step) (before : Bool) (gs : List Segment) → Unsplit m c T before (pipe ss) → passing m T test x ss ≡ Some ss' → put_steps w m c S (pipe ss') gs ≡ put_steps w m c S (pipe (x ∷ ss)) gs
  passing-put ss ss' before gs unsplit got =
      let t = mapped (λ r. Step.Filter r.last ∷ behind x r) (find (λ r. test r.last) (movable m T ss)) ss' got in
      let r = movable-found m T test ss t.0 t.1 in
      let es = (t.0).between in
      let b = (t.0).last in
      let p = pipe (t.0).rest in
      let from = ap pipe r.whole ∙ pipe-filters es (Step.Filter b ∷ (t.0).rest) in
      let into : pipe ss' ≡ Pipe.Then (Step.Filter b) (Pipe.Then x (filters es p)) = sym (ap pipe t.2) ∙ ap (λ p. Pipe.Then (Step.Filter b) (Pipe.Then x p)) (pipe-filters es (t.0).rest) in
      let u = unsplit-filters m c T before es b p (subst (Unsplit m c T before) from unsplit) in
      ap (λ q. put_steps w m c S q gs) into
      ∙ sides es b p gs (nearest-refused m T test ss t.0 t.1) u.0 u.1 r.tested r.passes
      ∙ sym (ap (λ q. put_steps w m c S (Pipe.Then x q) gs) from)
