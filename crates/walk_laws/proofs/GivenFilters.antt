-- What the ninth rule makes where filters alone come out of a concatenation, and stay before it: in the end the same steps come out.
use Rattle.std.proofs.Common.{◌≡◌, refl, sym, ◌∙◌, ap, Bool, true, false, ◌&&◌, ◌||◌, List, [], ◌∷◌, ◌++◌, Option, Some, None, map, if◌then◌else◌}
use Rattle.std.specs.Prelude.{slice_get}
use Rattle.std.proofs.lemmas.Bool.{and_parts, true≢false}
use Rattle.std.proofs.lemmas.List.{append_assoc}
use Rattle.edm_values.specs.Lists.{is_some_and}
use Rattle.edm_model.specs.Models.{Model}
use Rattle.apply_ast.specs.Trees.{Expr, Pipe, Pipes, Step, TopStep, pipe, steps}
use Rattle.context_typing.specs.Shapes.{Shape}
use Rattle.context_typing.specs.Typing.{Customs, steps_shape}
use Rattle.context_typing.proofs.WalkFacts.{pipe-steps}
use Rattle.rewrite_laws.specs.Rewrites.{pipe_or_identity}
use Rattle.rewrite_laws.specs.TreeEquality.{step_same}
use Rattle.rewrite_laws.proofs.FactorRule.{begins-with, rests}
use Rattle.rewrite_laws.proofs.RuleLemmas.{after-filter}
use Rattle.rewrite_laws.proofs.SameTrees.{Begin, rest}
use Rattle.walk_laws.specs.Apart.{is_loose}
use Rattle.walk_laws.specs.Factored.{before_concat, factored_branches, factored_step, factored_steps}
use Rattle.walk_laws.specs.FiltersOut.{is_stop}
use Rattle.walk_laws.specs.Walks.{All, Segment, Test, all_steps, front, judged, last_count, parts, put_filters, put_selection, put_step, put_steps, put_test, put_tests, segment, selection, settled_branches, shape_behind, taken, taken_as, tests_passed, whole, with_test, without_orders}
use Rattle.walk_laws.proofs.FactoredSame.{out-first}
use Rattle.walk_laws.proofs.SegmentTails.{SameBefore, StandsApart, filters-same, steps-append, steps-same}
use Rattle.walk_laws.proofs.WalkPassing.{put-one}
use Rattle.walk_laws.proofs.WalkPuts.{one-filter}

-- ---- steps that come out of lists of steps

abbrev pub OutOf : List Step → List Step
OutOf l = factored_steps (pipe l)

pub out-append : (a b : List Step) → OutOf (a ++ b) ≡ OutOf a ++ OutOf b
out-append [] b = refl
out-append (s ∷ a) b = ap (λ l. factored_step s ++ l) (out-append a b) ∙ sym (append_assoc (factored_step s) (OutOf a) (OutOf b))

pub out-identity : (l : List Step) → factored_steps (pipe_or_identity l) ≡ OutOf l
out-identity [] = refl
out-identity (s ∷ l) = refl

-- ---- a segment at which filters end

-- no filter passes a segment, nor goes into it
pub record Stops (g : Segment) : Type 0 where
  pub lets : g.lets ≡ false
  pub enters : (t : Test) → g.enters t ≡ None

pub middle-none : (a b c : Bool) → b ≡ false → (a && b && c) ≡ false
middle-none a true c e = absurd (true≢false e)
middle-none true false c e = refl
middle-none false false c e = refl

none-taken : (g : Segment) (t : Test) → Stops g → taken g t ≡ with_test g t
none-taken g t k = ap (taken_as g t) (go (tests_passed g.tests t))
  where
    go : (z : Bool) → (if z then g.enters t else None) ≡ None
    go true = k.enters t
    go false = refl

pub put-stop : (g : Segment) (t : Test) (gs : List Segment) → Stops g → put_test t (g ∷ gs) ≡ with_test g t ∷ gs
put-stop g t gs k =
    ap (λ z. if z then g ∷ put_test t gs else taken g t ∷ gs) (middle-none (tests_passed g.tests t) g.lets (g.passes t) k.lets)
    ∙ ap (λ h. h ∷ gs) (none-taken g t k)

-- the last segment stops filters
pub record StopsLast (gs : List Segment) : Type 0 where
  pub last : Segment
  pub others : List Segment
  pub parts' : gs ≡ last ∷ others
  pub stops : Stops last

stop-test : (t : Test) (gs : List Segment) → StopsLast gs → StopsLast (put_test t gs)
stop-test t gs k = record { last = with_test k.last t; others = k.others; parts' = ap (put_test t) k.parts' ∙ put-stop k.last t k.others k.stops; stops = record { lets = (k.stops).lets; enters = (k.stops).enters } }

stop-tests : (ts : List Test) (gs : List Segment) → StopsLast gs → StopsLast (put_tests ts gs)
stop-tests [] gs k = k
stop-tests (t ∷ ts) gs k = stop-tests ts (put_test t gs) (stop-test t gs k)

stop-first : (g : Segment) (gs : List Segment) → g.lets ≡ false → ((t : Test) → g.enters t ≡ None) → StopsLast (g ∷ gs)
stop-first g gs l e = record { last = g; others = gs; parts' = refl; stops = record { lets = l; enters = e } }

stop-selection : (t : TopStep) (gs : List Segment) → StopsLast (put_selection t gs)
stop-selection t [] = stop-first (selection t) [] refl (λ u. refl)
stop-selection t (g ∷ gs) = go (last_count g t)
  where
    go : (o : Option TopStep) → StopsLast (elim o [ None ↦ selection t ∷ g ∷ gs | Some u ↦ selection u ∷ gs ])
    go None = stop-first (selection t) (g ∷ gs) refl (λ u. refl)
    go (Some u) = stop-first (selection u) gs refl (λ u. refl)

pub stops-front : StopsLast front
stops-front = record { last = record { lets = false; passes = λ t. false; enters = λ t. None; head = λ es. None; tests = [] }; others = []; parts' = refl; stops = record { lets = refl; enters = λ t. refl } }

none-stays : (b : Bool) → (false || (b && false)) ≡ true → ⊥
none-stays true h = true≢false (sym h)
none-stays false h = true≢false (sym h)

and-itself : (b : Bool) → (b && true) ≡ true → b ≡ true
and-itself true h = refl
and-itself false h = h

module _ (m : Model) (c : Customs) where
  pub stop-step : (S : Shape) (b : Bool) (s : Step) (made : List Expr → Step) (gs : List Segment) → (b ≡ true → StopsLast gs) → (is_stop s || (b && is_loose s)) ≡ true → StopsLast (put_step All m c S s made gs)
  stop-step S b Step.Identity made gs k h = k (and-itself b h)
  stop-step S b (Step.Filter e) made gs k h = stop-tests (map (judged m S) (parts m S e)) gs (k (and-itself b h))
  stop-step S b (Step.Skip n) made gs k h = stop-first (segment All m c S (Step.Skip n) made) gs refl (λ t. refl)
  stop-step S b (Step.Top n) made gs k h = stop-first (segment All m c S (Step.Top n) made) gs refl (λ t. refl)
  stop-step S b (Step.Aggregate as') made gs k h = stop-first (segment All m c S (Step.Aggregate as') made) (without_orders gs) refl (λ t. refl)
  stop-step S b (Step.TopBy t) made gs k h = stop-selection t gs
  stop-step S b (Step.Climb up h' p T d keep) made gs k h = stop-first (segment All m c S (Step.Climb up h' p T d keep) made) gs refl (λ t. refl)
  stop-step S b (Step.Compute ns) made gs k h = absurd (none-stays b h)
  stop-step S b (Step.OrderBy items) made gs k h = absurd (none-stays b h)
  stop-step S b (Step.GroupBy ks T) made gs k h = absurd (none-stays b h)
  stop-step S b (Step.Concat ps) made gs k h = absurd (none-stays b h)
  stop-step S b (Step.Join outer n a T) made gs k h = absurd (none-stays b h)
  stop-step S b (Step.Traverse w) made gs k h = absurd (none-stays b h)

-- ---- branches that begin with a filter, and without it

-- the front with filters
abbrev front_with : List Test → Segment
front_with ts = record { lets = false; passes = λ t. false; enters = λ t. None; head = λ es. None; tests = ts }

front-stops : (ts : List Test) → Stops (front_with ts)
front-stops ts = record { lets = refl; enters = λ t. refl }

record FrontsDiffer (f : Test) (a b : List Segment) : Type 0 where
  tests : List Test
  one : a ≡ front_with (f ∷ tests) ∷ []
  other : b ≡ front_with tests ∷ []

front-orders : (ts : List Test) → without_orders (front_with ts ∷ []) ≡ front_with ts ∷ []
front-orders [] = refl
front-orders (t ∷ ts) = refl

front-counts : (t : TopStep) (ts : List Test) → put_selection t (front_with ts ∷ []) ≡ selection t ∷ front_with ts ∷ []
front-counts t [] = refl
front-counts t (u ∷ ts) = refl

fronts-apart : (f : Test) → StandsApart (FrontsDiffer f)
fronts-apart f = record {
  test = λ t a b k. record {
    tests = k.tests ++ (t ∷ []);
    one = ap (put_test t) k.one ∙ put-stop (front_with (f ∷ k.tests)) t [] (front-stops (f ∷ k.tests));
    other = ap (put_test t) k.other ∙ put-stop (front_with k.tests) t [] (front-stops k.tests);
  };
  orders = λ a b k. (ap without_orders k.one ∙ front-orders (f ∷ k.tests) ∙ sym k.one, ap without_orders k.other ∙ front-orders k.tests ∙ sym k.other);
  counts = λ t a b k. (ap (put_selection t) k.one ∙ front-counts t (f ∷ k.tests) ∙ ap (λ l. selection t ∷ l) (sym k.one), ap (put_selection t) k.other ∙ front-counts t k.tests ∙ ap (λ l. selection t ∷ l) (sym k.other));
}

module _ (m : Model) (c : Customs) (S : Shape) (e : Expr) (one : parts m S e ≡ e ∷ []) where
  abbrev f : Test
  f = judged m S e

  rest-put : (q : Pipe) (gs : List Segment) → put_steps All m c S (pipe_or_identity (steps q)) gs ≡ put_steps All m c S q gs
  unfolding put_steps steps_shape
  rest-put Pipe.End gs = refl
  rest-put (Pipe.Then s q) gs = ap (λ p. put_steps All m c S p gs) (pipe-steps (Pipe.Then s q))

  rest-behind : (q : Pipe) → shape_behind m c S (pipe_or_identity (steps q)) ≡ shape_behind m c S q
  unfolding steps_shape
  rest-behind Pipe.End = refl
  rest-behind (Pipe.Then s q) = ap (shape_behind m c S) (pipe-steps (Pipe.Then s q))

  filter-first : (q : Pipe) → put_steps All m c S (Pipe.Then (Step.Filter e) q) front ≡ put_steps All m c S q (front_with (f ∷ []) ∷ [])
  filter-first q = one-filter All m c S e q front ∙ ap (put_steps All m c S q) (put-one All m c S e front one ∙ put-stop (front_with []) f [] (front-stops []))

  -- a branch without its first filter
  abbrev pub given : Pipe → List Expr → Pipe
  given p es = whole (put_filters m (shape_behind m c S p) es (put_steps All m c S p front))

  -- what a branch comes to, with the filter and without it
  pub branch-given : (q : Pipe) (es : List Expr) → (l : List Step) × (given (Pipe.Then (Step.Filter e) q) es ≡ pipe_or_identity (Step.Filter e ∷ l)) × (given (pipe_or_identity (steps q)) es ≡ pipe_or_identity l)
  branch-given q es =
      let T = shape_behind m c S q in
      let gs = put_filters m T es (put_steps All m c S q (front_with (f ∷ []) ∷ [])) in
      let hs = put_filters m T es (put_steps All m c S q front) in
      let k : SameBefore (FrontsDiffer f) gs hs =
      filters-same (FrontsDiffer f) (fronts-apart f) m c T es (put_steps All m c S q (front_with (f ∷ []) ∷ [])) (put_steps All m c S q front)
      (steps-same (FrontsDiffer f) (fronts-apart f) m c S q (front_with (f ∷ []) ∷ []) front
      (record { before = []; one = front_with (f ∷ []) ∷ []; other = front; first = refl; second = refl; differ = record { tests = []; one = refl; other = refl } })) in
      let ts = map (λ (t : Test). Step.Filter t.expr) (k.differ).tests in
      let x : all_steps gs ≡ Step.Filter e ∷ (ts ++ all_steps k.before) = ap all_steps k.first ∙ steps-append k.before k.one ∙ ap (λ l. all_steps l ++ all_steps k.before) (k.differ).one in
      let y : all_steps hs ≡ ts ++ all_steps k.before = ap all_steps k.second ∙ steps-append k.before k.other ∙ ap (λ l. all_steps l ++ all_steps k.before) (k.differ).other in (
        ts ++ all_steps k.before,
        (λ i. whole (put_filters m (shape_behind m c (after-filter m c S e i) q) es (filter-first q i))) ∙ ap pipe_or_identity x,
        (λ i. whole (put_filters m (rest-behind q i) es (rest-put q front i))) ∙ ap pipe_or_identity y,
      )

  out-of-branch : (q : Pipe) (es : List Expr) → factored_steps (given (Pipe.Then (Step.Filter e) q) es) ≡ Step.Filter e ∷ factored_steps (given (pipe_or_identity (steps q)) es)
  out-of-branch q es =
      let t = branch-given q es in
      ap factored_steps t.1 ∙ ap (λ l. Step.Filter e ∷ l) (sym (ap factored_steps t.2 ∙ out-identity t.0))

  -- all branches
  out-of-branches : (ps : Pipes) (es : List Expr) → Begin (Step.Filter e) ps ≡ true → factored_branches (settled_branches All m c S ps es) ≡ map (λ l. (Step.Filter e ∷ []) ++ l) (factored_branches (settled_branches All m c S (rests ps) es))
  unfolding put_steps
  out-of-branches Pipes.NoPipes es h = refl
  out-of-branches (Pipes.MorePipes p ps) es h =
      let t = and_parts (is_some_and (step_same (Step.Filter e)) (slice_get (steps p) 0)) _ h in
      let q = begins-with (Step.Filter e) p t.0 in
      λ i. (ap (λ p. factored_steps (given p es)) q.1 ∙ out-of-branch q.0 es ∙ ap (λ l. Step.Filter e ∷ factored_steps (given (pipe_or_identity l) es)) (sym q.2)) i ∷ out-of-branches ps es t.1 i

  -- the concatenation
  pub out-of-concat : (p : Pipe) (ps : Pipes) (es : List Expr) → Begin (Step.Filter e) (Pipes.MorePipes p ps) ≡ true
      → before_concat (factored_branches (settled_branches All m c S (Pipes.MorePipes p ps) es)) ≡ Step.Filter e ∷ before_concat (factored_branches (settled_branches All m c S (rests (Pipes.MorePipes p ps)) es))
  unfolding put_steps
  out-of-concat p ps es h =
      ap before_concat (out-of-branches (Pipes.MorePipes p ps) es h)
      ∙ out-first (Step.Filter e ∷ []) (factored_steps (given (rest p) es)) (factored_branches (settled_branches All m c S (rests ps) es))
