-- A typed pipeline of which no rule of a walk makes anything is put as it stands: segments, steps and pipelines.
use Rattle.std.proofs.Common.{◌≡◌, refl, sym, ◌∙◌, ap, ℕ, Bool, true, false, not, ◌&&◌, ◌||◌, List, [], ◌∷◌, ◌++◌, Option, Some, None, map, append_assoc, Contains, IsTrue, arith, min, ◌⊎◌, inl, inr, if◌then◌else◌}
use Rattle.std.specs.Prelude.{option_and_then, option_to_list}
use Rattle.std.specs.Bool.{then_some}
use Rattle.std.specs.List.{last_or}
use Rattle.std.proofs.lemmas.List.{map-append}
use Rattle.edm_values.specs.Lists.{is_nonempty, is_some_and}
use Rattle.edm_values.specs.Names.{Path}
use Rattle.edm_values.proofs.OptionFacts.{none_or}
use Rattle.edm_model.specs.Models.{Model}
use Rattle.apply_ast.specs.Trees.{AggItem, Expr, HierName, Limit, Pipe, Step, TopStep, is_long, pipe, steps}
use Rattle.context_typing.specs.Shapes.{Shape}
use Rattle.context_typing.specs.Typing.{Customs, after, is_sure, order_sure, steps_shape}
use Rattle.context_typing.proofs.WalkFacts.{pipe-steps}
use Rattle.rewrite_laws.specs.Rewrites.{Rule, all_but_last, drop_identity, drop_idle, drop_order, drop_true, is_idle, join_counts, pipe_or_identity, pipe_results, split_conjunction, top_count}
use Rattle.rewrite_laws.specs.TreeEquality.{expr_same}
use Rattle.rewrite_laws.proofs.StepLists.{last-split}
use Rattle.walk_laws.specs.Walks.{Rules, All, Early, Segment, Test, all_steps, front, is_beside, is_order, joined_count, judged, last_count, parts, put_step, put_steps, put_test, put_tests, rules_of, segment, segment_passed, segment_steps, selection, settled_step, step_enters, step_lets, step_passed, taken, taken_as, tests_passed, whole, with_test, without_idle, without_orders}
use Rattle.walk_laws.proofs.Unsplit.{nothing-parts, one-part, then_some-none}
use Rattle.walk_laws.proofs.WalkEntering.{no-way_in}
use Rattle.walk_laws.proofs.WalkNodes.{put-last}
use Rattle.walk_laws.proofs.WalkPassing.{and-none, judged-sure}
use Rattle.walk_laws.proofs.WalkPlaces.{behind-typed}
use Rattle.walk_laws.proofs.WalkPuts.{one-filter, one-step}
use Rattle.walk_laws.proofs.WalkRest.{at-identity, at-split, at-true, is_nonempty-map, may_pass, no-chain, step-out, step-stays}
use Rattle.context_typing.proofs.WalkFacts.{shape-append}
use Rattle.edm_values.proofs.OptionFacts.{chained, some_value}

-- ---- the last segment before steps of which no rule makes anything

module _ (w : Rules) (m : Model) (c : Customs) where
  -- no rule of the walk makes anything of a pipeline
  abbrev pub AtRest : Shape → Bool → Pipe → Type 0
  AtRest S before p = (r : Rule) → Contains (rules_of w) r → pipe_results r m c S before p ≡ []

  -- a step as it is put
  abbrev pub own : Shape → Step → Segment
  own S s = segment w m c S s (settled_step w m c S s)

  -- the segment is a step with filters behind it, on the shape behind them, and no rule makes anything at the step
  pub record EndsAt (S : Shape) (g : Segment) (p : Pipe) : Type 0 where
    pub step : Step
    pub start : Shape
    pub before : Bool
    pub es : List Expr
    pub is : g ≡ record (segment w m c start step (settled_step w m c start step)) { tests = map (judged m S) es }
    pub behind' : S ≡ after m c start step
    pub none : (r : Rule) → Contains (rules_of w) r → r m c start before step (map Step.Filter es ++ steps p) ≡ None

  -- or there is no step
  pub record EndsBare (g : Segment) : Type 0 where
    pub passes : (t : Test) → g.passes t ≡ false
    pub enters : (t : Test) → g.enters t ≡ None
    pub lets : g.lets ≡ false
    pub head : g.head [] ≡ None

  abbrev Ends : Shape → Segment → Pipe → Type 0
  Ends S g p = EndsBare g ⊎ EndsAt S g p

  -- a filter does not pass the segment
  pub not-passed : (S : Shape) (g : Segment) (e : Expr) (q : Pipe) → Ends S g (Pipe.Then (Step.Filter e) q) → segment_passed g (judged m S e) ≡ false
  not-passed S g e q (inl h) = and-none (tests_passed g.tests (judged m S e) && g.lets) (g.passes (judged m S e)) (h.passes (judged m S e))
  not-passed S g e q (inr h) =
      ap (λ g. segment_passed g (judged m S e)) h.is
      ∙ (λ i. (not (is_nonempty-map (judged m S) h.es i) || (judged-sure m S h.es i && is_sure m S e)) && step_lets m c h.start h.step && step_passed w h.step (judged m S e))
      ∙ (λ i. may_pass m (h.behind' i) h.es e && step_lets m c h.start h.step && step_passed w h.step (judged m (h.behind' i) e))
      ∙ step-stays m c w h.start h.before h.step h.es e (steps q) h.none

  -- and stays behind it
  pub not-in : (S : Shape) (g : Segment) (e : Expr) (q : Pipe) → Ends S g (Pipe.Then (Step.Filter e) q) → taken g (judged m S e) ≡ with_test g (judged m S e)
  not-in S g e q (inl h) = ap (taken_as g (judged m S e)) (no-way_in (tests_passed g.tests (judged m S e)) (g.enters (judged m S e)) (h.enters (judged m S e)))
  not-in S g e q (inr h) =
      ap (taken_as g (judged m S e)) (
      ap (λ g. if tests_passed g.tests (judged m S e) then g.enters (judged m S e) else None) h.is
      ∙ (λ i. if not (is_nonempty-map (judged m S) h.es i) || (judged-sure m S h.es i && is_sure m S e) then step_enters w m c h.start h.step (judged m S e) else None)
      ∙ (λ i. if may_pass m (h.behind' i) h.es e then step_enters w m c h.start h.step (judged m (h.behind' i) e) else None)
      ∙ step-out m c w h.start h.before h.step h.es e (steps q) h.none)

  -- ---- the pipeline goes on

  -- a step begins a segment
  pub begins_here : (S : Shape) (before : Bool) (s : Step) (q : Pipe) → AtRest S before (Pipe.Then s q) → EndsAt (after m c S s) (own S s) q
  begins_here S before s q rest = record {
    step = s;
    start = S;
    before = before;
    es = [];
    is = refl;
    behind' = refl;
    none = λ r k. (nothing-parts r m c S before s q (rest r k)).0;
  }

  -- a filter goes behind the segment
  pub goes-behind : (S : Shape) (g : Segment) (e : Expr) (q : Pipe) → Ends S g (Pipe.Then (Step.Filter e) q) → Ends S (with_test g (judged m S e)) q
  goes-behind S g e q (inl h) = inl (record { passes = h.passes; enters = h.enters; lets = h.lets; head = h.head })
  goes-behind S g e q (inr h) = inr (record {
    step = h.step;
    start = h.start;
    before = h.before;
    es = h.es ++ (e ∷ []);
    is = ap (λ g. with_test g (judged m S e)) h.is ∙ ap (λ l. record (own h.start h.step) { tests = l }) (sym (map-append (judged m S) h.es (e ∷ [])));
    behind' = h.behind';
    none = λ r k. ap (r m c h.start h.before h.step) (ap (λ l. l ++ steps q) (map-append Step.Filter h.es (e ∷ [])) ∙ append_assoc (map Step.Filter h.es) (Step.Filter e ∷ []) (steps q)) ∙ h.none r k;
  })

  -- the rest of a pipeline at rest
  pub rest-behind : (S : Shape) (before : Bool) (s : Step) (q : Pipe) → AtRest S before (Pipe.Then s q) → AtRest (after m c S s) true q
  rest-behind S before s q rest r k = (nothing-parts r m c S before s q (rest r k)).2

  -- the pipeline begins with identity
  abbrev pub starts_idle : Pipe → Bool
  starts_idle (Pipe.Then Step.Identity q) = true
  starts_idle p = false

  pub not-idle : (S : Shape) (p : Pipe) → AtRest S true p → starts_idle p ≡ false
  not-idle S Pipe.End rest = refl
  not-idle S (Pipe.Then Step.Identity q) rest = none_or (steps q) (sym ((nothing-parts drop_identity m c S true Step.Identity q (rest drop_identity (at-identity w))).0))
  not-idle S (Pipe.Then s q) rest = refl

  -- one filter is one part
  pub one-test : (S : Shape) (before : Bool) (e : Expr) (q : Pipe) → AtRest S before (Pipe.Then (Step.Filter e) q) → parts m S e ≡ e ∷ []
  one-test S before e q rest =
      one-part m c S before e (steps q) (nothing-parts split_conjunction m c S before (Step.Filter e) q (rest split_conjunction (at-split w))).0 (nothing-parts drop_true m c S before (Step.Filter e) q (rest drop_true (at-true w))).0

  -- a step with the filters behind it, and what is behind
  abbrev pub Kept : Shape → List Segment → Pipe → Type 0
  Kept S gs p = all_steps (put_steps w m c S p gs) ≡ all_steps gs ++ steps p

  -- a step that is put as it stands
  pub step-kept : (S : Shape) (s : Step) (q : Pipe) (gs : List Segment) → put_step w m c S s (settled_step w m c S s) gs ≡ own S s ∷ gs → settled_step w m c S s [] ≡ s → Kept (after m c S s) (own S s ∷ gs) q → Kept S gs (Pipe.Then s q)
  step-kept S s q gs put settled more =
      ap all_steps (one-step w m c S s q gs) ∙ ap (λ l. all_steps (put_steps w m c (after m c S s) q l)) put ∙ more
      ∙ ap (λ z. (all_steps gs ++ z ∷ []) ++ steps q) settled
      ∙ append_assoc (all_steps gs) (s ∷ []) (steps q)

  -- a filter that stays behind the last segment
  pub filter-kept : (S : Shape) (e : Expr) (q : Pipe) (g : Segment) (gs : List Segment) → parts m S e ≡ e ∷ [] → segment_passed g (judged m S e) ≡ false → taken g (judged m S e) ≡ with_test g (judged m S e) → Kept S (with_test g (judged m S e) ∷ gs) q
      → Kept S (g ∷ gs) (Pipe.Then (Step.Filter e) q)
  filter-kept S e q g gs one stays behind'' more =
      ap all_steps (one-filter w m c S e q (g ∷ gs)
      ∙ ap (λ l. put_steps w m c S q (put_tests (map (judged m S) l) (g ∷ gs))) one
      ∙ ap (λ z. put_steps w m c S q (if z then g ∷ put_test (judged m S e) gs else taken g (judged m S e) ∷ gs)) stays
      ∙ ap (λ h. put_steps w m c S q (h ∷ gs)) behind'')
      ∙ more
      ∙ ap (λ l. l ++ steps q) (
      ap (λ l. all_steps gs ++ (option_to_list (g.head []) ++ l)) (map-append (λ (t : Test). Step.Filter t.expr) g.tests (judged m S e ∷ []))
      ∙ ap (λ l. all_steps gs ++ l) (sym (append_assoc (option_to_list (g.head [])) (map (λ (t : Test). Step.Filter t.expr) g.tests) (Step.Filter e ∷ [])))
      ∙ sym (append_assoc (all_steps gs) (segment_steps g) (Step.Filter e ∷ [])))
      ∙ append_assoc (all_steps (g ∷ gs)) (Step.Filter e ∷ []) (steps q)

  -- the front, where no step stands
  abbrev pub front_segment : Segment
  front_segment = record { lets = false; passes = λ t. false; enters = λ t. None; head = λ es. None; tests = [] }

  pub bare-front : EndsBare front_segment
  bare-front = record { passes = λ t. refl; enters = λ t. refl; lets = refl; head = refl }

  -- a whole pipeline at rest, from its steps behind the front
  pub whole-kept : (S : Shape) (p : Pipe) → IsTrue (is_long p) → AtRest S false p → (starts_idle p ≡ false → Kept S front p) → whole (put_steps w m c S p front) ≡ p
  unfolding put_steps steps_shape
  whole-kept S Pipe.End long rest f = cc
  whole-kept S (Pipe.Then Step.Identity Pipe.End) long rest f = refl
  whole-kept S (Pipe.Then Step.Identity (Pipe.Then s q)) long rest f =
      none_or (s ∷ steps q) (sym ((nothing-parts drop_identity m c S false Step.Identity (Pipe.Then s q) (rest drop_identity (at-identity w))).0))
  whole-kept S (Pipe.Then s q) long rest f = ap pipe_or_identity (f refl) ∙ pipe-steps (Pipe.Then s q)

-- ---- what the later rules leave at the end

module _ (m : Model) (c : Customs) where
  -- an order at the end is not dropped before an aggregation
  not-dropped : (S : Shape) (g : Segment) (as' : List AggItem) (q : Pipe) → EndsBare All m c g ⊎ EndsAt All m c S g (Pipe.Then (Step.Aggregate as') q) → (not (is_nonempty g.tests) && g.lets && is_order (g.head [])) ≡ false
  unfolding put_steps
  not-dropped S g as' q (inl h) = ap (λ z. not (is_nonempty g.tests) && z && is_order (g.head [])) h.lets ∙ ap (λ z. z && is_order (g.head [])) (and-none (not (is_nonempty g.tests)) false refl)
  not-dropped S g as' q (inr h) =
      ap (λ (g : Segment). not (is_nonempty g.tests) && g.lets && is_order (g.head [])) h.is
      ∙ (λ i. not (is_nonempty-map (judged m S) h.es i) && step_lets m c h.start h.step && is_order (Some (settled_step All m c h.start h.step [])))
      ∙ go h.es h.step refl refl
    where
      go : (es : List Expr) (x : Step) → h.es ≡ es → h.step ≡ x → (not (is_nonempty h.es) && step_lets m c h.start h.step && is_order (Some (settled_step All m c h.start h.step []))) ≡ false
      go (e ∷ es) x j k = ap (λ l. not (is_nonempty l) && step_lets m c h.start h.step && is_order (Some (settled_step All m c h.start h.step []))) j
      go [] (Step.OrderBy items) j k =
          let none : drop_order m c h.start h.before (Step.OrderBy items) (Step.Aggregate as' ∷ steps q) ≡ None =
          (λ i. drop_order m c h.start h.before (sym k i) (map Step.Filter (sym j i) ++ Step.Aggregate as' ∷ steps q)) ∙ h.none drop_order (11, omega arith, refl) in
          (λ i. not (is_nonempty (j i)) && step_lets m c h.start (k i) && is_order (Some (settled_step All m c h.start (k i) [])))
          ∙ ap (λ z. z && true) (then_some-none (order_sure m h.start items) (Step.Aggregate as' ∷ steps q) none)
      go [] x j k =
          (λ i. not (is_nonempty (j i)) && step_lets m c h.start (k i) && is_order (Some (settled_step All m c h.start (k i) [])))
          ∙ and-none (step_lets m c h.start x) (is_order (Some (settled_step All m c h.start x []))) refl

  -- a count at the end is not joined with another
  not-joined : (S : Shape) (g : Segment) (t : TopStep) (q : Pipe) → EndsBare All m c g ⊎ EndsAt All m c S g (Pipe.Then (Step.TopBy t) q) → last_count g t ≡ None
  unfolding put_steps
  not-joined S g t q (inl h) = ap (λ o. if is_nonempty g.tests then None else joined_count o t) h.head ∙ go (is_nonempty g.tests)
    where
      go : (b : Bool) → (if b then None else joined_count None t) ≡ None
      go true = refl
      go false = refl
  not-joined S g t q (inr h) =
      ap (λ g. last_count g t) h.is
      ∙ (λ i. if is_nonempty-map (judged m S) h.es i then None else joined_count (Some (settled_step All m c h.start h.step [])) t)
      ∙ go h.es h.step refl refl
    where
      go : (es : List Expr) (x : Step) → h.es ≡ es → h.step ≡ x → (if is_nonempty h.es then None else joined_count (Some (settled_step All m c h.start h.step [])) t) ≡ None
      go (e ∷ es) x j k = ap (λ l. if is_nonempty l then None else joined_count (Some (settled_step All m c h.start h.step [])) t) j
      go [] (Step.TopBy u) j k =
          let none : join_counts m c h.start h.before (Step.TopBy u) (Step.TopBy t ∷ steps q) ≡ None =
          (λ i. join_counts m c h.start h.before (sym k i) (map Step.Filter (sym j i) ++ Step.TopBy t ∷ steps q)) ∙ h.none join_counts (12, omega arith, refl) in
          (λ i. if is_nonempty (j i) then None else joined_count (Some (settled_step All m c h.start (k i) [])) t)
          ∙ no-chain (λ n l. Step.TopBy (record u { limit = Limit.Count (min n l) }) ∷ steps q) (λ n l. record u { limit = Limit.Count (min n l) }) (expr_same u.expr t.expr) (top_count u.bottom u.limit) (top_count t.bottom t.limit) none
      go [] x j k = λ i. if is_nonempty (j i) then None else joined_count (Some (settled_step All m c h.start (k i) [])) t

  -- so an aggregation and a selection are put as they stand
  pub aggregate-kept : (w : Rules) (S : Shape) (g : Segment) (gs : List Segment) (as' : List AggItem) (q : Pipe) → EndsBare w m c g ⊎ EndsAt w m c S g (Pipe.Then (Step.Aggregate as') q)
      → put_step w m c S (Step.Aggregate as') (settled_step w m c S (Step.Aggregate as')) (g ∷ gs) ≡ own w m c S (Step.Aggregate as') ∷ g ∷ gs
  aggregate-kept Early S g gs as' q ends = refl
  aggregate-kept All S g gs as' q ends = ap (λ z. own All m c S (Step.Aggregate as') ∷ (if z then without_orders gs else g ∷ gs)) (not-dropped S g as' q ends)

  pub selection-kept : (w : Rules) (S : Shape) (g : Segment) (gs : List Segment) (t : TopStep) (q : Pipe) → EndsBare w m c g ⊎ EndsAt w m c S g (Pipe.Then (Step.TopBy t) q)
      → put_step w m c S (Step.TopBy t) (settled_step w m c S (Step.TopBy t)) (g ∷ gs) ≡ own w m c S (Step.TopBy t) ∷ g ∷ gs
  unfolding put_steps
  selection-kept Early S g gs t q ends = refl
  selection-kept All S g gs t q ends = ap (λ o. elim o [ None ↦ selection t ∷ g ∷ gs | Some u ↦ selection u ∷ gs ]) (not-joined S g t q ends)

-- ---- the end of a climb's pipeline

last-of_more : {X : Type 0} (o : Option X) (xs : List X) (y : X) → last_or o (xs ++ y ∷ []) ≡ Some y
last-of_more o [] y = refl
last-of_more o (x ∷ xs) y = last-of_more (Some x) xs y

last-there : {X : Type 0} (x : X) (xs : List X) → (y : X) × (last_or (Some x) xs ≡ Some y)
last-there x [] = (x, refl)
last-there x (z ∷ zs) = last-there z zs

-- segments that end in a step that is no order and no computation beside the path lose none
none-idle : (p : Path) (G : List Segment) (ss : List Step) (y : Step) → all_steps G ≡ ss ++ y ∷ [] → is_order (Some y) ≡ false → is_beside p (Some y) ≡ false → without_idle p G ≡ G
none-idle p [] ss y e a b = refl
none-idle p (g ∷ gs) ss y e a b = ap (λ z. if z then without_idle p gs else g ∷ gs) (go g.tests (g.head []) refl refl)
  where
    go : (ts : List Test) (o : Option Step) → g.tests ≡ ts → g.head [] ≡ o → (not (is_nonempty g.tests) && ((g.lets && is_order (g.head [])) || is_beside p (g.head []))) ≡ false
    go (t ∷ ts) o j k = ap (λ l. not (is_nonempty l) && ((g.lets && is_order (g.head [])) || is_beside p (g.head []))) j
    go [] None j k =
        (λ i. not (is_nonempty (j i)) && ((g.lets && is_order (k i)) || is_beside p (k i)))
        ∙ ap (λ z. z || false) (and-none g.lets false refl)
    go [] (Some z) j k =
        let same : z ≡ y = some_value (
        sym (last-of_more None (all_steps gs) z)
        ∙ ap (last_or None) (sym ((λ i. all_steps gs ++ (option_to_list (k i) ++ map (λ (t : Test). Step.Filter t.expr) (j i)))))
        ∙ ap (last_or None) e ∙ last-of_more None ss y) in
        (λ i. not (is_nonempty (j i)) && ((g.lets && is_order (k i)) || is_beside p (k i)))
        ∙ (λ i. (g.lets && (ap (λ s. is_order (Some s)) same ∙ a) i) || (ap (λ s. is_beside p (Some s)) same ∙ b) i)
        ∙ ap (λ z. z || false) (and-none g.lets false refl)

module _ (m : Model) (c : Customs) where
  -- nor do segments whose last step is not idle
  last-kept : (Z : Shape) (p : Path) (ss : List Step) (y : Step) (G hs : List Segment) → is_idle m Z p y ≡ false → G ≡ put_step All m c Z y (settled_step All m c Z y) hs → all_steps G ≡ ss ++ y ∷ [] → without_idle p G ≡ G
  unfolding put_steps
  last-kept Z p ss (Step.OrderBy items) G hs h e k =
      ap (without_idle p) e ∙ ap (λ z. if (z && true) || false then without_idle p hs else own All m c Z (Step.OrderBy items) ∷ hs) h ∙ sym e
  last-kept Z p ss (Step.Compute ns) G hs h e k =
      ap (without_idle p) e ∙ ap (λ z. if z then without_idle p hs else own All m c Z (Step.Compute ns) ∷ hs) h ∙ sym e
  last-kept Z p ss y G hs h e k = none-idle p G ss y k refl refl

  -- a climb's pipeline that is put as it stands loses no step where the rule drops none
  pub climb-kept : (S R : Shape) (before up : Bool) (h : HierName) (p : Path) (s : Step) (q : Pipe) (d : Option ℕ) (keep : Bool) (ss : List Step) → steps_shape m c S (Pipe.Then s q) ≡ Some R → drop_idle m c S before (Step.Climb up h p (Pipe.Then s q) d keep) ss ≡ None
      → all_steps (put_steps All m c S (Pipe.Then s q) front) ≡ s ∷ steps q → without_idle p (put_steps All m c S (Pipe.Then s q) front) ≡ put_steps All m c S (Pipe.Then s q) front
  climb-kept S R before up h p s q d keep ss typed none kept =
      let T = Pipe.Then s q in
      let rest = all_but_last T in
      let y = last-there s (steps q) in
      let split : s ∷ steps q ≡ rest ++ y.0 ∷ [] = last-split (s ∷ steps q) y.0 y.1 in
      let parts' : T ≡ pipe (rest ++ y.0 ∷ []) = sym (pipe-steps T) ∙ ap pipe split in
      let Z = chained (λ Z. steps_shape m c Z (pipe (y.0 ∷ []))) (steps_shape m c S (pipe rest)) R (sym (shape-append m c S rest (y.0 ∷ [])) ∙ sym (ap (steps_shape m c S) parts') ∙ typed) in
      let give : Option Step → Option Shape → Option (List Step) = λ o z. option_and_then (λ x. then_some (is_some_and (λ S'. is_idle m S' p x) z) (Step.Climb up h p (pipe_or_identity rest) d keep ∷ ss)) o in
      let idle = then_some-none (is_idle m Z.0 p y.0) (Step.Climb up h p (pipe_or_identity rest) d keep ∷ ss) (sym (λ i. give (y.1 i) (Z.1 i)) ∙ none) in
      last-kept Z.0 p rest y.0 (put_steps All m c S T front) (put_steps All m c S (pipe rest) front) idle
      (ap (λ r. put_steps All m c S r front) parts' ∙ put-last m c S rest y.0 front ∙ ap (λ U. put_step All m c U y.0 (settled_step All m c U y.0) (put_steps All m c S (pipe rest) front)) (behind-typed m c S Z.0 (pipe rest) Z.1))
      (kept ∙ split)
