-- From a typed pipeline to its plan: by one walk, or turn by turn, where a turn is a rewrite by a later rule and the early walk.
use Rattle.std.specs.Prelude.{option_and_then}
use Rattle.std.proofs.Common.{◌≡◌, sym, ◌∙◌, ap, subst, ℕ, zero, suc, ◌<◌, ◌≤◌, Bool, true, false, List, Option, Some, None, IsTrue, map, arith}
use Rattle.std.proofs.lemmas.Bool.{true≢false}
use Rattle.edm_values.specs.Lists.{find_map, first_some}
use Rattle.edm_values.proofs.OptionFacts.{chained, none_or, some_value}
use Rattle.edm_model.specs.LookUps.{set_type}
use Rattle.edm_model.specs.Models.{Model}
use Rattle.apply_ast.specs.Trees.{Pipe, Step, pipe}
use Rattle.apply_ast.specs.Views.{pipe_of, step_of}
use Rattle.apply_meaning.specs.MeaningLaws.{IsLoaded}
use Rattle.context_typing.specs.Answers.{IsTyping}
use Rattle.context_typing.specs.Shapes.{Shape}
use Rattle.context_typing.specs.Typing.{Customs, Types, customs_typed, shape_of_set}
use Rattle.context_typing.specs.declared.typed.Typed.{Typed}
use Rattle.context_typing.proofs.LawfulShapes.{own_is_lawful}
use Rattle.rewrite_laws.specs.RewriteLaws.{IsTypedFrom, MayStandFor}
use Rattle.rewrite_laws.specs.Rewrites.{IsPlanOf, Rule, first_rewrite, next, pipe_or_identity, rewritten}
use Rattle.rewrite_laws.proofs.PlanEnds.{plan_of_next, plan_of_settled, rewrites_left, rewrites_left-next}
use Rattle.walk_laws.specs.Apart.{stays_apart}
use Rattle.walk_laws.specs.Factored.{factored, factored_inside, pipe_rests}
use Rattle.walk_laws.specs.FiltersOut.{gives_anywhere, gives_at_front}
use Rattle.walk_laws.specs.Walks.{All, Early, rules_of, walk}
use Rattle.walk_laws.specs.WalkLaws.{ApartWalkIsPlan, CrossingKeepsPlan, EarlyWalkIsPlan, EarlyWalkKeepsMeaning, FactoringIsRewriting, FactoringKeepsPlan, GivenWalkIsPlan, IsFactored, IsRound, LaterRulesFollow, UnfactoredIsSettled, next_by, rewritten_by}
use Rattle.optimiser.specs.Plans.{HasPlanOf, IsBegun, IsFirstOf, IsGiven, IsRounded, IsTurn, IsTurned, IsTypedPlan, IsWalked, IsWithFactored, IsWithFactoredInside, later_rules}
use Rattle.optimiser.specs.CrossingForms.{IsCrossing, moved, whole_of}
use Rattle.optimiser.specs.declared.crossing.Crossing.{Crossing}
use Rattle.optimiser.proofs.CrossingLemmas.{long-moved}
use Rattle.optimiser.proofs.PlanSteps.{found-append, typing-kept}

module _ (m : Model) (c : Customs) where
  -- a typed pipeline over an entity set is one from the shape of its instances
  typed-from : (t : Typed) → IsTrue (customs_typed m c) → IsTyping m c t → IsTypedFrom m c (shape_of_set m t.set) t.shape (pipe_of t.pipe)
  typed-from t customs typing = record { customs = customs; lawful = own_is_lawful m (set_type m t.set); typed = typing }

  -- ---- one walk

  -- the early walk keeps the typing
  pub walk-typed : (t q : Typed) → EarlyWalkKeepsMeaning IsLoaded → IsTrue (customs_typed m c) → IsTyping m c t → IsWalked Early m c t q → IsTyping m c q
  walk-typed t q law customs typing w =
      let S = shape_of_set m t.set in
      let P : Pipe → Type 0 = λ p. MayStandFor IsLoaded m c S t.shape (pipe_of t.pipe) p in
      typing-kept m c t q w.set w.shape (subst P (sym w.pipe) (law m c S t.shape (pipe_of t.pipe) (typed-from t customs typing)))

  -- where concatenations stay apart the walk by all rules makes the plan
  pub walk-plan : (t q : Typed) → ApartWalkIsPlan → IsTrue (customs_typed m c) → IsTyping m c t → IsTrue (stays_apart (pipe_of t.pipe)) → IsWalked All m c t q → IsTypedPlan m c t q
  walk-plan t q law customs typing apart w =
      let S = shape_of_set m t.set in
      record {
        set = w.set;
        shape = w.shape;
        pipe = subst (IsPlanOf m c S (pipe_of t.pipe)) (sym w.pipe) (law m c S t.shape (pipe_of t.pipe) (typed-from t customs typing) apart);
      }

  -- where one gives filters that stay before it, so does what comes out then
  pub given-plan : (t q : Typed) → GivenWalkIsPlan → IsTrue (customs_typed m c) → IsTyping m c t → IsTrue (gives_at_front (pipe_of t.pipe)) → IsGiven m c t q → IsTypedPlan m c t q
  given-plan t q law customs typing gives w =
      let S = shape_of_set m t.set in
      record {
        set = w.set;
        shape = w.shape;
        pipe = subst (IsPlanOf m c S (pipe_of t.pipe)) (sym w.pipe) (law m c S t.shape (pipe_of t.pipe) (typed-from t customs typing) gives);
      }

  -- ---- rewrites, one after the other

  module _ (S : Shape) where
    -- what comes next by the rules of the early walk comes next
    next-early : (p q : Pipe) → next_by Early m c S p ≡ Some q → next m c S p ≡ Some q
    next-early p q e = found-append (λ r. first_rewrite r m c S p) (rules_of Early) later_rules ∙ ap (λ o. first_some o (find_map (λ r. first_rewrite r m c S p) later_rules)) e

    -- rewrites by them are rewrites
    early-reached : (n : ℕ) (p q : Pipe) → rewritten_by n Early m c S p ≡ Some q → rewritten n m c S p ≡ Some q
    early-reached zero p q e = e
    early-reached (suc n) p q e =
        let t = chained (rewritten_by n Early m c S) (next_by Early m c S p) q e in
        ap (option_and_then (rewritten n m c S)) (next-early p t.0 t.1) ∙ early-reached n t.0 q t.2

    -- rewrites and others behind them
    both-reached : (n k : ℕ) (p q r : Pipe) → rewritten n m c S p ≡ Some q → rewritten k m c S q ≡ Some r → (j : ℕ) × (rewritten j m c S p ≡ Some r)
    both-reached zero k p q r e h = (k, ap (rewritten k m c S) (some_value e) ∙ h)
    both-reached (suc n) k p q r e h =
        let t = chained (rewritten n m c S) (next m c S p) q e in
        let x = both-reached n k t.0 q r t.2 h in
        (suc x.0, ap (option_and_then (rewritten x.0 m c S)) t.1 ∙ x.1)

    -- they leave no more rewrites than there were
    left-reached : (n : ℕ) (p q : Pipe) → rewritten n m c S p ≡ Some q → rewrites_left m c S q ≤ rewrites_left m c S p
    left-reached zero p q e = let same = ap (rewrites_left m c S) (some_value e) in omega (arith, same)
    left-reached (suc n) p q e =
        let t = chained (rewritten n m c S) (next m c S p) q e in
        let k = rewrites_left-next m c S p t.0 t.1 in
        let l = left-reached n t.0 q t.2 in
        omega (arith, k, l)

    -- they lead to a pipeline with the same plan
    plan-reached : (n : ℕ) (p q r : Pipe) → rewritten n m c S p ≡ Some q → IsPlanOf m c S q r → IsPlanOf m c S p r
    plan-reached zero p q r e h = let P : Pipe → Type 0 = λ x. IsPlanOf m c S x r in subst P (sym (some_value e)) h
    plan-reached (suc n) p q r e h =
        let t = chained (rewritten n m c S) (next m c S p) q e in
        plan_of_next m c S p t.0 r t.1 (plan-reached n t.0 q r t.2 h)

  -- ---- one turn

  -- the early walk
  pub walk-turn : (t q : Typed) → IsTrue (customs_typed m c) → IsTyping m c t → IsWalked Early m c t q → IsTyping m c q → EarlyWalkIsPlan → LaterRulesFollow → IsTurn m c t q
  walk-turn t q customs typing w typed law follow =
      let S = shape_of_set m t.set in
      let p = pipe_of t.pipe in
      let from = typed-from t customs typing in
      let h = law m c S t.shape p from in
      let Later : Pipe → Type 0 = λ z. next m c S z ≡ find_map (λ r. first_rewrite r m c S z) later_rules in
      record {
        set = w.set;
        shape = w.shape;
        typing = typed;
        reached = (h.0.0, early-reached S h.0.0 p (walk Early m c S p) h.0.1 ∙ ap Some (sym w.pipe));
        later = subst Later (sym w.pipe) (follow m c S t.shape p from);
      }

  -- and behind it the steps that come out of branches
  pub factor-turn : (t q r : Typed) → IsTrue (customs_typed m c) → IsTurn m c t q → IsWithFactored q r → IsTrue (pipe_rests (pipe_of q.pipe)) → FactoringIsRewriting → IsTurn m c t r
  factor-turn t q r customs k w rests law =
      let S = shape_of_set m t.set in
      let A : ℕ → Type 0 = λ n. IsFactored m c (shape_of_set m n) q.shape (pipe_of q.pipe) (factored (pipe_of q.pipe)) in
      let B : Pipe → Type 0 = λ z. IsFactored m c S q.shape (pipe_of q.pipe) z in
      let g = subst B (sym w.pipe) (subst A k.set (law m c (shape_of_set m q.set) q.shape (pipe_of q.pipe) (typed-from q customs k.typing) rests)) in
      let X : ℕ → Type 0 = λ n. Types m c (shape_of_set m n) (pipe_of r.pipe) r.shape in
      let Y : Shape → Type 0 = λ Z. Types m c S (pipe_of r.pipe) Z in
      record {
        set = w.set ∙ k.set;
        shape = w.shape ∙ k.shape;
        typing = subst X (sym (w.set ∙ k.set)) (subst Y (sym w.shape) g.typed.typed);
        reached = both-reached S k.reached.0 g.reached.0 (pipe_of t.pipe) (pipe_of q.pipe) (pipe_of r.pipe) k.reached.1 g.reached.1;
        later = g.later;
      }

  -- ---- turns

  -- one turn
  pub turn-first : (t q : Typed) → IsTurn m c t q → IsTurned m c t q
  turn-first t q k =
      let Later : ℕ → Type 0 = λ n. next m c (shape_of_set m n) (pipe_of q.pipe) ≡ find_map (λ r. first_rewrite r m c (shape_of_set m n) (pipe_of q.pipe)) later_rules in
      let Plan : Pipe → ℕ → Type 0 = λ r n. IsPlanOf m c (shape_of_set m n) (pipe_of q.pipe) r in
      record {
        set = k.set;
        shape = k.shape;
        typing = k.typing;
        plan = λ r h. plan-reached (shape_of_set m t.set) k.reached.0 (pipe_of t.pipe) (pipe_of q.pipe) r k.reached.1 (subst (Plan r) k.set h);
        later = subst Later (sym k.set) k.later;
      }

  -- pipelines with the same plan, one after the other
  pub plan-chain : (t q r : Typed) → HasPlanOf m c t q → HasPlanOf m c q r → HasPlanOf m c t r
  plan-chain t q r h k = record { set = k.set ∙ h.set; shape = k.shape ∙ h.shape; typing = k.typing; plan = λ x p. h.plan x (k.plan x p) }

  -- a turn behind a pipeline with the same plan
  pub turn-chain : (t q r : Typed) → HasPlanOf m c t q → IsTurned m c q r → IsTurned m c t r
  turn-chain t q r h k = record { set = k.set ∙ h.set; shape = k.shape ∙ h.shape; typing = k.typing; plan = λ x p. h.plan x (k.plan x p); later = k.later }

  -- one more turn
  module _ (t q a r : Typed) (so-far : IsTurned m c t q) (rewrite' : IsFirstOf later_rules m c q (Some a)) where
    rewritten-next : next m c (shape_of_set m q.set) (pipe_of q.pipe) ≡ Some (pipe_of a.pipe)
    rewritten-next = so-far.later ∙ rewrite'.2

    pub turn-turned : IsTurned m c a r → IsTurned m c t r
    turn-turned k = record {
      set = k.set ∙ rewrite'.0 ∙ so-far.set;
      shape = k.shape ∙ rewrite'.1 ∙ so-far.shape;
      typing = k.typing;
      plan = λ x h. so-far.plan x (plan_of_next m c (shape_of_set m q.set) (pipe_of q.pipe) (pipe_of a.pipe) x rewritten-next (subst (λ n. IsPlanOf m c (shape_of_set m n) (pipe_of a.pipe) x) rewrite'.0 (k.plan x h)));
      later = k.later;
    }

    pub turn-less : IsTurn m c a r → rewrites_left m c (shape_of_set m r.set) (pipe_of r.pipe) < rewrites_left m c (shape_of_set m q.set) (pipe_of q.pipe)
    turn-less turn =
        let k = rewrites_left-next m c (shape_of_set m q.set) (pipe_of q.pipe) (pipe_of a.pipe) rewritten-next in
        let l = left-reached (shape_of_set m a.set) turn.reached.0 (pipe_of a.pipe) (pipe_of r.pipe) turn.reached.1 in
        let same = ap (λ n. rewrites_left m c (shape_of_set m n) (pipe_of a.pipe)) rewrite'.0 in
        let there = ap (λ n. rewrites_left m c (shape_of_set m n) (pipe_of r.pipe)) turn.set in
        omega (arith, k, l, same, there)

  -- where no later rule applies, what was reached is the plan
  pub turned-plan : (t q : Typed) → IsTurned m c t q → IsFirstOf later_rules m c q None → IsTypedPlan m c t q
  turned-plan t q h none = record {
    set = h.set;
    shape = h.shape;
    pipe = h.plan (pipe_of q.pipe) (plan_of_settled m c (shape_of_set m q.set) (pipe_of q.pipe) (h.later ∙ none));
  }

  -- ---- rounds

  -- a typed pipeline has its own plan, and so has a copy
  pub own-plan : (t q : Typed) → IsTyping m c t → q.set ≡ t.set → q.shape ≡ t.shape → pipe_of q.pipe ≡ pipe_of t.pipe → HasPlanOf m c t q
  own-plan t q typing set shape same = record {
    set = set;
    shape = shape;
    typing = subst (λ Z. Types m c (shape_of_set m q.set) (pipe_of q.pipe) Z) (sym shape) (subst (λ p. Types m c (shape_of_set m q.set) p t.shape) (sym same) (subst (λ n. Types m c (shape_of_set m n) (pipe_of t.pipe) t.shape) (sym set) typing));
    plan = λ r h. subst (λ n. IsPlanOf m c (shape_of_set m n) (pipe_of t.pipe) r) set (subst (λ p. IsPlanOf m c (shape_of_set m q.set) p r) same h);
  }

  -- what comes in place of it
  round-plan : (t q : Typed) (p : Pipe) → q.set ≡ t.set → q.shape ≡ t.shape → pipe_of q.pipe ≡ p → IsRound m c (shape_of_set m t.set) t.shape (pipe_of t.pipe) p → HasPlanOf m c t q
  round-plan t q p set shape same k = record {
    set = set;
    shape = shape;
    typing = subst (λ Z. Types m c (shape_of_set m q.set) (pipe_of q.pipe) Z) (sym shape) (subst (λ z. Types m c (shape_of_set m q.set) z t.shape) (sym same) (subst (λ n. Types m c (shape_of_set m n) p t.shape) (sym set) (k.typed).typed));
    plan = λ r h. k.plan r (subst (λ z. IsPlanOf m c (shape_of_set m t.set) z r) same (subst (λ n. IsPlanOf m c (shape_of_set m n) (pipe_of q.pipe) r) set h));
  }

  module _ (t : Typed) (customs : IsTrue (customs_typed m c)) (typing : IsTyping m c t) (gives : IsTrue (gives_anywhere (pipe_of t.pipe))) where
    -- the walk by all rules, and the filters that come out then
    pub factor-round : FactoringKeepsPlan → (q r : Typed) → IsWalked All m c t q → IsWithFactoredInside q r → HasPlanOf m c t r
    factor-round law q r w f =
        let S = shape_of_set m t.set in
        round-plan t r (factored_inside (walk All m c S (pipe_of t.pipe))) (f.set ∙ w.set) (f.shape ∙ w.shape) (f.pipe ∙ ap factored_inside w.pipe) (law m c S t.shape (pipe_of t.pipe) (typed-from t customs typing) gives)

    -- where none came out, no rule applies
    pub round-end : UnfactoredIsSettled → (q r : Typed) → IsWalked All m c t q → IsWithFactoredInside q r → pipe_of r.pipe ≡ pipe_of q.pipe → next m c (shape_of_set m r.set) (pipe_of r.pipe) ≡ None
    round-end law q r w f same =
        let S = shape_of_set m t.set in
        let v = walk All m c S (pipe_of t.pipe) in
        let e : factored_inside v ≡ v = sym (ap factored_inside w.pipe) ∙ sym f.pipe ∙ same ∙ w.pipe in
        (λ i. next m c (shape_of_set m ((f.set ∙ w.set) i)) ((same ∙ w.pipe) i)) ∙ law m c S t.shape (pipe_of t.pipe) (typed-from t customs typing) gives e

  -- filters that cross a concatenation, before it
  pub crossing-plan : (t : Typed) → IsTrue (customs_typed m c) → IsTyping m c t → IsTrue (gives_anywhere (pipe_of t.pipe)) → CrossingKeepsPlan → (ss : List Step) → pipe_of t.pipe ≡ pipe ss → (x : Crossing) → IsCrossing m c (shape_of_set m t.set) ss x
      → (q : Typed) → q.set ≡ t.set → q.shape ≡ t.shape → pipe_of q.pipe ≡ pipe_or_identity (moved x) → HasPlanOf m c t q
  crossing-plan t customs typing gives law ss tree x k q set shape same =
      let S = shape_of_set m t.set in
      let as' = map step_of x.before.now in
      let s = step_of x.concat.now in
      let fs = map step_of x.filters.now in
      let zs = map step_of x.behind.now in
      let e : pipe_of t.pipe ≡ pipe (whole_of x) = tree ∙ ap pipe k.whole in
      let round = law m c S t.shape as' s fs zs (subst (IsTypedFrom m c S t.shape) e (typed-from t customs typing)) (subst (λ p. IsTrue (gives_anywhere p)) e gives) k.cross in
      round-plan t q (pipe (moved x)) set shape (same ∙ long-moved as' fs s zs) (subst (λ p. IsRound m c S t.shape p (pipe (moved x))) (sym e) round)

  -- it is not known whether a rule applies
  pub not-known : (t q : Typed) → HasPlanOf m c t q → IsRounded m c t (q, false)
  not-known t q h = record { made = h; done = λ d. absurd (true≢false (sym d)) }

  -- of what no rule applies to, the next rewrite is by a later rule, and there is none
  pub ended-begun : (t q : Typed) → HasPlanOf m c t q → next m c (shape_of_set m q.set) (pipe_of q.pipe) ≡ None → IsBegun m c t (q, true)
  ended-begun t q h e =
      let S = shape_of_set m q.set in
      let First : Rule → Option Pipe = λ r. first_rewrite r m c S (pipe_of q.pipe) in
      let later : find_map First later_rules ≡ None = (no-first (find_map First (rules_of Early)) (find_map First later_rules) (sym (found-append First (rules_of Early) later_rules) ∙ e)) in
      record { made = record { set = h.set; shape = h.shape; typing = h.typing; plan = h.plan; later = e ∙ sym later }; done = λ d. later }
    where
      no-first : {X : Type 0} (a b : Option X) → first_some a b ≡ None → b ≡ None
      no-first None b e = e
      no-first (Some x) b e = none_or x (sym e)

  -- turned behind rounds
  pub begun-chain : (t q r : Typed) → HasPlanOf m c t q → IsTurn m c q r → IsBegun m c t (r, false)
  begun-chain t q r h k = record { made = turn-chain t q r h (turn-first q r k); done = λ d. absurd (true≢false (sym d)) }

  -- a turn more, and what comes of it
  pub turn-begun : (t q a : Typed) (r : Typed × Bool) → IsTurned m c t q → IsFirstOf later_rules m c q (Some a) → IsBegun m c a r → IsBegun m c t r
  turn-begun t q a r h f k = record { made = turn-turned t q a r.0 h f k.made; done = k.done }
