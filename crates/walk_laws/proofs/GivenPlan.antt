-- A typed pipeline whose concatenations stay apart or give filters that stay before them is its plan once it is settled in one walk by all rules, and these filters have come out.
use Rattle.std.proofs.Common.{◌≡◌, ◌&&◌, ◌||◌, refl, sym, ◌∙◌, ap, subst, ℕ, zero, suc, Bool, true, false, List, [], ◌∷◌, drop, Option, Some, None, IsTrue, Contains, arith, ◌⊎◌, inl, inr}
use Rattle.std.proofs.lemmas.Bool.{true≢false}
use Rattle.edm_values.specs.Lists.{find_map}
use Rattle.edm_values.proofs.EachLemmas.{Each, each-contains}
use Rattle.edm_model.specs.Models.{Model}
use Rattle.apply_ast.specs.Trees.{Pipe, Step, is_long}
use Rattle.context_typing.specs.Shapes.{Shape}
use Rattle.context_typing.specs.Typing.{Customs, is_nodes}
use Rattle.context_typing.proofs.TypingLaw.{typing_keeps_lawful}
use Rattle.rewrite_laws.specs.RewriteLaws.{IsTypedFrom}
use Rattle.rewrite_laws.specs.Rewrites.{IsPlanOf, Rule, drop_identity, drop_idle, drop_order, drop_true, factor_branches, filter_branches, filter_nodes, filter_related, first_rewrite, is_levels, is_no_rollup, join_counts, next, pass_compute, pass_groups, pass_join, pass_nodes, pass_order, pass_outer_join, pass_rollup, pass_traverse, pipe_or_identity, pipe_results, rewrites, rules, split_conjunction}
use Rattle.rewrite_laws.proofs.OneMeaning.{loaded-firsts, loaded-results}
use Rattle.rewrite_laws.proofs.OneOutcome.{outcome-in_place}
use Rattle.rewrite_laws.proofs.PlanEnds.{plan_of_next, plan_of_settled, rewrites_left, rewrites_left-next}
use Rattle.rewrite_laws.proofs.PlanLaws.{no-first}
use Rattle.rewrite_laws.proofs.PlanMeaning.{find_map-from, first-contains}
use Rattle.walk_laws.specs.Factored.{factored}
use Rattle.walk_laws.specs.Apart.{step_apart}
use Rattle.walk_laws.specs.FiltersOut.{filters_stay, gives_alone, gives_filters, may_give, stays_behind}
use Rattle.walk_laws.specs.Walks.{All, all_steps, front, put_steps, walk, whole}
use Rattle.walk_laws.specs.WalkLaws.{GivenWalkIsPlan}
use Rattle.walk_laws.proofs.ApartRules.{KeepsApart, aggregate-apart, branches-apart, compute-apart, count-apart, grouping-apart, identity-apart, idle-apart, join-apart, nodes-apart, order-apart, outer_join-apart, related-apart, split-apart, traverse-apart, true-apart}
use Rattle.walk_laws.proofs.FactoredLeft.{left_factored}
use Rattle.walk_laws.proofs.GivenFilters.{out-identity, stops-front}
use Rattle.walk_laws.proofs.GivenPlaces.{ComesSame, comes_same}
use Rattle.walk_laws.proofs.StayPlaces.{stay_anywhere}
use Rattle.walk_laws.proofs.StayRules.{KeepsStay, aggregate-stay, branches-stay, compute-stay, count-stay, grouping-stay, identity-stay, idle-stay, join-stay, nodes-stay, order-stay, outer_join-stay, related-stay, split-stay, traverse-stay, true-stay}
use Rattle.walk_laws.proofs.Unsplit.{Unsplit}
use Rattle.walk_laws.proofs.WalkInside.{branches-put, related-put}
use Rattle.walk_laws.proofs.WalkKept.{rest-walked}
use Rattle.walk_laws.proofs.WalkNodes.{chosen-put, idle-put}
use Rattle.walk_laws.proofs.WalkPassing.{PutsSame}
use Rattle.walk_laws.proofs.WalkPlaces.{AlikeSteps, put_anywhere}
use Rattle.walk_laws.proofs.WalkPlan.{first-of_two, found-none, rules-within}
use Rattle.walk_laws.proofs.WalkRules.{aggregate-put, compute-put, count-put, identity-put, order-put, split-put, true-put}
use Rattle.walk_laws.proofs.WalkSteps.{groups-put, join-put, nodes-put, outer_join-put, rollup-put, traverse-put}
use Rattle.walk_laws.proofs.WalkUnbranched.{KeepsUnbranched, aggregate-kept, branches-kept, compute-kept, count-kept, grouping-kept, identity-kept, idle-kept, join-kept, nodes-kept, order-kept, outer_join-kept, related-kept, split-kept, traverse-kept, true-kept}

-- filters stay before the concatenations that give them
abbrev at_front : Pipe → Bool
at_front p = may_give false true p

alone-filters : (s : Step) → gives_alone false s ≡ gives_filters s
alone-filters (Step.Concat ps) = refl
alone-filters s = refl

stay-same : (b : Bool) (p : Pipe) → may_give false b p ≡ filters_stay b p
stay-same b Pipe.End = refl
stay-same b (Pipe.Then s p) = λ i. (step_apart s || (b && alone-filters s i)) && stay-same (stays_behind b s) p i

module _ (m : Model) (c : Customs) (S S' : Shape) (p : Pipe) (t : IsTypedFrom m c S S' p) (u : at_front p ≡ true) where
  -- what a rule makes at its first place
  abbrev First : Rule → Option Pipe
  First r = first_rewrite r m c S p

  -- a rule with no first result makes nothing at all
  nothing : (r : Rule) → Contains rules r → First r ≡ None → pipe_results r m c S false p ≡ []
  nothing r k e = sym (loaded-results r k m c S S' p t) ∙ no-first (rewrites r m c S p) e

  -- the walk and what comes out then make the same of another pipeline of this kind
  abbrev IsAlike : Pipe → Type 0
  IsAlike q = (factored (walk All m c S q) ≡ factored (walk All m c S p)) × (at_front q ≡ true)

  -- so it is with what a rule makes
  abbrev IsGood : Rule → Type 0
  IsGood r = (q : Pipe) → First r ≡ Some q → IsAlike q

  made-alike : (needs : Bool) (r : Rule) → Contains rules r → PutsSame needs false All m c r → KeepsUnbranched m c r → KeepsApart m c r → KeepsStay m c r → (needs ≡ true → Unsplit m c S false p) → IsGood r
  made-alike needs r k P F A Z n q e =
      let Put : Pipe → Type 0 = λ q. IsTrue (false || is_long q) × AlikeSteps All m c needs false S p q in
      let C : List Pipe → Type 0 = λ l. Contains l q in
      let there = subst C (loaded-results r k m c S S' p t) (first-contains (rewrites r m c S p) q e) in
      let h = each-contains Put (pipe_results r m c S false p) q (put_anywhere All m c needs false typing_keeps_lawful r (outcome-in_place r k) P F S S' false p t.customs t.lawful t.typed.1) there in
      let a = each-contains _ (pipe_results r m c S false p) q (stay_anywhere m c typing_keeps_lawful r (outcome-in_place r k) A Z S S' false p t.customs t.lawful t.typed.1) there in
      (ap (λ gs. factored (whole gs)) (h.1.1 false (n, λ f. absurd (true≢false (sym f))) front), a.1.1.stay false true u)

  none-needed : false ≡ true → Unsplit m c S false p
  none-needed e = absurd (true≢false (sym e))

  -- the rules behind the first three, in a pipeline in which no filter is split or dropped
  module _ (n : true ≡ true → Unsplit m c S false p) where
    asks-more : (r : Rule) → PutsSame false false All m c r → PutsSame true false All m c r
    asks-more r P S before s ss ss' gs u e =
        P S before s ss ss' gs (record { customs = u.customs; lawful = u.lawful; last = u.last; typed = u.typed; unsplit = λ n. absurd (true≢false (sym n)); unbranched = u.unbranched }) e

    -- what the ninth rule makes
    by-factor : IsGood factor_branches
    by-factor q e =
        let C : List Pipe → Type 0 = λ l. Contains l q in
        let there = subst C (loaded-results factor_branches (8, omega arith, refl) m c S S' p t) (first-contains (rewrites factor_branches m c S p) q e) in
        let k = each-contains (ComesSame m c S true front p) (pipe_results factor_branches m c S false p) q (comes_same m c p S S' false true front (λ e. stops-front) u t.typed.1 (n refl)) there in
        (ap pipe_or_identity (out-identity (all_steps (put_steps All m c S q front)) ∙ k.0 ∙ sym (out-identity (all_steps (put_steps All m c S p front)))), k.1)

    all-good : Each IsGood (drop 3 rules)
    all-good = (
      made-alike true pass_compute (3, omega arith, refl) (compute-put false All m c) (compute-kept m c) (compute-apart m c) (compute-stay m c) n,
      (
        made-alike true pass_order (4, omega arith, refl) (order-put false All m c) (order-kept m c) (order-apart m c) (order-stay m c) n,
        (
          made-alike true pass_groups (5, omega arith, refl) (groups-put false All m c) (grouping-kept m c is_no_rollup) (grouping-apart m c is_no_rollup) (grouping-stay m c is_no_rollup) n,
          (
            made-alike true pass_rollup (6, omega arith, refl) (rollup-put false All m c) (grouping-kept m c is_levels) (grouping-apart m c is_levels) (grouping-stay m c is_levels) n,
            (
              made-alike true filter_branches (7, omega arith, refl) (branches-put false All m c) (branches-kept m c) (branches-apart m c) (branches-stay m c) n,
              (
                by-factor,
                (
                  made-alike true pass_join (9, omega arith, refl) (join-put false m c) (join-kept m c) (join-apart m c) (join-stay m c) n,
                  (
                    made-alike true filter_related (10, omega arith, refl) (related-put false m c) (related-kept m c) (related-apart m c) (related-stay m c) n,
                    (
                      made-alike true pass_outer_join (11, omega arith, refl) (outer_join-put false m c) (outer_join-kept m c) (outer_join-apart m c) (outer_join-stay m c) n,
                      (
                        made-alike true drop_order (12, omega arith, refl) (aggregate-put false m c) (aggregate-kept m c) (aggregate-apart m c) (aggregate-stay m c) n,
                        (
                          made-alike true join_counts (13, omega arith, refl) (count-put false m c) (count-kept m c) (count-apart m c) (count-stay m c) n,
                          (
                            made-alike true pass_traverse (14, omega arith, refl) (traverse-put false m c) (traverse-kept m c) (traverse-apart m c) (traverse-stay m c) n,
                            (
                              made-alike true pass_nodes (15, omega arith, refl) (nodes-put false m c) (grouping-kept m c is_nodes) (grouping-apart m c is_nodes) (grouping-stay m c is_nodes) n,
                              (
                                made-alike true filter_nodes (16, omega arith, refl) (chosen-put false m c) (nodes-kept m c) (nodes-apart m c) (nodes-stay m c) n,
                                (
                                  made-alike true drop_idle (17, omega arith, refl) (asks-more drop_idle (idle-put false m c)) (idle-kept m c) (idle-apart m c) (idle-stay m c) n,
                                  tt,
                                ),
                              ),
                            ),
                          ),
                        ),
                      ),
                    ),
                  ),
                ),
              ),
            ),
          ),
        ),
      ),
    )

  by-others : First split_conjunction ≡ None → First drop_true ≡ None → (q : Pipe) → find_map First (drop 3 rules) ≡ Some q → IsAlike q
  by-others a b q e =
      let x = find_map-from First (drop 3 rules) q e in
      each-contains IsGood (drop 3 rules) x.0
      (all-good (λ n. record { split = nothing split_conjunction (1, omega arith, refl) a; true' = nothing drop_true (2, omega arith, refl) b }))
      x.1 q x.2

  by-true : First split_conjunction ≡ None → (q : Pipe) → (First drop_true ≡ Some q) ⊎ ((First drop_true ≡ None) × (find_map First (drop 3 rules) ≡ Some q)) → IsAlike q
  by-true a q (inl e) = made-alike false drop_true (2, omega arith, refl) (true-put false All m c) (true-kept m c) (true-apart m c) (true-stay m c) none-needed q e
  by-true a q (inr e) = by-others a e.0 q e.1

  by-split : (q : Pipe) → (First split_conjunction ≡ Some q) ⊎ ((First split_conjunction ≡ None) × (find_map First (drop_true ∷ drop 3 rules) ≡ Some q)) → IsAlike q
  by-split q (inl e) = made-alike false split_conjunction (1, omega arith, refl) (split-put false All m c) (split-kept m c) (split-apart m c) (split-stay m c) none-needed q e
  by-split q (inr e) = by-true e.0 q (first-of_two (First drop_true) (find_map First (drop 3 rules)) q e.1)

  by-identity : (q : Pipe) → (First drop_identity ≡ Some q) ⊎ ((First drop_identity ≡ None) × (find_map First (split_conjunction ∷ drop_true ∷ drop 3 rules) ≡ Some q)) → IsAlike q
  by-identity q (inl e) = made-alike false drop_identity (0, omega arith, refl) (identity-put false All m c) (identity-kept m c) (identity-apart m c) (identity-stay m c) none-needed q e
  by-identity q (inr e) = by-split q (first-of_two (First split_conjunction) (find_map First (drop_true ∷ drop 3 rules)) q e.1)

  -- so it is with what comes next
  next-alike : (q : Pipe) → next m c S p ≡ Some q → IsAlike q
  next-alike q e = by-identity q (first-of_two (First drop_identity) (find_map First (split_conjunction ∷ drop_true ∷ drop 3 rules)) q e)

  -- where nothing comes next the pipeline is left as it stands
  walk-rest : next m c S p ≡ None → factored (walk All m c S p) ≡ p
  walk-rest e =
      let none : (r : Rule) → Contains rules r → pipe_results r m c S false p ≡ [] = λ r k. nothing r k (found-none First rules e r k) in
      ap factored (rest-walked All m c p S S' t.typed.0 t.typed.1 (λ r k. none r (rules-within All r k)))
      ∙ left_factored m c p S S' t.typed.0 t.typed.1 (none drop_identity (0, omega arith, refl)) (none factor_branches (8, omega arith, refl))

  -- what comes next is typed
  next-typed : (q : Pipe) → next m c S p ≡ Some q → IsTypedFrom m c S S' q
  next-typed q e =
      let x = find_map-from First rules q e in
      record { customs = t.customs; lawful = t.lawful; typed = (loaded-firsts x.0 x.1 m c S S' p q t x.2).typed }

-- ---- all rewrites

module _ (m : Model) (c : Customs) (S S' : Shape) where
  abbrev Walked : Pipe → Type 0
  Walked p = IsTypedFrom m c S S' p → at_front p ≡ true → IsPlanOf m c S p (factored (walk All m c S p))

  where-none : (p : Pipe) → next m c S p ≡ None → Walked p
  where-none p e t u = subst (IsPlanOf m c S p) (sym (walk-rest m c S S' p t u e)) (plan_of_settled m c S p e)

  where-some : (p q : Pipe) → next m c S p ≡ Some q → Walked q → Walked p
  where-some p q e f t u =
      let a = next-alike m c S S' p t u q e in
      subst (IsPlanOf m c S p) a.0 (plan_of_next m c S p q (factored (walk All m c S q)) e (f (next-typed m c S S' p t u q e) a.1))

  at-last : (p : Pipe) (o : Option Pipe) → next m c S p ≡ o → rewrites_left m c S p ≡ 0 → Walked p
  at-last p None e l = where-none p e
  at-last p (Some q) e l = let k = rewrites_left-next m c S p q e in absurd (omega (arith, k, l))

  before-last : (n : ℕ) → ((q : Pipe) → rewrites_left m c S q ≡ n → Walked q) → (p : Pipe) (o : Option Pipe) → next m c S p ≡ o → rewrites_left m c S p ≡ suc n → Walked p
  before-last n f p None e l = where-none p e
  before-last n f p (Some q) e l = let k = rewrites_left-next m c S p q e in where-some p q e (f q (omega (arith, k, l)))

  by-left : (n : ℕ) (p : Pipe) → rewrites_left m c S p ≡ n → Walked p
  by-left zero p l = at-last p (next m c S p) refl l
  by-left (suc n) p l = before-last n (by-left n) p (next m c S p) refl l

pub given_walk_is_plan : GivenWalkIsPlan
given_walk_is_plan m c S S' p t u = by-left m c S S' (rewrites_left m c S p) p refl t (stay-same true p ∙ u)
