-- Where each concatenation of a typed pipeline begins apart or gives filters alone, the walk by all rules keeps the plan, and so do the steps that come out of branches then.
use Rattle.std.proofs.Common.{◌≡◌, refl, sym, ◌∙◌, ap, subst, true, false, List, [], drop, take, Option, Some, None, Contains, arith, ◌⊎◌, inl, inr}
use Rattle.edm_values.specs.Lists.{find_map, first_some}
use Rattle.edm_values.proofs.EachLemmas.{Each, each-contains}
use Rattle.edm_values.proofs.OptionFacts.{none_or}
use Rattle.edm_model.specs.Models.{Model}
use Rattle.apply_ast.specs.Trees.{Pipe}
use Rattle.context_typing.specs.Shapes.{Shape}
use Rattle.context_typing.specs.Typing.{Customs, is_nodes}
use Rattle.context_typing.proofs.TypingLaw.{typing_keeps_lawful}
use Rattle.rewrite_laws.specs.RewriteLaws.{IsTypedFrom}
use Rattle.rewrite_laws.specs.Rewrites.{IsPlanOf, Rule, drop_identity, drop_true, factor_branches, first_rewrite, is_levels, is_no_rollup, next, pipe_results, rewrites, rules, split_conjunction}
use Rattle.rewrite_laws.proofs.OneMeaning.{loaded-results}
use Rattle.rewrite_laws.proofs.OneOutcome.{outcome-in_place}
use Rattle.rewrite_laws.proofs.PlanEnds.{plan_exists, plan_of_next}
use Rattle.rewrite_laws.proofs.PlanLaws.{plan_is_unique}
use Rattle.rewrite_laws.proofs.PlanMeaning.{find_map-from, first-contains}
use Rattle.walk_laws.specs.Factored.{factored_inside}
use Rattle.walk_laws.specs.FiltersOut.{may_give}
use Rattle.walk_laws.specs.Walks.{All, Early, front, rules_of, walk, whole}
use Rattle.walk_laws.specs.WalkLaws.{FactoringKeepsPlan, IsRound, UnfactoredIsSettled, WalkKeepsPlan, next_by}
use Rattle.walk_laws.proofs.ApartRules.{KeepsApart, aggregate-apart, branches-apart, compute-apart, count-apart, grouping-apart, identity-apart, idle-apart, join-apart, nodes-apart, order-apart, outer_join-apart, related-apart, split-apart, traverse-apart, true-apart}
use Rattle.walk_laws.proofs.InsideLeft.{left_inside}
use Rattle.walk_laws.proofs.LowerPipes.{IsLower, IsLowest, by_lower, lower-lowest, lowest-chain, never-lower, rewrite-lower}
use Rattle.walk_laws.proofs.OutKeeps.{Plain, at-factor, deep-gives, deep-plain, deep-rewrite, deep-typed, in-none}
use Rattle.walk_laws.proofs.OutPlaces.{AnyOut, all-out, deep-made, out-factored}
use Rattle.walk_laws.proofs.WithinWalk.{deep-walk}
use Rattle.walk_laws.proofs.StayPlaces.{stay_anywhere}
use Rattle.walk_laws.proofs.StayRules.{KeepsStay, aggregate-stay, branches-stay, compute-stay, count-stay, grouping-stay, identity-stay, idle-stay, join-stay, nodes-stay, order-stay, outer_join-stay, related-stay, split-stay, traverse-stay, true-stay}
use Rattle.walk_laws.proofs.WalkPlan.{first-of_two, found-behind, found-front, found-none, next-alike, next-lower, next-typed, none-of_two, nothing, rules-within, walk-rest, walked}

module _ (m : Model) (c : Customs) where
  -- each rule of the walk keeps concatenations apart, and that they give filters alone
  kept-all : Each (λ r. KeepsApart m c r × KeepsStay m c r) (rules_of All)
  kept-all = (
    (identity-apart m c, identity-stay m c),
    (
      (split-apart m c, split-stay m c),
      (
        (true-apart m c, true-stay m c),
        (
          (compute-apart m c, compute-stay m c),
          (
            (order-apart m c, order-stay m c),
            (
              (grouping-apart m c is_no_rollup, grouping-stay m c is_no_rollup),
              (
                (grouping-apart m c is_levels, grouping-stay m c is_levels),
                (
                  (branches-apart m c, branches-stay m c),
                  (
                    (join-apart m c, join-stay m c),
                    (
                      (related-apart m c, related-stay m c),
                      (
                        (outer_join-apart m c, outer_join-stay m c),
                        (
                          (aggregate-apart m c, aggregate-stay m c),
                          (
                            (count-apart m c, count-stay m c),
                            (
                              (traverse-apart m c, traverse-stay m c),
                              (
                                (grouping-apart m c is_nodes, grouping-stay m c is_nodes),
                                ((nodes-apart m c, nodes-stay m c), ((idle-apart m c, idle-stay m c), tt)),
                              ),
                            ),
                          ),
                        ),
                      ),
                    ),
                  ),
                ),
              ),
            ),
          ),
        ),
      ),
    ),
  )

  module _ (S S' : Shape) where
    abbrev Typed : Pipe → Type 0
    Typed p = IsTypedFrom m c S S' p

    -- each concatenation begins apart, or gives filters alone
    abbrev Gives : Pipe → Type 0
    Gives p = may_give true true p ≡ true

    abbrev First : Pipe → Rule → Option Pipe
    First p r = first_rewrite r m c S p

    -- ---- the walk

    next-gives : (p q : Pipe) → Typed p → next_by All m c S p ≡ Some q → Gives p → Gives q
    next-gives p q t e u =
        let x = find_map-from (First p) (rules_of All) q e in
        let k = rules-within All x.0 x.1 in
        let g = each-contains (λ r. KeepsApart m c r × KeepsStay m c r) (rules_of All) x.0 kept-all x.1 in
        let C : List Pipe → Type 0 = λ l. Contains l q in
        let there = subst C (loaded-results x.0 k m c S S' p t) (first-contains (rewrites x.0 m c S p) q x.2) in
        let a = each-contains _ (pipe_results x.0 m c S false p) q (stay_anywhere m c typing_keeps_lawful x.0 (outcome-in_place x.0 k) g.0 g.1 S S' false p t.customs t.lawful t.typed.1) there in
        a.1.1.stay true true u

    -- what the walk makes is typed, of this kind, and lower or the same, and no rule of the walk applies to it
    record IsSettled (p q : Pipe) : Type 0 where
      typed : Typed q
      gives : Gives p → Gives q
      lowest : IsLowest q p
      none : next_by All m c S q ≡ None

    settled : (p : Pipe) → Typed p → IsSettled p (walk All m c S p)
    settled p t =
        walked All m c S S' IsSettled (λ p t e. record { typed = t; gives = λ u. u; lowest = inl refl; none = e })
        (λ p q r t e h. record { typed = h.typed; gives = λ u. h.gives (next-gives p q t e u); lowest = inr (lowest-chain r q p h.lowest (next-lower All m c S S' p t q e)); none = h.none }) p t

    -- no filter is split or dropped in it, and no `identity`
    plain-settled : (p : Pipe) → Typed p → next_by All m c S p ≡ None → Plain m c S p
    plain-settled p t e =
        let none : (r : Rule) → Contains (rules_of All) r → pipe_results r m c S false p ≡ [] = λ r k. nothing All m c S S' p t r (rules-within All r k) (found-none (First p) (rules_of All) e r k) in
        record { whole = record { split = none split_conjunction (1, omega arith, refl); true' = none drop_true (2, omega arith, refl) }; identity' = none drop_identity (0, omega arith, refl) }

    -- ---- the ninth rule

    abbrev Outs : Pipe → Pipe → Type 0
    Outs p y = AnyOut m c S p y

    out-lower : (p y : Pipe) → Typed p → Outs p y → IsLower y p
    out-lower p y t o = rewrite-lower factor_branches at-factor m c S p y (deep-rewrite m c o.0 S S' p y t o.1)

    out-typed : (p y : Pipe) → Typed p → Outs p y → Typed y
    out-typed p y t o = deep-typed m c o.0 S S' p y t o.1

    out-gives : (p y : Pipe) → Outs p y → Gives p → Gives y
    out-gives p y o g = deep-gives m c o.0 S p y o.1 g

    out-plain : (p y : Pipe) → Typed p → Outs p y → Plain m c S p → Plain m c S y
    out-plain p y t o h = deep-plain m c o.0 S S' p y t o.1 h

    out-same : (p y : Pipe) → Outs p y → factored_inside y ≡ factored_inside p
    out-same p y o = out-factored m c o.0 S p y o.1

    first-out : (p y : Pipe) → Typed p → Gives p → Plain m c S p → First p factor_branches ≡ Some y → Outs p y
    first-out p y t g h e =
        let C : List Pipe → Type 0 = λ l. Contains l y in
        each-contains (AnyOut m c S p) (pipe_results factor_branches m c S false p) y (all-out m c p S false true g h.whole) (subst C (loaded-results factor_branches at-factor m c S S' p t) (first-contains (rewrites factor_branches m c S p) y e))

    none-factor : (p : Pipe) → Typed p → First p factor_branches ≡ None → pipe_results factor_branches m c S false p ≡ []
    none-factor p t e = nothing All m c S S' p t factor_branches at-factor e

    factored-left : (p : Pipe) → Typed p → Plain m c S p → First p factor_branches ≡ None → factored_inside p ≡ p
    factored-left p t h e = left_inside m c p S S' t.typed.0 t.typed.1 h.identity' (none-factor p t e)

    -- ---- what comes next

    -- it is by a rule of the walk, or by the ninth rule where none of the first eight applies
    from-next : (p q : Pipe) → next m c S p ≡ Some q → (next_by All m c S p ≡ Some q) ⊎ ((First p factor_branches ≡ Some q) × (find_map (First p) (take 8 rules) ≡ None))
    from-next p q e = go (find_map (First p) (take 8 rules)) refl
      where
        go : (o : Option Pipe) → find_map (First p) (take 8 rules) ≡ o → (next_by All m c S p ≡ Some q) ⊎ ((First p factor_branches ≡ Some q) × (find_map (First p) (take 8 rules) ≡ None))
        go (Some z) h = inl (found-front (First p) (take 8 rules) (drop 9 rules) z h ∙ sym (found-front (First p) (take 8 rules) (drop 8 rules) z h) ∙ e)
        go None h =
            elim (first-of_two (First p factor_branches) (find_map (First p) (drop 9 rules)) q (sym (found-behind (First p) (take 8 rules) (drop 8 rules) h) ∙ e)) [
              | inl x ↦ inr (x, h)
              | inr x ↦ inl (found-behind (First p) (take 8 rules) (drop 9 rules) h ∙ x.1)
            ]

    from-none : (p : Pipe) → next m c S p ≡ None → (next_by All m c S p ≡ None) × (First p factor_branches ≡ None)
    from-none p e = go (find_map (First p) (take 8 rules)) refl
      where
        go : (o : Option Pipe) → find_map (First p) (take 8 rules) ≡ o → (next_by All m c S p ≡ None) × (First p factor_branches ≡ None)
        go (Some z) h = none_or z (sym e ∙ found-front (First p) (take 8 rules) (drop 8 rules) z h)
        go None h =
            let x = none-of_two (First p factor_branches) (find_map (First p) (drop 9 rules)) (sym (found-behind (First p) (take 8 rules) (drop 8 rules) h) ∙ e) in
            (found-behind (First p) (take 8 rules) (drop 9 rules) h ∙ x.1, x.0)

    plain-early : (p : Pipe) → Typed p → find_map (First p) (take 8 rules) ≡ None → Plain m c S p
    plain-early p t e =
        let none : (r : Rule) → Contains (rules_of Early) r → pipe_results r m c S false p ≡ [] = λ r k. nothing Early m c S S' p t r (rules-within Early r k) (found-none (First p) (rules_of Early) e r k) in
        record { whole = record { split = none split_conjunction (1, omega arith, refl); true' = none drop_true (2, omega arith, refl) }; identity' = none drop_identity (0, omega arith, refl) }

    -- ---- plans

    Plan : Pipe → Pipe
    Plan p = (plan_exists m c S p).0

    plan-next : (p q : Pipe) → next m c S p ≡ Some q → Plan p ≡ Plan q
    unfolding Plan
    plan-next p q e = plan_is_unique m c S p (plan_exists m c S p).0 (plan_exists m c S q).0 (plan_exists m c S p).1 (plan_of_next m c S p q (plan_exists m c S q).0 e (plan_exists m c S q).1)

    plan-same : (p q r : Pipe) → Plan p ≡ Plan q → IsPlanOf m c S q r → IsPlanOf m c S p r
    unfolding Plan
    plan-same p q r e h = subst (IsPlanOf m c S p) (e ∙ plan_is_unique m c S q (plan_exists m c S q).0 r (plan_exists m c S q).1 h) (plan_exists m c S p).1

    -- what keeps the plan of a pipeline
    record Keeps (p : Pipe) : Type 0 where
      walk' : Plan p ≡ Plan (factored_inside (walk All m c S p))
      out : (y : Pipe) → Outs p y → Plan p ≡ Plan y
      factor : Plain m c S p → Plan p ≡ Plan (factored_inside p)

    abbrev Kept : Pipe → Type 0
    Kept p = Typed p → Gives p → Keeps p

    -- a pipeline, where it holds of all that are lower
    module _ (p : Pipe) (ih : (q : Pipe) → IsLower q p → Kept q) (t : Typed p) (g : Gives p) where
      w : Pipe
      w = walk All m c S p

      -- of what comes out
      keeps-out : (y : Pipe) → Outs p y → Keeps y
      keeps-out y o = ih y (out-lower p y t o) (out-typed p y t o) (out-gives p y o g)

      -- of what comes next by a rule of the walk
      keeps-next : (q : Pipe) → next_by All m c S p ≡ Some q → Keeps q
      keeps-next q e = ih q (next-lower All m c S S' p t q e) (next-typed All m c S S' p t q e) (next-gives p q t e g)

      -- the plan of what comes out of the walk
      walked-out : (u : Pipe) → Outs (walk All m c S p) u → Plan (factored_inside (walk All m c S p)) ≡ Plan (factored_inside (walk All m c S u))
      walked-out u o =
          let s = settled p t in
          let v = walk All m c S p in
          let k = ih u (lower-lowest u v p (out-lower v u s.typed o) s.lowest) (out-typed v u s.typed o) (out-gives v u o (s.gives g)) in
          ap Plan (sym (out-same v u o)) ∙ sym (k.factor (out-plain v u s.typed o (plain-settled v s.typed s.none))) ∙ k.walk'

      -- so the walk of what comes out has the plan of the walk
      walks-same : (y : Pipe) → Outs p y → Plan (factored_inside (walk All m c S p)) ≡ Plan (factored_inside (walk All m c S y))
      walks-same y o =
          let x = deep-walk m c o.0 S S' p y t o.1 in
          walked-out x.0 (o.0, x.1) ∙ ap (λ z. Plan (factored_inside z)) x.2

      walk-next : (q : Pipe) → next_by All m c S p ≡ Some q → walk All m c S q ≡ walk All m c S p
      walk-next q e = ap whole ((next-alike All m c S S' p t q e).0 front)

      by-walk : (o : Option Pipe) → next m c S p ≡ o → Plan p ≡ Plan (factored_inside (walk All m c S p))
      by-walk None e =
          let n = from-none p e in
          ap Plan (sym (ap factored_inside (walk-rest All m c S S' p t n.0) ∙ factored-left p t (plain-settled p t n.0) n.1))
      by-walk (Some q) e =
          plan-next p q e
          ∙ elim (from-next p q e) [
            | inl x ↦ (keeps-next q x).walk' ∙ ap (λ z. Plan (factored_inside z)) (walk-next q x)
            | inr x ↦ let o = first-out p q t g (plain-early p t x.1) x.0 in (keeps-out q o).walk' ∙ sym (walks-same q o)
          ]

      by-out : (y : Pipe) → Outs p y → (o : Option Pipe) → next m c S p ≡ o → Plan p ≡ Plan y
      by-out y o None e =
          let C : List Pipe → Type 0 = λ l. Contains l y in
          absurd (in-none y (subst C (none-factor p t (from-none p e).1) (deep-made m c o.0 S p y o.1)))
      by-out y o (Some q) e =
          plan-next p q e
          ∙ elim (from-next p q e) [
            | inl x ↦ (keeps-next q x).walk' ∙ ap (λ z. Plan (factored_inside z)) (walk-next q x) ∙ walks-same y o ∙ sym (keeps-out y o).walk'
            | inr x ↦
                let h = plain-early p t x.1 in
                let f = first-out p q t g h x.0 in
                (keeps-out q f).factor (out-plain p q t f h) ∙ ap Plan (out-same p q f ∙ sym (out-same p y o)) ∙ sym ((keeps-out y o).factor (out-plain p y t o h))
          ]

      by-factor : Plain m c S p → (o : Option Pipe) → First p factor_branches ≡ o → Plan p ≡ Plan (factored_inside p)
      by-factor h None e = ap Plan (sym (factored-left p t h e))
      by-factor h (Some y) e =
          let o = first-out p y t g h e in
          by-out y o (next m c S p) refl ∙ (keeps-out y o).factor (out-plain p y t o h) ∙ ap Plan (out-same p y o)

      keeps : Keeps p
      keeps = record { walk' = by-walk (next m c S p) refl; out = λ y o. by-out y o (next m c S p) refl; factor = λ h. by-factor h (First p factor_branches) refl }

    all-kept : (p : Pipe) → Kept p
    all-kept p = by_lower Kept (λ p h t g. keeps p h t g) p

    -- ---- what comes out of all branches is typed, and of this kind

    record IsOut (p q : Pipe) : Type 0 where
      typed : Typed q
      gives : Gives q
      lowest : IsLowest q p

    abbrev Factored : Pipe → Type 0
    Factored p = Typed p → Gives p → Plain m c S p → IsOut p (factored_inside p)

    factored-kept : (p : Pipe) → Factored p
    factored-kept p = by_lower Factored (λ p h t g k. go p h t g k (First p factor_branches) refl) p
      where
        go : (p : Pipe) → ((q : Pipe) → IsLower q p → Factored q) → Typed p → Gives p → Plain m c S p → (o : Option Pipe) → First p factor_branches ≡ o → IsOut p (factored_inside p)
        go p h t g k None e = subst (IsOut p) (sym (factored-left p t k e)) (record { typed = t; gives = g; lowest = inl refl })
        go p h t g k (Some y) e =
            let o = first-out p y t g k e in
            let l = out-lower p y t o in
            let f = h y l (out-typed p y t o) (out-gives p y o g) (out-plain p y t o k) in
            subst (IsOut p) (out-same p y o) (record { typed = f.typed; gives = f.gives; lowest = inr (lowest-chain (factored_inside y) y p f.lowest l) })

    -- ---- where nothing comes out

    none-next : (p : Pipe) → next_by All m c S p ≡ None → First p factor_branches ≡ None → next m c S p ≡ None
    none-next p e f = go (find_map (First p) (take 8 rules)) refl
      where
        go : (o : Option Pipe) → find_map (First p) (take 8 rules) ≡ o → next m c S p ≡ None
        go (Some z) h = none_or z (sym e ∙ found-front (First p) (take 8 rules) (drop 9 rules) z h)
        go None h =
            let d : find_map (First p) (drop 9 rules) ≡ None = sym (found-behind (First p) (take 8 rules) (drop 9 rules) h) ∙ e in
            found-behind (First p) (take 8 rules) (drop 8 rules) h ∙ (λ i. first_some (f i) (d i))

    nothing-out : (p : Pipe) → Typed p → Gives p → factored_inside (walk All m c S p) ≡ walk All m c S p → next m c S (walk All m c S p) ≡ None
    nothing-out p t g e = go (First v factor_branches) refl
      where
        v : Pipe
        v = walk All m c S p

        s : IsSettled p v
        s = settled p t

        k : Plain m c S v
        k = plain-settled v s.typed s.none

        go : (o : Option Pipe) → First v factor_branches ≡ o → next m c S v ≡ None
        go None h = none-next v s.none h
        go (Some y) h =
            let o = first-out v y s.typed (s.gives g) k h in
            let l = out-lower v y s.typed o in
            let f = factored-kept y (out-typed v y s.typed o) (out-gives v y o (s.gives g)) (out-plain v y s.typed o k) in
            absurd (never-lower v (subst (λ z. IsLower z v) (out-same v y o ∙ e) (lowest-chain (factored_inside y) y v f.lowest l)))

    walk-round : (p : Pipe) → Typed p → Gives p → IsRound m c S S' p (walk All m c S p)
    walk-round p t g =
        let s = settled p t in
        let v = walk All m c S p in
        record {
          typed = s.typed;
          gives = s.gives g;
          plan = λ r h. plan-same p v r ((all-kept p t g).walk' ∙ sym ((all-kept v s.typed (s.gives g)).factor (plain-settled v s.typed s.none))) h;
        }

    factor-round : (p : Pipe) → Typed p → Gives p → IsRound m c S S' p (factored_inside (walk All m c S p))
    factor-round p t g =
        let s = settled p t in
        let v = walk All m c S p in
        let f = factored-kept v s.typed (s.gives g) (plain-settled v s.typed s.none) in
        record { typed = f.typed; gives = f.gives; plan = λ r h. plan-same p (factored_inside v) r (all-kept p t g).walk' h }

    -- what comes out of a pipeline with the walk of another
    pub out-round : (p u y : Pipe) → IsTypedFrom m c S S' p → may_give true true p ≡ true → IsTypedFrom m c S S' u → may_give true true u ≡ true → walk All m c S p ≡ walk All m c S u → AnyOut m c S u y → IsRound m c S S' p y
    out-round p u y t g t' g' e o =
        let k = all-kept u t' g' in
        record { typed = out-typed u y t' o; gives = out-gives u y o g'; plan = λ r h. plan-same p y r ((all-kept p t g).walk' ∙ ap (λ z. Plan (factored_inside z)) e ∙ sym k.walk' ∙ k.out y o) h }

pub walk_keeps_plan : WalkKeepsPlan
walk_keeps_plan m c S S' p t g = walk-round m c S S' p t g

pub factoring_keeps_plan : FactoringKeepsPlan
factoring_keeps_plan m c S S' p t g = factor-round m c S S' p t g

pub unfactored_is_settled : UnfactoredIsSettled
unfactored_is_settled m c S S' p t g e = nothing-out m c S S' p t g e
