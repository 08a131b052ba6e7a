-- What a walk makes of a typed pipeline is what its rules make of it.
use Rattle.std.proofs.Common.{◌≡◌, ◌||◌, refl, sym, ◌∙◌, ap, subst, ℕ, zero, suc, Bool, true, false, List, [], ◌∷◌, ◌++◌, drop, take, Option, Some, None, IsTrue, Contains, ◌⊎◌, inl, inr}
use Rattle.std.specs.Prelude.{option_and_then}
use Rattle.std.proofs.lemmas.Bool.{true≢false}
use Rattle.std.proofs.lemmas.List.Elements.{Contains-append_cases, Contains-append_left, Contains-append_right}
use Rattle.edm_values.specs.Lists.{find_map, first_some}
use Rattle.edm_values.proofs.EachLemmas.{Each, each-contains}
use Rattle.edm_values.proofs.OptionFacts.{chained, none_or, some_value}
use Rattle.edm_model.specs.Models.{Model}
use Rattle.edm_data.specs.Worlds.{World}
use Rattle.apply_ast.specs.Trees.{Pipe, is_long}
use Rattle.context_typing.specs.Shapes.{Shape}
use Rattle.context_typing.specs.Typing.{Customs, is_nodes}
use Rattle.context_typing.proofs.TypingLaw.{typing_keeps_lawful}
use Rattle.apply_meaning.specs.MeaningLaws.{IsLoaded}
use Rattle.rewrite_laws.specs.RewriteLaws.{IsTypedFrom, MayStandFor}
use Rattle.rewrite_laws.specs.Rewrites.{IsPlanOf, Rule, drop_identity, drop_true, drop_idle, first_rewrite, is_levels, is_no_rollup, next, pipe_results, rewrites, rules, split_conjunction}
use Rattle.rewrite_laws.proofs.OneMeaning.{loaded-firsts, loaded-results}
use Rattle.rewrite_laws.proofs.OneOutcome.{outcome-in_place}
use Rattle.rewrite_laws.proofs.PlanEnds.{plan_of_next}
use Rattle.rewrite_laws.proofs.PlanLaws.{no-first}
use Rattle.rewrite_laws.proofs.PlanMeaning.{find_map-from, first-contains}
use Rattle.walk_laws.specs.Walks.{Rules, All, Early, Segment, front, put_steps, rules_of, shape_behind, walk, whole}
use Rattle.walk_laws.specs.WalkLaws.{EarlyWalkIsPlan, EarlyWalkKeepsMeaning, EarlyWalkKeepsPlan, LaterRulesFollow, IsPlanBy, next_by, rewritten_by}
use Rattle.walk_laws.proofs.LowerPipes.{IsLower, by_lower, rewrite-lower}
use Rattle.walk_laws.proofs.Unsplit.{Unsplit}
use Rattle.walk_laws.proofs.WalkInside.{branches-put, related-put}
use Rattle.walk_laws.proofs.WalkKept.{rest-walked}
use Rattle.walk_laws.proofs.WalkNodes.{chosen-put, idle-put}
use Rattle.walk_laws.proofs.WalkPassing.{PutsSame}
use Rattle.walk_laws.proofs.WalkPlaces.{AlikeSteps, put_anywhere}
use Rattle.walk_laws.proofs.WalkRest.{at-identity, at-split, at-true}
use Rattle.walk_laws.proofs.WalkRules.{aggregate-put, compute-put, count-put, identity-put, order-put, split-put, true-put}
use Rattle.walk_laws.proofs.WalkSteps.{groups-put, join-put, nodes-put, outer_join-put, rollup-put, traverse-put}
use Rattle.walk_laws.proofs.WalkUnbranched.{KeepsUnbranched, aggregate-kept, branches-kept, compute-kept, count-kept, grouping-kept, identity-kept, idle-kept, join-kept, nodes-kept, order-kept, outer_join-kept, related-kept, split-kept, traverse-kept, true-kept}

pub first-of_two : {X : Type 0} (a b : Option X) (x : X) → first_some a b ≡ Some x → (a ≡ Some x) ⊎ ((a ≡ None) × (b ≡ Some x))
first-of_two None b x e = inr (refl, e)
first-of_two (Some y) b x e = inl e

pub none-of_two : {X : Type 0} (a b : Option X) → first_some a b ≡ None → (a ≡ None) × (b ≡ None)
none-of_two None b e = (refl, e)
none-of_two (Some y) b e = none_or y (sym e)

-- where a search finds nothing, no element gives anything
pub found-none : {X Y : Type 0} (f : X → Option Y) (xs : List X) → find_map f xs ≡ None → (x : X) → Contains xs x → f x ≡ None
found-none {X} {Y} f xs e x k = each-contains (λ x. f x ≡ None) xs x (go xs e) k
  where
    go : (xs : List X) → find_map f xs ≡ None → Each (λ x. f x ≡ None) xs
    go [] e = tt
    go (x ∷ xs) e = let t = none-of_two (f x) (find_map f xs) e in (t.0, go xs t.1)

-- what is found among the first is found among all
pub found-front : {X Y : Type 0} (f : X → Option Y) (xs ys : List X) (y : Y) → find_map f xs ≡ Some y → find_map f (xs ++ ys) ≡ Some y
found-front f [] ys y e = none_or y e
found-front {X} {Y} f (x ∷ xs) ys y e = go (f x) e (found-front f xs ys y)
  where
    go : (o : Option Y) → first_some o (find_map f xs) ≡ Some y → (find_map f xs ≡ Some y → find_map f (xs ++ ys) ≡ Some y) → first_some o (find_map f (xs ++ ys)) ≡ Some y
    go None e g = g e
    go (Some z) e g = e

-- the rules of a walk are rules, and what comes next by them comes next
pub rules-within : (w : Rules) (r : Rule) → Contains (rules_of w) r → Contains rules r
rules-within Early r k = Contains-append_left (take 8 rules) (drop 8 rules) r k
rules-within All r k = elim (Contains-append_cases (take 8 rules) (drop 9 rules) r k) [
  | inl x ↦ Contains-append_left (take 8 rules) (drop 8 rules) r x
  | inr x ↦ Contains-append_right (take 9 rules) (drop 9 rules) r x
]

next-within : (m : Model) (c : Customs) (S : Shape) (p q : Pipe) → next_by Early m c S p ≡ Some q → next m c S p ≡ Some q
next-within m c S p q e = found-front (λ r. first_rewrite r m c S p) (take 8 rules) (drop 8 rules) q e

-- ---- what is known of each rule

-- what a rule makes at its place is put as what was there, and has no concatenation where there was none
abbrev IsGood : Bool → Rules → Model → Customs → Rule → Type 0
IsGood needs w m c r = PutsSame needs false w m c r × KeepsUnbranched m c r

-- a rule that asks less
asks-less : (flat : Bool) (w : Rules) (m : Model) (c : Customs) (r : Rule) → PutsSame false flat w m c r → PutsSame true flat w m c r
asks-less flat w m c r P S before s ss ss' gs u e =
    P S before s ss ss' gs (record { customs = u.customs; lawful = u.lawful; last = u.last; typed = u.typed; unsplit = λ n. absurd (true≢false (sym n)); unbranched = u.unbranched }) e

-- the rules behind the first three
abbrev others : Rules → List Rule
others w = drop 3 (rules_of w)

others-good : (w : Rules) (m : Model) (c : Customs) → Each (IsGood true w m c) (others w)
others-good Early m c = (
  (compute-put false Early m c, compute-kept m c),
  (
    (order-put false Early m c, order-kept m c),
    (
      (groups-put false Early m c, grouping-kept m c is_no_rollup),
      (
        (rollup-put false Early m c, grouping-kept m c is_levels),
        ((branches-put false Early m c, branches-kept m c), tt),
      ),
    ),
  ),
)
others-good All m c = (
  (compute-put false All m c, compute-kept m c),
  (
    (order-put false All m c, order-kept m c),
    (
      (groups-put false All m c, grouping-kept m c is_no_rollup),
      (
        (rollup-put false All m c, grouping-kept m c is_levels),
        (
          (branches-put false All m c, branches-kept m c),
          (
            (join-put false m c, join-kept m c),
            (
              (related-put false m c, related-kept m c),
              (
                (outer_join-put false m c, outer_join-kept m c),
                (
                  (aggregate-put false m c, aggregate-kept m c),
                  (
                    (count-put false m c, count-kept m c),
                    (
                      (traverse-put false m c, traverse-kept m c),
                      (
                        (nodes-put false m c, grouping-kept m c is_nodes),
                        (
                          (chosen-put false m c, nodes-kept m c),
                          ((asks-less false All m c drop_idle (idle-put false m c), idle-kept m c), tt),
                        ),
                      ),
                    ),
                  ),
                ),
              ),
            ),
          ),
        ),
      ),
    ),
  ),
)

rules-split : (w : Rules) → rules_of w ≡ drop_identity ∷ split_conjunction ∷ drop_true ∷ others w
rules-split Early = refl
rules-split All = refl

others-within : (w : Rules) (r : Rule) → Contains (others w) r → Contains (rules_of w) r
others-within w r k =
    let C : List Rule → Type 0 = λ l. Contains l r in
    subst C (sym (rules-split w)) (Contains-append_right (drop_identity ∷ split_conjunction ∷ drop_true ∷ []) (others w) r k)

-- ---- one rewrite

module _ (w : Rules) (m : Model) (c : Customs) (S S' : Shape) (p : Pipe) (t : IsTypedFrom m c S S' p) where
  -- what a rule makes at its first place
  abbrev First : Rule → Option Pipe
  First r = first_rewrite r m c S p

  -- a rule with no first result makes nothing at all
  pub nothing : (r : Rule) → Contains rules r → First r ≡ None → pipe_results r m c S false p ≡ []
  nothing r k e = sym (loaded-results r k m c S S' p t) ∙ no-first (rewrites r m c S p) e

  -- another pipeline is put as this one, and leads to the same shape
  abbrev IsAlike : Pipe → Type 0
  IsAlike q = ((gs : List Segment) → put_steps w m c S q gs ≡ put_steps w m c S p gs) × (shape_behind m c S q ≡ shape_behind m c S p)

  made-alike : (needs : Bool) (r : Rule) → Contains rules r → IsGood needs w m c r → (needs ≡ true → Unsplit m c S false p) → (q : Pipe) → First r ≡ Some q → IsAlike q
  made-alike needs r k g n q e =
      let P : Pipe → Type 0 = λ q. IsTrue (false || is_long q) × AlikeSteps w m c needs false S p q in
      let C : List Pipe → Type 0 = λ l. Contains l q in
      let h = each-contains P (pipe_results r m c S false p) q (put_anywhere w m c needs false typing_keeps_lawful r (outcome-in_place r k) g.0 g.1 S S' false p t.customs t.lawful t.typed.1)
      (subst C (loaded-results r k m c S S' p t) (first-contains (rewrites r m c S p) q e)) in
      (h.1.1 false (n, λ f. absurd (true≢false (sym f))), h.1.2)

  by-others : First split_conjunction ≡ None → First drop_true ≡ None → (q : Pipe) → find_map First (others w) ≡ Some q → IsAlike q
  by-others a b q e =
      let x = find_map-from First (others w) q e in
      let k = others-within w x.0 x.1 in
      made-alike true x.0 (rules-within w x.0 k) (each-contains (IsGood true w m c) (others w) x.0 (others-good w m c) x.1)
      (λ n. record { split = nothing split_conjunction (rules-within w split_conjunction (at-split w)) a; true' = nothing drop_true (rules-within w drop_true (at-true w)) b }) q x.2

  none-needed : false ≡ true → Unsplit m c S false p
  none-needed e = absurd (true≢false (sym e))

  by-true : First split_conjunction ≡ None → (q : Pipe) → (First drop_true ≡ Some q) ⊎ ((First drop_true ≡ None) × (find_map First (others w) ≡ Some q)) → IsAlike q
  by-true a q (inl e) = made-alike false drop_true (rules-within w drop_true (at-true w)) (true-put false w m c, true-kept m c) none-needed q e
  by-true a q (inr e) = by-others a e.0 q e.1

  by-split : (q : Pipe) → (First split_conjunction ≡ Some q) ⊎ ((First split_conjunction ≡ None) × (find_map First (drop_true ∷ others w) ≡ Some q)) → IsAlike q
  by-split q (inl e) = made-alike false split_conjunction (rules-within w split_conjunction (at-split w)) (split-put false w m c, split-kept m c) none-needed q e
  by-split q (inr e) = by-true e.0 q (first-of_two (First drop_true) (find_map First (others w)) q e.1)

  by-identity : (q : Pipe) → (First drop_identity ≡ Some q) ⊎ ((First drop_identity ≡ None) × (find_map First (split_conjunction ∷ drop_true ∷ others w) ≡ Some q)) → IsAlike q
  by-identity q (inl e) = made-alike false drop_identity (rules-within w drop_identity (at-identity w)) (identity-put false w m c, identity-kept m c) none-needed q e
  by-identity q (inr e) = by-split q (first-of_two (First split_conjunction) (find_map First (drop_true ∷ others w)) q e.1)

  -- so is what comes next
  pub next-alike : (q : Pipe) → next_by w m c S p ≡ Some q → IsAlike q
  next-alike q e = by-identity q (first-of_two (First drop_identity) (find_map First (split_conjunction ∷ drop_true ∷ others w)) q (sym (ap (find_map First) (rules-split w)) ∙ e))

  -- where nothing comes next the walk leaves the pipeline as it stands
  pub walk-rest : next_by w m c S p ≡ None → walk w m c S p ≡ p
  walk-rest e = rest-walked w m c p S S' t.typed.0 t.typed.1 (λ r k. nothing r (rules-within w r k) (found-none First (rules_of w) e r k))

  -- what comes next is typed, and lower
  pub next-typed : (q : Pipe) → next_by w m c S p ≡ Some q → IsTypedFrom m c S S' q
  next-typed q e =
      let x = find_map-from First (rules_of w) q e in
      record { customs = t.customs; lawful = t.lawful; typed = (loaded-firsts x.0 (rules-within w x.0 x.1) m c S S' p q t x.2).typed }

  pub next-lower : (q : Pipe) → next_by w m c S p ≡ Some q → IsLower q p
  next-lower q e =
      let x = find_map-from First (rules_of w) q e in
      rewrite-lower x.0 (rules-within w x.0 x.1) m c S p q (first-contains (rewrites x.0 m c S p) q x.2)

-- ---- all rewrites

-- a relation that holds of a pipeline and itself where nothing comes next, and of a pipeline where it holds of what does
module _ (w : Rules) (m : Model) (c : Customs) (S S' : Shape) (R : Pipe → Pipe → Type 0) (at_rest : (p : Pipe) → IsTypedFrom m c S S' p → next_by w m c S p ≡ None → R p p)
    (after_next : (p q r : Pipe) → IsTypedFrom m c S S' p → next_by w m c S p ≡ Some q → R q r → R p r) where
  abbrev Walked : Pipe → Type 0
  Walked p = IsTypedFrom m c S S' p → R p (walk w m c S p)

  go : (p : Pipe) → ((q : Pipe) → IsLower q p → Walked q) → IsTypedFrom m c S S' p → (o : Option Pipe) → next_by w m c S p ≡ o → R p (walk w m c S p)
  go p h t None e = subst (R p) (sym (walk-rest w m c S S' p t e)) (at_rest p t e)
  go p h t (Some q) e =
      subst (R p) (ap whole ((next-alike w m c S S' p t q e).0 front)) (after_next p q (walk w m c S q) t e (h q (next-lower w m c S S' p t q e) (next-typed w m c S S' p t q e)))

  pub walked : (p : Pipe) → Walked p
  walked p = by_lower Walked (λ p h t. go p h t (next_by w m c S p) refl) p

-- what the early walk makes is what the early rules make, one after the other
pub early_walk_is_plan : EarlyWalkIsPlan
early_walk_is_plan m c S S' p t =
    walked Early m c S S' (IsPlanBy Early m c S) (λ p t e. ((0, refl), e)) (λ p q r t e h. ((suc h.0.0, ap (option_and_then (rewritten_by h.0.0 Early m c S)) e ∙ h.0.1), h.1)) p t

-- the plan of a pipeline that the early rules lead to is the plan
led-plan : (m : Model) (c : Customs) (S : Shape) (n : ℕ) (p r q : Pipe) → rewritten_by n Early m c S p ≡ Some r → IsPlanOf m c S r q → IsPlanOf m c S p q
led-plan m c S zero p r q e h = let P : Pipe → Type 0 = λ x. IsPlanOf m c S x q in subst P (sym (some_value e)) h
led-plan m c S (suc n) p r q e h =
    let x = chained (rewritten_by n Early m c S) (next_by Early m c S p) r e in
    plan_of_next m c S p x.0 q (next-within m c S p x.0 x.1) (led-plan m c S n x.0 r q x.2 h)

-- so the plan of what the early walk makes is the plan of the pipeline
pub early_walk_keeps_plan : EarlyWalkKeepsPlan
early_walk_keeps_plan m c S S' p q t h = let w = early_walk_is_plan m c S S' p t in led-plan m c S w.0.0 p (walk Early m c S p) q w.0.1 h

-- ---- what the early walk makes may stand for the pipeline

stands-chain : (A : World → Type 0) (m : Model) (c : Customs) (S S' : Shape) (p q r : Pipe) → MayStandFor A m c S S' p q → MayStandFor A m c S S' q r → MayStandFor A m c S S' p r
stands-chain A m c S S' p q r h k = record {
  typed = k.typed;
  names = λ n z. h.names n (k.names n z);
  means = λ w e a l f. k.means w e a l f ∙ h.means w e a l f;
}

stands-same : (A : World → Type 0) (m : Model) (c : Customs) (S S' : Shape) (p : Pipe) → IsTypedFrom m c S S' p → MayStandFor A m c S S' p p
stands-same A m c S S' p t = record { typed = t.typed; names = λ n z. z; means = λ w e a l f. refl }

led-stands : (m : Model) (c : Customs) (S S' : Shape) (n : ℕ) (p r : Pipe) → IsTypedFrom m c S S' p → rewritten_by n Early m c S p ≡ Some r → MayStandFor IsLoaded m c S S' p r
led-stands m c S S' zero p r t e = subst (MayStandFor IsLoaded m c S S' p) (some_value e) (stands-same IsLoaded m c S S' p t)
led-stands m c S S' (suc n) p r t e =
    let x = chained (rewritten_by n Early m c S) (next_by Early m c S p) r e in
    let y = find_map-from (λ r. first_rewrite r m c S p) (rules_of Early) x.0 x.1 in
    let h = loaded-firsts y.0 (rules-within Early y.0 y.1) m c S S' p x.0 t y.2 in
    stands-chain IsLoaded m c S S' p x.0 r h (led-stands m c S S' n x.0 r (record { customs = t.customs; lawful = t.lawful; typed = h.typed }) x.2)

pub early_walk_keeps_meaning : EarlyWalkKeepsMeaning IsLoaded
early_walk_keeps_meaning m c S S' p t = let w = early_walk_is_plan m c S S' p t in led-stands m c S S' w.0.0 p (walk Early m c S p) t w.0.1

-- ---- the rules that follow

-- where nothing is found among the first, the search goes on behind them
pub found-behind : {X Y : Type 0} (f : X → Option Y) (xs ys : List X) → find_map f xs ≡ None → find_map f (xs ++ ys) ≡ find_map f ys
found-behind f [] ys e = refl
found-behind f (x ∷ xs) ys e = let t = none-of_two (f x) (find_map f xs) e in ap (λ o. first_some o (find_map f (xs ++ ys))) t.0 ∙ found-behind f xs ys t.1

pub later_rules_follow : LaterRulesFollow
later_rules_follow m c S S' p t = found-behind (λ r. first_rewrite r m c S (walk Early m c S p)) (take 8 rules) (drop 8 rules) (early_walk_is_plan m c S S' p t).1
