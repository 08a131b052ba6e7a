-- Where filters rest, the rewrites by the ninth rule, one after the other, make what comes out of all branches at once.
use Rattle.std.proofs.Common.{◌≡◌, refl, sym, ◌∙◌, ap, subst, ℕ, zero, suc, true, false, List, [], ◌∷◌, drop, take, Option, Some, None, Contains, arith}
use Rattle.std.specs.Prelude.{option_and_then, slice_get}
use Rattle.std.proofs.lemmas.List.Elements.{Contains-append_left, Contains-append_right}
use Rattle.edm_values.specs.Lists.{find_map, first_some}
use Rattle.edm_values.proofs.EachLemmas.{each-contains}
use Rattle.edm_model.specs.Models.{Model}
use Rattle.apply_ast.specs.Trees.{Pipe}
use Rattle.context_typing.specs.Shapes.{Shape}
use Rattle.context_typing.specs.Typing.{Customs}
use Rattle.rewrite_laws.specs.RewriteLaws.{IsTypedFrom}
use Rattle.rewrite_laws.specs.Rewrites.{Rule, factor_branches, first_rewrite, next, pipe_results, rewrites, rewritten, rules}
use Rattle.rewrite_laws.proofs.OneMeaning.{loaded-firsts, loaded-results}
use Rattle.rewrite_laws.proofs.PlanEnds.{rewrites_left, rewrites_left-next}
use Rattle.rewrite_laws.proofs.PlanLaws.{no-first}
use Rattle.rewrite_laws.proofs.PlanMeaning.{first-contains}
use Rattle.walk_laws.specs.Factored.{factored, pipe_rests}
use Rattle.walk_laws.specs.WalkLaws.{FactoringIsRewriting, IsFactored}
use Rattle.walk_laws.proofs.FactoredSame.{factored-made, factored-rest}
use Rattle.walk_laws.proofs.FilterRest.{nothing-first}
use Rattle.walk_laws.proofs.WalkPlan.{found-behind}

module _ (m : Model) (c : Customs) (S S' : Shape) where
  abbrev First : Pipe → Rule → Option Pipe
  First p r = first_rewrite r m c S p

  at-factor : Contains rules factor_branches
  at-factor = (8, omega arith, refl)

  within-first : (r : Rule) → Contains (take 8 rules) r → Contains rules r
  within-first r k = Contains-append_left (take 8 rules) (drop 8 rules) r k

  -- none of the first eight rules applies where filters rest
  first-none : (p : Pipe) → IsTypedFrom m c S S' p → pipe_rests p ≡ true → find_map (First p) (take 8 rules) ≡ None
  first-none p t h = nowhere (take 8 rules) (λ r k. ap (λ l. slice_get l 0) (loaded-results r (within-first r k) m c S S' p t ∙ nothing-first m c p S h r k))
    where
      nowhere : (rs : List Rule) → ((r : Rule) → Contains rs r → First p r ≡ None) → find_map (First p) rs ≡ None
      nowhere [] f = refl
      nowhere (r ∷ rs) f = ap (λ o. first_some o (find_map (First p) rs)) (f r (0, omega arith, refl)) ∙ nowhere rs (λ r' k. f r' (Contains-append_right (r ∷ []) rs r' k))

  -- so what comes next is by a later rule
  next-later : (p : Pipe) → IsTypedFrom m c S S' p → pipe_rests p ≡ true → next m c S p ≡ find_map (First p) (drop 8 rules)
  next-later p t h = found-behind (First p) (take 8 rules) (drop 8 rules) (first-none p t h)

  abbrev Goal : Pipe → Pipe → Type 0
  Goal p q = IsFactored m c S S' p q

  at-rest : (p : Pipe) → IsTypedFrom m c S S' p → pipe_rests p ≡ true → First p factor_branches ≡ None → Goal p (factored p)
  at-rest p t h none =
      let same = factored-rest m c p S t.typed.0 h (sym (loaded-results factor_branches at-factor m c S S' p t) ∙ no-first (rewrites factor_branches m c S p) none) in
      subst (Goal p) (sym same) (record { reached = (0, refl); typed = t; later = next-later p t h })

  -- one rewrite
  module _ (p q : Pipe) (t : IsTypedFrom m c S S' p) (h : pipe_rests p ≡ true) (e : First p factor_branches ≡ Some q) where
    next-factor : next m c S p ≡ Some q
    next-factor = next-later p t h ∙ ap (λ o. first_some o (find_map (First p) (drop 9 rules))) e

    typed-next : IsTypedFrom m c S S' q
    typed-next = record { customs = t.customs; lawful = t.lawful; typed = (loaded-firsts factor_branches at-factor m c S S' p q t e).typed }

    made-next : (pipe_rests q ≡ true) × (factored q ≡ factored p)
    made-next =
        let P : Pipe → Type 0 = λ q. (pipe_rests q ≡ true) × (factored q ≡ factored p) in
        let C : List Pipe → Type 0 = λ l. Contains l q in
        each-contains P (pipe_results factor_branches m c S false p) q (factored-made m c p S h) (subst C (loaded-results factor_branches at-factor m c S S' p t) (first-contains (rewrites factor_branches m c S p) q e))

    one-more : Goal q (factored q) → Goal p (factored p)
    one-more g = subst (Goal p) made-next.1 (record { reached = (suc g.reached.0, ap (option_and_then (rewritten g.reached.0 m c S)) next-factor ∙ g.reached.1); typed = g.typed; later = g.later })

  abbrev Holds : Pipe → Type 0
  Holds p = IsTypedFrom m c S S' p → pipe_rests p ≡ true → Goal p (factored p)

  at-last : (p : Pipe) (o : Option Pipe) → First p factor_branches ≡ o → rewrites_left m c S p ≡ 0 → Holds p
  at-last p None e l t h = at-rest p t h e
  at-last p (Some q) e l t h = let k = rewrites_left-next m c S p q (next-factor p q t h e) in absurd (omega (arith, k, l))

  before-last : (n : ℕ) → ((q : Pipe) → rewrites_left m c S q ≡ n → Holds q) → (p : Pipe) (o : Option Pipe) → First p factor_branches ≡ o → rewrites_left m c S p ≡ suc n → Holds p
  before-last n f p None e l t h = at-rest p t h e
  before-last n f p (Some q) e l t h =
      let k = rewrites_left-next m c S p q (next-factor p q t h e) in
      one-more p q t h e (f q (omega (arith, k, l)) (typed-next p q t h e) (made-next p q t h e).0)

  by-left : (n : ℕ) (p : Pipe) → rewrites_left m c S p ≡ n → Holds p
  by-left zero p l = at-last p (First p factor_branches) refl l
  by-left (suc n) p l = before-last n (by-left n) p (First p factor_branches) refl l

pub factoring_is_rewriting : FactoringIsRewriting
factoring_is_rewriting m c S S' p t h = by-left m c S S' (rewrites_left m c S p) p refl t h
