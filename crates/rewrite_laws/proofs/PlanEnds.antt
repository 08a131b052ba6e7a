-- Rewriting ends: every pipeline has a plan, and a number of rewrites that are left.
use Rattle.std.proofs.Common.{◌≡◌, refl, ◌∙◌, ap, ℕ, zero, suc, ◌≤◌, ◌<◌, ◌⊎◌, Option, Some, None, Contains, inl, inr, arith}
use Rattle.std.specs.Prelude.{option_and_then, unwrap_or}
use Rattle.edm_model.specs.Models.{Model}
use Rattle.apply_ast.specs.Trees.{Pipe}
use Rattle.context_typing.specs.Shapes.{Shape}
use Rattle.context_typing.specs.Typing.{Customs}
use Rattle.rewrite_laws.specs.Measures.{weight, acting_count, identity_count, IsSmaller}
use Rattle.rewrite_laws.specs.Rewrites.{Rule, rules, rewrites, first_rewrite, next, rewritten, IsPlanOf, IsRewrite, IsSettled}
use Rattle.rewrite_laws.specs.RewriteLaws.{PlanExists, Ends, RewritingEnds, RewritesAreCounted}
use Rattle.rewrite_laws.proofs.PlanMeaning.{first-contains, find_map-from}
use Rattle.rewrite_laws.proofs.RewritesSmaller.{rewrites_are_smaller}

-- ---- induction on the measure: by the weight at 1, then by the steps that act, then by the identities

-- a pipeline is lower than another: of its weight at 1, its steps that act and its identities, the first number that differs is lower
abbrev IsLower : Pipe → Pipe → Type 0
IsLower q p =
    (weight q 1 < weight p 1) ⊎ ((weight q 1 ≤ weight p 1) × (acting_count q < acting_count p))
    ⊎ ((weight q 1 ≤ weight p 1) × (acting_count q ≤ acting_count p) × (identity_count q < identity_count p))

-- each rewrite lowers three numbers, of which the first that differs counts
abbrev RewritesAreLower : Type 0
RewritesAreLower = (r : Rule) → Contains rules r → (m : Model) (c : Customs) (S : Shape) (p q : Pipe) → IsRewrite r m c S p q → IsLower q p

-- what is smaller is lower at 1
lower_at_one : (q p : Pipe) → IsSmaller q p → IsLower q p
lower_at_one q p (inl less) = inl (less 1 (omega arith))
lower_at_one q p (inr (inl t)) = inr (inl (t.0 1 (omega arith), t.1))
lower_at_one q p (inr (inr t)) = inr (inr (t.0 1 (omega arith), t.1, t.2))

rewrites_are_lower : RewritesAreLower
rewrites_are_lower r k m c S p q h = lower_at_one q p (rewrites_are_smaller r k m c S p q h)

module _ (P : Pipe → Type 0) (step : (p : Pipe) → ((q : Pipe) → IsLower q p → P q) → P p) where
  abbrev Below : ℕ → ℕ → ℕ → Type 0
  Below a b d = (p : Pipe) → weight p 1 < a → acting_count p < b → identity_count p < d → P p

  by-identities : (a b d : ℕ) → ((b' d' : ℕ) → Below a b' d') → ((d' : ℕ) → Below (suc a) b d') → Below (suc a) (suc b) d
  by-identities a b zero f g p x y z = absurd (omega (arith, z))
  by-identities a b (suc d) f g p x y z = step p (λ q s. go q s (by-identities a b d f g))
    where
      go : (q : Pipe) → IsLower q p → Below (suc a) (suc b) d → P q
      go q (inl l) r = f (suc (acting_count q)) (suc (identity_count q)) q (omega (arith, l, x)) (omega arith) (omega arith)
      go q (inr (inl t)) r = let l = t.0 in let k = t.1 in g (suc (identity_count q)) q (omega (arith, l, x)) (omega (arith, k, y)) (omega arith)
      go q (inr (inr t)) r = let l = t.0 in let k = t.1 in let i = t.2 in r q (omega (arith, l, x)) (omega (arith, k, y)) (omega (arith, i, z))

  by-acting : (a b d : ℕ) → ((b' d' : ℕ) → Below a b' d') → Below (suc a) b d
  by-acting a zero d f p x y z = absurd (omega (arith, y))
  by-acting a (suc b) d f p x y z = by-identities a b d f (λ d'. by-acting a b d' f) p x y z

  by-weight : (a b d : ℕ) → Below a b d
  by-weight zero b d p x y z = absurd (omega (arith, x))
  by-weight (suc a) b d p x y z = by-acting a b d (by-weight a) p x y z

  -- what holds of a pipeline where it holds of all that are lower, holds of every pipeline
  by_measure : (p : Pipe) → P p
  by_measure p = by-weight (suc (weight p 1)) (suc (acting_count p)) (suc (identity_count p)) p (omega arith) (omega arith) (omega arith)

-- ---- rewriting ends

pub rewriting_ends : RewritingEnds
rewriting_ends m c S = by_measure (Ends m c S) (λ p h. Ends.ends p (λ r q k x. h q (rewrites_are_lower r k m c S p q x)))

-- what comes next is lower
next_lower : (m : Model) (c : Customs) (S : Shape) (p q : Pipe) → next m c S p ≡ Some q → IsLower q p
next_lower m c S p q e =
    let x = find_map-from (λ r. first_rewrite r m c S p) rules q e in
    rewrites_are_lower x.0 x.1 m c S p q (first-contains (rewrites x.0 m c S p) q x.2)

-- ---- plans

-- a settled pipeline is its own plan
pub plan_of_settled : (m : Model) (c : Customs) (S : Shape) (p : Pipe) → next m c S p ≡ None → IsPlanOf m c S p p
plan_of_settled m c S p e = ((0, refl), e)

-- the plan of what comes next is the plan
pub plan_of_next : (m : Model) (c : Customs) (S : Shape) (p q r : Pipe) → next m c S p ≡ Some q → IsPlanOf m c S q r → IsPlanOf m c S p r
plan_of_next m c S p q r e h = ((suc (h.0).0, ap (option_and_then (rewritten (h.0).0 m c S)) e ∙ (h.0).1), h.1)

pub plan_exists : PlanExists
plan_exists m c S = by_measure (λ p. (q : Pipe) × IsPlanOf m c S p q) (λ p h. go p h (next m c S p) refl)
  where
    go : (p : Pipe) → ((q : Pipe) → IsLower q p → (r : Pipe) × IsPlanOf m c S q r) → (o : Option Pipe) → next m c S p ≡ o → (r : Pipe) × IsPlanOf m c S p r
    go p h None e = (p, plan_of_settled m c S p e)
    go p h (Some q) e = let t = h q (next_lower m c S p q e) in (t.0, plan_of_next m c S p q t.0 e t.1)

-- ---- the number of rewrites that are left, for loops

pub rewrites_left : Model → Customs → Shape → Pipe → ℕ
rewrites_left m c S p = (((plan_exists m c S p).1).0).0

-- rewriting ends after one number of rewrites
one_number : (m : Model) (c : Customs) (S : Shape) (n k : ℕ) (p q r : Pipe) → rewritten n m c S p ≡ Some q → IsSettled m c S q → rewritten k m c S p ≡ Some r → IsSettled m c S r → n ≡ k
one_number m c S zero zero p q r h e h' e' = refl
one_number m c S zero (suc k) p q r h e h' e' = go (next m c S p) (ap (λ o. next m c S (unwrap_or o p)) h ∙ e) h'
  where
    go : (o : Option Pipe) → o ≡ None → option_and_then (rewritten k m c S) o ≡ Some r → zero ≡ suc k
    go None i x = cc
    go (Some z) i x = cc
one_number m c S (suc n) zero p q r h e h' e' = go (next m c S p) (ap (λ o. next m c S (unwrap_or o p)) h' ∙ e') h
  where
    go : (o : Option Pipe) → o ≡ None → option_and_then (rewritten n m c S) o ≡ Some q → suc n ≡ zero
    go None i x = cc
    go (Some z) i x = cc
one_number m c S (suc n) (suc k) p q r h e h' e' = go (λ z. one_number m c S n k z q r) (next m c S p) h h'
  where
    go : ((z : Pipe) → rewritten n m c S z ≡ Some q → IsSettled m c S q → rewritten k m c S z ≡ Some r → IsSettled m c S r → n ≡ k)
        → (o : Option Pipe) → option_and_then (rewritten n m c S) o ≡ Some q → option_and_then (rewritten k m c S) o ≡ Some r → suc n ≡ suc k
    go f None i x = cc
    go f (Some z) i x = ap suc (f z i e x e')

-- each rewrite leaves one less
pub rewrites_left-next : (m : Model) (c : Customs) (S : Shape) (p q : Pipe) → next m c S p ≡ Some q → rewrites_left m c S p ≡ suc (rewrites_left m c S q)
unfolding rewrites_left
rewrites_left-next m c S p q e =
    let h = (plan_exists m c S p).1 in
    let k = (plan_exists m c S q).1 in
    one_number m c S (h.0).0 (suc (k.0).0) p (plan_exists m c S p).0 (plan_exists m c S q).0 (h.0).1 h.1 (ap (option_and_then (rewritten (k.0).0 m c S)) e ∙ (k.0).1) k.1

pub rewrites_are_counted : RewritesAreCounted
rewrites_are_counted m c S = (rewrites_left m c S, rewrites_left-next m c S)
