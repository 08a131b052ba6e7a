-- Rewrites lower a pipeline, and what holds of a pipeline where it holds of all that are lower holds of every one.
use Rattle.std.proofs.Common.{◌≡◌, sym, subst, ℕ, zero, suc, ◌≤◌, ◌<◌, ◌⊎◌, Contains, inl, inr, arith}
use Rattle.edm_model.specs.Models.{Model}
use Rattle.apply_ast.specs.Trees.{Pipe}
use Rattle.context_typing.specs.Shapes.{Shape}
use Rattle.context_typing.specs.Typing.{Customs}
use Rattle.rewrite_laws.specs.Measures.{weight, acting_count, identity_count, IsSmaller}
use Rattle.rewrite_laws.specs.Rewrites.{IsRewrite, Rule, rules}
use Rattle.rewrite_laws.proofs.RewritesSmaller.{rewrites_are_smaller}

-- a pipeline is lower than another: of its weight at 1, its steps that act and its identities, the first number that differs is lower
abbrev pub IsLower : Pipe → Pipe → Type 0
IsLower q p =
    (weight q 1 < weight p 1) ⊎ ((weight q 1 ≤ weight p 1) × (acting_count q < acting_count p))
    ⊎ ((weight q 1 ≤ weight p 1) × (acting_count q ≤ acting_count p) × (identity_count q < identity_count p))

lower-at_one : (q p : Pipe) → IsSmaller q p → IsLower q p
lower-at_one q p (inl less) = inl (less 1 (omega arith))
lower-at_one q p (inr (inl t)) = inr (inl (t.0 1 (omega arith), t.1))
lower-at_one q p (inr (inr t)) = inr (inr (t.0 1 (omega arith), t.1, t.2))

pub rewrite-lower : (r : Rule) → Contains rules r → (m : Model) (c : Customs) (S : Shape) (p q : Pipe) → IsRewrite r m c S p q → IsLower q p
rewrite-lower r k m c S p q h = lower-at_one q p (rewrites_are_smaller r k m c S p q h)

pub lower-chain : (r q p : Pipe) → IsLower r q → IsLower q p → IsLower r p
lower-chain r q p (inl a) (inl b) = inl (omega (arith, a, b))
lower-chain r q p (inl a) (inr (inl b)) = let x = b.0 in inl (omega (arith, a, x))
lower-chain r q p (inl a) (inr (inr b)) = let x = b.0 in inl (omega (arith, a, x))
lower-chain r q p (inr (inl a)) (inl b) = let x = a.0 in inl (omega (arith, x, b))
lower-chain r q p (inr (inl a)) (inr (inl b)) = let x = a.0 in let y = a.1 in let z = b.0 in let v = b.1 in inr (inl (omega (arith, x, z), omega (arith, y, v)))
lower-chain r q p (inr (inl a)) (inr (inr b)) = let x = a.0 in let y = a.1 in let z = b.0 in let v = b.1 in inr (inl (omega (arith, x, z), omega (arith, y, v)))
lower-chain r q p (inr (inr a)) (inl b) = let x = a.0 in inl (omega (arith, x, b))
lower-chain r q p (inr (inr a)) (inr (inl b)) = let x = a.0 in let y = a.1 in let z = b.0 in let v = b.1 in inr (inl (omega (arith, x, z), omega (arith, y, v)))
lower-chain r q p (inr (inr a)) (inr (inr b)) =
    let x = a.0 in let y = a.1 in let k = a.2 in let z = b.0 in let v = b.1 in let l = b.2 in
    inr (inr (omega (arith, x, z), omega (arith, y, v), omega (arith, k, l)))

-- no pipeline is lower than itself
pub never-lower : (p : Pipe) → IsLower p p → ⊥
never-lower p (inl a) = omega (arith, a)
never-lower p (inr (inl t)) = let x = t.1 in omega (arith, x)
never-lower p (inr (inr t)) = let x = t.2 in omega (arith, x)

-- the same pipeline or a lower one
abbrev pub IsLowest : Pipe → Pipe → Type 0
IsLowest q p = (q ≡ p) ⊎ IsLower q p

pub lowest-chain : (r q p : Pipe) → IsLowest r q → IsLower q p → IsLower r p
lowest-chain r q p (inl e) k = subst (λ z. IsLower z p) (sym e) k
lowest-chain r q p (inr h) k = lower-chain r q p h k

pub lower-lowest : (r q p : Pipe) → IsLower r q → IsLowest q p → IsLower r p
lower-lowest r q p h (inl e) = subst (IsLower r) e h
lower-lowest r q p h (inr k) = lower-chain r q p h k

module _ (P : Pipe → Type 0) (step : (p : Pipe) → ((q : Pipe) → IsLower q p → P q) → P p) where
  abbrev Below : ℕ → ℕ → ℕ → Type 0
  Below a b d = (p : Pipe) → weight p 1 < a → acting_count p < b → identity_count p < d → P p

  by-identities : (a b d : ℕ) → ((b' d' : ℕ) → Below a b' d') → ((d' : ℕ) → Below (suc a) b d') → Below (suc a) (suc b) d
  by-identities a b zero f g p x y z = absurd (omega (arith, z))
  by-identities a b (suc d) f g p x y z = step p (λ q s. go q s (by-identities a b d f g))
    where
      go : (q : Pipe) → IsLower q p → Below (suc a) (suc b) d → P q
      go q (inl l) r = f (suc (acting_count q)) (suc (identity_count q)) q (omega (arith, l, x)) (omega arith) (omega arith)
      go q (inr (inl t)) r = let l = t.0 in let k = t.1 in g (suc (identity_count q)) q (omega (arith, l, x)) (omega (arith, k, y)) (omega arith)
      go q (inr (inr t)) r = let l = t.0 in let k = t.1 in let i = t.2 in r q (omega (arith, l, x)) (omega (arith, k, y)) (omega (arith, i, z))

  by-acting : (a b d : ℕ) → ((b' d' : ℕ) → Below a b' d') → Below (suc a) b d
  by-acting a zero d f p x y z = absurd (omega (arith, y))
  by-acting a (suc b) d f p x y z = by-identities a b d f (λ d'. by-acting a b d' f) p x y z

  by-weight : (a b d : ℕ) → Below a b d
  by-weight zero b d p x y z = absurd (omega (arith, x))
  by-weight (suc a) b d p x y z = by-acting a b d (by-weight a) p x y z

  -- what holds of a pipeline where it holds of all that are lower, holds of every pipeline
  pub by_lower : (p : Pipe) → P p
  by_lower p = by-weight (suc (weight p 1)) (suc (acting_count p)) (suc (identity_count p)) p (omega arith) (omega arith) (omega arith)
