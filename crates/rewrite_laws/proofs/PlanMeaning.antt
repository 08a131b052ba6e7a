-- The plan of a typed pipeline may stand for it where what each rule makes does.
use Rattle.std.proofs.Common.{◌≡◌, refl, ◌∙◌, ap, subst, ℕ, zero, suc, List, [], ◌∷◌, Option, Some, None, IsTrue, Contains, arith}
use Rattle.std.specs.Prelude.{option_and_then, slice_get, unwrap_or}
use Rattle.std.proofs.lemmas.List.Elements.{Contains-append_right}
use Rattle.edm_data.specs.Worlds.{World}
use Rattle.apply_ast.specs.Trees.{Pipe, is_long}
use Rattle.edm_values.specs.Lists.{find_map, first_some}
use Rattle.context_typing.specs.Typing.{Customs, Types, is_lawful, customs_typed}
use Rattle.context_typing.specs.Shapes.{Shape}
use Rattle.rewrite_laws.specs.Rewrites.{Rule, rules, rewrites, first_rewrite, next, rewritten, IsRewrite, IsPlanOf}
use Rattle.rewrite_laws.specs.RewriteLaws.{SameMeaning}
use Rattle.edm_values.proofs.EachLemmas.{none_is_not_some}
use Rattle.rewrite_laws.proofs.WorldForms.{KeepsMeaningInWorlds}

-- what one rewrite keeps and another keeps, both keep
same_again : (A : World → Type 0) (w : World) (c : Customs) (S : Shape) (p q r : Pipe) → SameMeaning A w c S p q → SameMeaning A w c S q r → SameMeaning A w c S p r
same_again A w c S p q r h k =
    (λ n x. h.0 n (k.0 n x), k.1 ∙ h.1, λ a l f. k.2 a l f ∙ h.2 a l f)

same_self : (A : World → Type 0) (w : World) (c : Customs) (S : Shape) (p : Pipe) → SameMeaning A w c S p p
same_self A w c S p = (λ n x. x, refl, λ a l f. refl)

-- the first element is one
pub first-contains : {X : Type 0} (xs : List X) (x : X) → slice_get xs 0 ≡ Some x → Contains xs x
first-contains [] x e = absurd (none_is_not_some x e)
first-contains (y ∷ ys) x e = (0, omega arith, ap (λ o. unwrap_or o x) e)

-- the answer of a search comes from an element
found-in : {X Y : Type 0} (f : X → Option Y) (x : X) (xs : List X) (y : Y) (o : Option Y) → f x ≡ o → first_some o (find_map f xs) ≡ Some y
    → (find_map f xs ≡ Some y → (z : X) × Contains xs z × (f z ≡ Some y)) → (z : X) × Contains (x ∷ xs) z × (f z ≡ Some y)
found-in f x xs y None k h g = let t = g h in (t.0, Contains-append_right (x ∷ []) xs t.0 t.1, t.2)
found-in f x xs y (Some z) k h g = (x, (0, omega arith, refl), k ∙ h)

pub find_map-from : {X Y : Type 0} (f : X → Option Y) (xs : List X) (y : Y) → find_map f xs ≡ Some y → (x : X) × Contains xs x × (f x ≡ Some y)
find_map-from f [] y e = absurd (none_is_not_some y e)
find_map-from f (x ∷ xs) y e = found-in f x xs y (f x) refl e (find_map-from f xs y)

module _ (A : World → Type 0) (R : (r : Rule) → Contains rules r → KeepsMeaningInWorlds A (IsRewrite r)) (w : World) (c : Customs) (S S' : Shape) (k : IsTrue (customs_typed w.model c)) (law : IsTrue (is_lawful w.model S)) where
  -- one rewrite
  next-keeps_meaning : (p q : Pipe) → Types w.model c S p S' → next w.model c S p ≡ Some q → IsTrue (is_long q) × SameMeaning A w c S p q
  next-keeps_meaning p q t e =
      let x = find_map-from (λ r. first_rewrite r w.model c S p) rules q e in
      R x.0 x.1 w c S S' p q k law t (first-contains (rewrites x.0 w.model c S p) q x.2)

  -- a chain of rewrites
  chain-keeps_meaning : (n : ℕ) (p q : Pipe) → Types w.model c S p S' → rewritten n w.model c S p ≡ Some q → IsTrue (is_long q) × SameMeaning A w c S p q
  chain-keeps_meaning zero p q t e =
      let P : Pipe → Type 0 = λ x. IsTrue (is_long x) × SameMeaning A w c S p x in
      subst P (ap (λ o. unwrap_or o p) e) (t.0, same_self A w c S p)
  chain-keeps_meaning (suc n) p q t e = go (λ r u h. chain-keeps_meaning n r q u h) (next w.model c S p) refl e
    where
      go : ((r : Pipe) → Types w.model c S r S' → rewritten n w.model c S r ≡ Some q → IsTrue (is_long q) × SameMeaning A w c S r q)
          → (o : Option Pipe) → next w.model c S p ≡ o → option_and_then (rewritten n w.model c S) o ≡ Some q → IsTrue (is_long q) × SameMeaning A w c S p q
      go f None i h = absurd (none_is_not_some q h)
      go f (Some r) i h =
          let one = next-keeps_meaning p r t i in
          let more = f r (one.0, one.1.1 ∙ t.1) h in
          (more.0, same_again A w c S p r q one.1 more.1)

pub plan_law : (A : World → Type 0) → ((r : Rule) → Contains rules r → KeepsMeaningInWorlds A (IsRewrite r)) → KeepsMeaningInWorlds A IsPlanOf
plan_law A R w c S S' p q k law t h = chain-keeps_meaning A R w c S S' k law (h.0).0 p q t (h.0).1
