-- A pipeline has at most one plan, and no rule applies to it.
use Rattle.std.proofs.Common.{◌≡◌, refl, sym, ◌∙◌, ap, ℕ, zero, suc, List, [], ◌∷◌, Option, Some, None}
use Rattle.std.specs.Prelude.{unwrap_or, option_and_then, slice_get}
use Rattle.edm_values.specs.Lists.{find_map, first_some}
use Rattle.edm_values.proofs.EachLemmas.{Each, each-contains}
use Rattle.edm_model.specs.Models.{Model}
use Rattle.apply_ast.specs.Trees.{Pipe}
use Rattle.context_typing.specs.Typing.{Customs}
use Rattle.context_typing.specs.Shapes.{Shape}
use Rattle.rewrite_laws.specs.Rewrites.{rules, rewrites, first_rewrite, next, rewritten, IsSettled}
use Rattle.rewrite_laws.specs.RewriteLaws.{PlanIsSettled, PlanIsUnique}

-- a search that finds nothing passed none
none-here : {X Y : Type 0} (f : X → Option Y) (x : X) (xs : List X) (o : Option Y) → f x ≡ o → first_some o (find_map f xs) ≡ None → (find_map f xs ≡ None → Each (λ x. f x ≡ None) xs) → (f x ≡ None) × Each (λ x. f x ≡ None) xs
none-here f x xs None k h more = (k, more h)
none-here f x xs (Some y) k h more = cc

none-found : {X Y : Type 0} (f : X → Option Y) (xs : List X) → find_map f xs ≡ None → Each (λ x. f x ≡ None) xs
none-found f [] e = tt
none-found f (x ∷ xs) e = none-here f x xs (f x) refl e (none-found f xs)

-- a list without a first element is empty
pub no-first : {X : Type 0} (xs : List X) → slice_get xs 0 ≡ None → xs ≡ []
no-first [] e = refl
no-first (x ∷ xs) e = cc

pub plan_is_settled : PlanIsSettled
plan_is_settled m c S p q h r k = no-first (rewrites r m c S q) (each-contains (λ r. first_rewrite r m c S q ≡ None) rules r (none-found (λ r. first_rewrite r m c S q) rules h.1) k)

-- rewriting has one end
ends_once : (m : Model) (c : Customs) (S : Shape) (n n' : ℕ) (p q q' : Pipe) → rewritten n m c S p ≡ Some q → IsSettled m c S q → rewritten n' m c S p ≡ Some q' → IsSettled m c S q' → q ≡ q'
ends_once m c S zero zero p q q' h e h' e' = sym (ap (λ o. unwrap_or o p) h) ∙ ap (λ o. unwrap_or o p) h'
ends_once m c S zero (suc n') p q q' h e h' e' = go (next m c S p) (ap (λ o. next m c S (unwrap_or o p)) h ∙ e) h'
  where
    go : (o : Option Pipe) → o ≡ None → option_and_then (rewritten n' m c S) o ≡ Some q' → q ≡ q'
    go None i k = cc
    go (Some r) i k = cc
ends_once m c S (suc n) zero p q q' h e h' e' = go (next m c S p) (ap (λ o. next m c S (unwrap_or o p)) h' ∙ e') h
  where
    go : (o : Option Pipe) → o ≡ None → option_and_then (rewritten n m c S) o ≡ Some q → q ≡ q'
    go None i k = cc
    go (Some r) i k = cc
ends_once m c S (suc n) (suc n') p q q' h e h' e' = go (λ r. ends_once m c S n n' r q q') (next m c S p) h h'
  where
    go : ((r : Pipe) → rewritten n m c S r ≡ Some q → IsSettled m c S q → rewritten n' m c S r ≡ Some q' → IsSettled m c S q' → q ≡ q')
        → (o : Option Pipe) → option_and_then (rewritten n m c S) o ≡ Some q → option_and_then (rewritten n' m c S) o ≡ Some q' → q ≡ q'
    go f None i k = cc
    go f (Some r) i k = f r i e k e'

pub plan_is_unique : PlanIsUnique
plan_is_unique m c S p q q' h h' = ends_once m c S (h.0).0 (h'.0).0 p q q' (h.0).1 h.1 (h'.0).1 h'.1
