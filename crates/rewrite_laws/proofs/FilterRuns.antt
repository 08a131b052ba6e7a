-- Runs of filters, what a search among them finds, chains of options, and the places of a rule.
use Rattle.std.proofs.Common.{◌≡◌, refl, ap, subst, Bool, true, List, [], ◌∷◌, ◌++◌, Option, Some, None, map, find, inl, inr, ◌⊎◌, false}
use Rattle.std.specs.Prelude.{option_and_then, option_to_list}
use Rattle.edm_values.proofs.EachLemmas.{Each, each-map}
use Rattle.edm_values.proofs.OptionFacts.{none_or}
use Rattle.edm_values.proofs.SearchFacts.{chosen}
use Rattle.apply_ast.specs.Trees.{Pipe, Step, pipe}
use Rattle.rewrite_laws.specs.Rewrites.{FilterRun, longer, runs}

-- a run is what the steps begin with
abbrev pub IsRunOf : List Step → FilterRun → Type 0
IsRunOf ss r = ss ≡ map Step.Filter r.between ++ Step.Filter r.last ∷ r.rest

pub runs-each : (ss : List Step) → Each (IsRunOf ss) (runs ss)
runs-each [] = tt
runs-each (Step.Filter b ∷ ss) = (refl, each-map (IsRunOf (Step.Filter b ∷ ss)) (IsRunOf ss) (longer b) (λ r h. ap (λ z. Step.Filter b ∷ z) h) (runs ss) (runs-each ss))
runs-each (_ ∷ ss) = tt

-- what is found among elements of which each has a property
pub found-each : {X : Type 0} (P : X → Type 0) (t : X → Bool) (xs : List X) (x : X) → Each P xs → find t xs ≡ Some x → P x
found-each P t [] x a e = none_or x e
found-each {X} P t (y ∷ ys) x a e = go (chosen (t y) y x (find t ys) e) (found-each P t ys x a.1)
  where
    go : ((t y ≡ true) × (y ≡ x)) ⊎ ((t y ≡ false) × (find t ys ≡ Some x)) → (find t ys ≡ Some x → P x) → P x
    go (inl h) f = subst P h.1 a.0
    go (inr h) f = f h.1

-- two chains agree where they agree on what begins them
pub chains_agree : {X Y : Type 0} (f g : X → Option Y) (o : Option X) → ((x : X) → o ≡ Some x → f x ≡ g x) → option_and_then f o ≡ option_and_then g o
chains_agree f g None h = refl
chains_agree f g (Some x) h = h x refl

-- the pipeline that a rule makes at its place, if it does
pub each-place : (P : Pipe → Type 0) (o : Option (List Step)) → ((ss : List Step) → o ≡ Some ss → P (pipe ss)) → Each P (map pipe (option_to_list o))
each-place P None h = tt
each-place P (Some ss) h = (h ss refl, tt)
