-- The shape behind steps that have a typing, one after another.
use Rattle.std.proofs.Common.{◌≡◌, refl, sym, ◌∙◌, ap, ℕ, ◌+◌, ◌<◌, ◌≤◌, Bool, List, [], ◌∷◌, Option, Some, None, drop, get_or, length, map, take}
use Rattle.std.specs.Prelude.{option_and_then}
use Rattle.std.proofs.lemmas.List.{take_all}
use Rattle.edm_model.specs.Models.{Model}
use Rattle.apply_ast.specs.Trees.{Step, pipe}
use Rattle.context_typing.specs.Outcomes.{outcome, step_outcome}
use Rattle.context_typing.specs.Shapes.{Shape}
use Rattle.context_typing.specs.Typing.{Customs, step_quiet, step_shape, steps_shape}
use Rattle.context_typing.proofs.WalkFacts.{shape-append}
use Rattle.rewrite_forms.proofs.CutLists.{mapped-next, mapped-whole}

none-outcome : (o : Option Shape) (quiet : Bool) → outcome o quiet ≡ None → o ≡ None
none-outcome None quiet e = refl
none-outcome (Some Z) quiet e = cc

-- a step that comes to nothing has no typing
pub no-outcome : (m : Model) (c : Customs) (T : Shape) (s : Step) → step_outcome m c T s ≡ None → step_shape m c T s ≡ None
no-outcome m c T s e = none-outcome (step_shape m c T s) (step_quiet m c T s) e

module _ (m : Model) (c : Customs) (S : Shape) where
  -- nothing was typed yet
  pub typed-start : steps_shape m c S (pipe []) ≡ Some S
  unfolding steps_shape
  typed-start = refl

  module _ {X : Type 0} (f : X → Step) (xs : List X) (i : ℕ) where
    -- all steps were typed
    pub typed-end : (T : Shape) → length xs ≤ i → steps_shape m c S (pipe (map f (take i xs))) ≡ Some T → Some T ≡ steps_shape m c S (pipe (map f xs))
    typed-end T h e = sym (ap (λ l. steps_shape m c S (pipe (map f l))) (sym (take_all i xs h)) ∙ e)

    module _ (d : X) (T : Shape) (h : i < length xs) (is : d ≡ get_or xs i d) (e : steps_shape m c S (pipe (map f (take i xs))) ≡ Some T) where
      -- a step more
      pub typed-next : (U : Shape) → step_shape m c T (f d) ≡ Some U → steps_shape m c S (pipe (map f (take (i + 1) xs))) ≡ Some U
      unfolding steps_shape
      typed-next U k =
          ap (λ l. steps_shape m c S (pipe l)) (mapped-next f xs i d h is) ∙ shape-append m c S (map f (take i xs)) (f d ∷ [])
          ∙ ap (option_and_then (λ Z. steps_shape m c Z (pipe (f d ∷ [])))) e ∙ ap (option_and_then (λ Z. Some Z)) k

      -- a step without a typing
      pub typed-missing : step_shape m c T (f d) ≡ None → None ≡ steps_shape m c S (pipe (map f xs))
      unfolding steps_shape
      typed-missing k =
          let rest = map f (drop (i + 1) xs) in
          sym (ap (λ l. steps_shape m c S (pipe l)) (mapped-whole f xs i d h is) ∙ shape-append m c S (map f (take i xs)) (f d ∷ rest)
          ∙ ap (option_and_then (λ Z. steps_shape m c Z (pipe (f d ∷ rest)))) e ∙ ap (option_and_then (λ Z. steps_shape m c Z (pipe rest))) k)
