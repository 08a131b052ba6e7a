-- What the rule of climbs makes, by the form of the step at the place and by the last step of the climb's pipeline.
use Rattle.std.proofs.Common.{◌≡◌, refl, sym, ◌∙◌, ap, ℕ, ◌+◌, ◌<◌, Bool, true, false, List, [], ◌∷◌, ◌++◌, Option, Some, None, drop, get_or, length, map, take, arith}
use Rattle.std.specs.Prelude.{option_and_then, option_map, reverse}
use Rattle.std.specs.Bool.{then_some}
use Rattle.std.specs.List.{last_or}
use Rattle.std.proofs.lemmas.List.{map-append, reverse-append, reverse-reverse, take_all, take_more}
use Rattle.edm_values.specs.Lists.{is_some_and}
use Rattle.edm_values.specs.Names.{Path}
use Rattle.edm_values.proofs.OptionFacts.{none_or, some_value}
use Rattle.edm_model.specs.Models.{Model}
use Rattle.apply_ast.specs.Trees.{HierName, Pipe, Step, pipe, steps}
use Rattle.context_typing.specs.Shapes.{Shape}
use Rattle.context_typing.specs.Typing.{Customs, steps_shape}
use Rattle.context_typing.proofs.WalkFacts.{steps-pipe}
use Rattle.rewrite_laws.specs.Rewrites.{all_but_last, drop_idle, is_idle, pipe_or_identity}
use Rattle.rewrite_rules.specs.Climbs.{may_be_idle, without_idle}
use Rattle.rewrite_forms.specs.StepForms.{climbed_by}

-- ---- the last step of a pipeline

last-behind : {X : Type 0} (o : Option X) (xs : List X) (x : X) → last_or o (xs ++ x ∷ []) ≡ Some x
last-behind o [] x = refl
last-behind o (y ∷ xs) x = last-behind (Some y) xs x

front-of : {X : Type 0} (xs : List X) (x : X) → reverse (drop 1 (reverse (xs ++ x ∷ []))) ≡ xs
front-of xs x = ap (λ l. reverse (drop 1 l)) (reverse-append xs (x ∷ [])) ∙ reverse-reverse xs

module _ {X : Type 0} (f : X → Step) (xs : List X) (n : ℕ) (d : X) (h : n + 1 ≡ length xs) (is : d ≡ get_or xs n d) (T : Pipe) (whole : T ≡ pipe (map f xs)) where
  steps-split : steps T ≡ map f (take n xs) ++ f d ∷ []
  steps-split =
      let l : n < length xs = omega (arith, h) in
      ap steps whole ∙ steps-pipe (map f xs) ∙ ap (map f) (sym (take_all (n + 1) xs (omega (arith, h))) ∙ take_more xs n d l) ∙ map-append f (take n xs) (get_or xs n d ∷ []) ∙ ap (λ x. map f (take n xs) ++ f x ∷ []) (sym is)

  last-is : last_or None (steps T) ≡ Some (f d)
  last-is = ap (last_or None) steps-split ∙ last-behind None (map f (take n xs)) (f d)

  front-is : all_but_last T ≡ map f (take n xs)
  front-is = ap (λ l. reverse (drop 1 (reverse l))) steps-split ∙ front-of (map f (take n xs)) (f d)

  module _ (m : Model) (c : Customs) (S : Shape) (p : Path) where
    idle-form : without_idle m c S p T ≡ then_some (is_some_and (λ Z. is_idle m Z p (f d)) (steps_shape m c S (pipe (map f (take n xs))))) (pipe_or_identity (map f (take n xs)))
    idle-form =
        (λ i. option_and_then (λ x. then_some (is_some_and (λ Z. is_idle m Z p x) (steps_shape m c S (pipe (front-is i)))) (pipe_or_identity (front-is i))) (last-is i))

    never-idle : (s : Step) (Z : Shape) → may_be_idle s ≡ false → is_idle m Z p s ≡ false
    never-idle (Step.OrderBy items) Z h = cc
    never-idle (Step.Compute ns) Z h = cc
    never-idle s Z h = refl

    -- a step of another form
    pub idle-other : may_be_idle (f d) ≡ false → None ≡ without_idle m c S p T
    idle-other h = sym (idle-form ∙ ap (λ b. then_some b (pipe_or_identity (map f (take n xs)))) (go (steps_shape m c S (pipe (map f (take n xs))))))
      where
        go : (o : Option Shape) → is_some_and (λ Z. is_idle m Z p (f d)) o ≡ false
        go None = refl
        go (Some Z) = never-idle (f d) Z h

    module _ (R : Shape) (there : R ≡ S) where
      -- the steps before it have no typing
      pub idle-untyped : None ≡ steps_shape m c R (pipe (map f (take n xs))) → None ≡ without_idle m c S p T
      idle-untyped e =
          sym (idle-form ∙ ap (λ o. then_some (is_some_and (λ Z. is_idle m Z p (f d)) o) (pipe_or_identity (map f (take n xs)))) (ap (λ Z. steps_shape m c Z (pipe (map f (take n xs)))) (sym there) ∙ sym e))

      module _ (Z : Shape) (typed : Some Z ≡ steps_shape m c R (pipe (map f (take n xs)))) where
        idle-typed : without_idle m c S p T ≡ then_some (is_idle m Z p (f d)) (pipe_or_identity (map f (take n xs)))
        idle-typed =
            idle-form ∙ ap (λ o. then_some (is_some_and (λ Z. is_idle m Z p (f d)) o) (pipe_or_identity (map f (take n xs)))) (ap (λ Z. steps_shape m c Z (pipe (map f (take n xs)))) (sym there) ∙ sym typed)

        -- it is idle
        pub idle-given : is_idle m Z p (f d) ≡ true → Some (pipe_or_identity (map f (take n xs))) ≡ without_idle m c S p T
        idle-given h = sym (idle-typed ∙ ap (λ b. then_some b (pipe_or_identity (map f (take n xs)))) h)

        -- it is not
        pub idle-kept : is_idle m Z p (f d) ≡ false → None ≡ without_idle m c S p T
        idle-kept h = sym (idle-typed ∙ ap (λ b. then_some b (pipe_or_identity (map f (take n xs)))) h)

-- ---- the climb

module _ (m : Model) (c : Customs) (S : Shape) (before : Bool) (ss : List Step) where
  climb-form : (up : Bool) (h : HierName) (p : Path) (T : Pipe) (d : Option ℕ) (keep : Bool) → drop_idle m c S before (Step.Climb up h p T d keep) ss ≡ option_map (λ q. Step.Climb up h p q d keep ∷ ss) (without_idle m c S p T)
  climb-form up h p T d keep = chain (last_or None (steps T))
    where
      then : (b : Bool) (q : Pipe) → then_some b (Step.Climb up h p q d keep ∷ ss) ≡ option_map (λ q. Step.Climb up h p q d keep ∷ ss) (then_some b q)
      then true q = refl
      then false q = refl

      chain : (o : Option Step) → option_and_then (λ x. then_some (is_some_and (λ Z. is_idle m Z p x) (steps_shape m c S (pipe (all_but_last T)))) (Step.Climb up h p (pipe_or_identity (all_but_last T)) d keep ∷ ss)) o
          ≡ option_map (λ q. Step.Climb up h p q d keep ∷ ss) (option_and_then (λ x. then_some (is_some_and (λ Z. is_idle m Z p x) (steps_shape m c S (pipe (all_but_last T)))) (pipe_or_identity (all_but_last T))) o)
      chain None = refl
      chain (Some x) = then (is_some_and (λ Z. is_idle m Z p x) (steps_shape m c S (pipe (all_but_last T)))) (pipe_or_identity (all_but_last T))

  -- a step that is no climb
  pub climb-other : (s : Step) → None ≡ climbed_by s → None ≡ drop_idle m c S before s ss
  climb-other (Step.Climb up h p T d keep) e = none_or (Step.Climb up h p T d keep) e
  climb-other s e = refl

  climb-is : (s t : Step) → Some t ≡ climbed_by s → s ≡ t
  climb-is (Step.Climb up h p T d keep) t e = sym (some_value e)
  climb-is s t e = none_or t (sym e)

  module _ (s t : Step) (is : Some t ≡ climbed_by s) (up : Bool) (h : HierName) (p : Path) (T : Pipe) (d : Option ℕ) (keep : Bool) (whole : t ≡ Step.Climb up h p T d keep) (o : Option Pipe) (e : o ≡ without_idle m c S p T) where
    climb-list : drop_idle m c S before s ss ≡ option_map (λ q. Step.Climb up h p q d keep ∷ ss) o
    climb-list = ap (λ s. drop_idle m c S before s ss) (climb-is s t is ∙ whole) ∙ climb-form up h p T d keep ∙ ap (option_map (λ q. Step.Climb up h p q d keep ∷ ss)) (sym e)

    -- a step was made of it
    pub climb-given : (x : Step) → Some x ≡ option_map (λ q. Step.Climb up h p q d keep) o → Some (x ∷ ss) ≡ drop_idle m c S before s ss
    climb-given x k = go o k ∙ sym climb-list
      where
        go : (o : Option Pipe) → Some x ≡ option_map (λ q. Step.Climb up h p q d keep) o → Some (x ∷ ss) ≡ option_map (λ q. Step.Climb up h p q d keep ∷ ss) o
        go None k = none_or x (sym k)
        go (Some q) k = ap (λ s. Some (s ∷ ss)) (some_value k)

    -- nothing was
    pub climb-kept : None ≡ option_map (λ q. Step.Climb up h p q d keep) o → None ≡ drop_idle m c S before s ss
    climb-kept k = go o k ∙ sym climb-list
      where
        go : (o : Option Pipe) → ◌≡◌ {A = Option Step} None (option_map (λ q. Step.Climb up h p q d keep) o) → ◌≡◌ {A = Option (List Step)} None (option_map (λ q. Step.Climb up h p q d keep ∷ ss) o)
        go None k = refl
        go (Some q) k = none_or (Step.Climb up h p q d keep) k
