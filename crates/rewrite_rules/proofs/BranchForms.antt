-- What the rules of concatenations make, by the form of the step at the place.
use Rattle.std.proofs.Common.{◌≡◌, refl, sym, ◌∙◌, ap, ℕ, ◌+◌, ◌-◌, ◌<◌, Bool, true, false, ◌&&◌, not, List, [], ◌∷◌, ◌++◌, Option, Some, None, cond, drop, find, get_or, length, map, take}
use Rattle.std.specs.Prelude.{option_and_then, option_map, slice_get}
use Rattle.std.specs.Bool.{then_some}
use Rattle.std.specs.List.{list_all}
use Rattle.std.proofs.lemmas.List.{map-append}
use Rattle.edm_values.specs.Lists.{all_some, is_some_and}
use Rattle.edm_values.specs.Literals.{is_boolean_kind}
use Rattle.edm_values.proofs.OptionFacts.{mapped, none_or, some_value, unmapped}
use Rattle.edm_model.specs.Models.{Model}
use Rattle.apply_ast.specs.Trees.{Pipe, Pipes, Step, pipe, steps}
use Rattle.apply_ast.specs.Views.{pipes_from}
use Rattle.context_typing.specs.Shapes.{Shape}
use Rattle.context_typing.specs.Typing.{Customs, after, has_kind, steps_shape}
use Rattle.context_typing.proofs.WalkFacts.{steps-pipe}
use Rattle.rewrite_laws.specs.Rewrites.{FilterRun, behind, branches, concat, ended, factor_branches, filter_branches, is_identity, movable}
use Rattle.rewrite_rules.specs.Branches.{begins_with, common_first, into_branches, without_first}
use Rattle.rewrite_forms.specs.Forms.{begins_with_filter}
use Rattle.rewrite_forms.specs.StepForms.{branches_of}
use Rattle.rewrite_forms.proofs.CutLists.{mapped-next}
use Rattle.rewrite_rules.proofs.RuleForms.{behind-first}

-- the branches of a list of them
branches-from : (ps : List Pipe) → branches (pipes_from ps) ≡ ps
branches-from [] = refl
branches-from (p ∷ ps) = ap (λ l. p ∷ l) (branches-from ps)

-- ---- lists that are made element by element

-- one element more
pub made-next : {X Y Z : Type 0} (f : X → Y) (g : Y → Z) {A : Type 0} (h : A → Z) (done : List A) (xs : List X) (i : ℕ) (d : X) (x : A) → i < length xs → d ≡ get_or xs i d → map h done ≡ map g (map f (take i xs)) → h x ≡ g (f d)
    → map h (done ++ x ∷ []) ≡ map g (map f (take (i + 1) xs))
made-next f g h done xs i d x k is e here =
    map-append h done (x ∷ []) ∙ (λ j. e j ++ here j ∷ []) ∙ sym (ap (map g) (mapped-next f xs i d k is) ∙ map-append g (map f (take i xs)) (f d ∷ []))

-- the steps of a pipeline behind its first, as a slice has them
pub rest-steps : {X : Type 0} (f : X → Step) (xs : List X) (p : Pipe) → p ≡ pipe (map f xs) → map f (take (length xs - 1) (drop 1 xs)) ≡ drop 1 (steps p)
rest-steps f xs p e = behind-first f xs ∙ ap (drop 1) (sym (steps-pipe (map f xs)) ∙ ap steps (sym e))

-- ---- shapes of branches

each-front : {Y : Type 0} (test : Y → Bool) (o : Option Y) (os : List (Option Y)) (b : Bool) (ys : List Y) → Some ys ≡ all_some (o ∷ os) → ((zs : List Y) → Some zs ≡ all_some os → b ≡ list_all test zs) → (is_some_and test o && b) ≡ list_all test ys
each-front test None os b ys e k = none_or ys (sym e)
each-front test (Some y) os b ys e k = let p = mapped (λ l. y ∷ l) (all_some os) ys (sym e) in ap (λ b. test y && b) (k p.0 (sym p.1)) ∙ ap (list_all test) p.2

-- what all of the shapes have, each branch has on its own
each-shape : {X Y : Type 0} (g : X → Option Y) (test : Y → Bool) (xs : List X) (ys : List Y) → Some ys ≡ all_some (map g xs) → list_all (λ x. is_some_and test (g x)) xs ≡ list_all test ys
each-shape g test [] ys e = ap (list_all test) (sym (some_value e))
each-shape g test (x ∷ xs) ys e = each-front test (g x) (map g xs) (list_all (λ x. is_some_and test (g x)) xs) ys e (λ zs k. each-shape g test xs zs k)

and-false : (b : Bool) → (b && false) ≡ false
and-false true = refl
and-false false = refl

no-front : {Y : Type 0} (test : Y → Bool) (o : Option Y) (os : List (Option Y)) (b : Bool) → None ≡ all_some (o ∷ os) → (None ≡ all_some os → b ≡ false) → (is_some_and test o && b) ≡ false
no-front test None os b e k = refl
no-front test (Some y) os b e k = ap (λ b. test y && b) (k (sym (unmapped (λ l. y ∷ l) (all_some os) (sym e)))) ∙ and-false (test y)

-- where one has none, no test holds of each
no-shape : {X Y : Type 0} (g : X → Option Y) (test : Y → Bool) (xs : List X) → None ≡ all_some (map g xs) → list_all (λ x. is_some_and test (g x)) xs ≡ false
no-shape g test [] e = none_or [] e
no-shape g test (x ∷ xs) e = no-front test (g x) (map g xs) (list_all (λ x. is_some_and test (g x)) xs) e (λ k. no-shape g test xs k)

find-nothing : {X : Type 0} (test : X → Bool) (xs : List X) → ((x : X) → test x ≡ false) → find test xs ≡ None
find-nothing test [] h = refl
find-nothing test (x ∷ xs) h = ap (λ b. cond b (Some x) (find test xs)) (h x) ∙ find-nothing test xs h

-- no run of filters begins another step
front-movable : (m : Model) (S : Shape) (ss : List Step) → begins_with_filter ss ≡ false → movable m S ss ≡ []
front-movable m S [] h = refl
front-movable m S (Step.Filter b ∷ ss) h = cc
front-movable m S (s ∷ ss) h = refl

-- ---- a filter goes into the branches

module _ (m : Model) (c : Customs) (S : Shape) (before : Bool) (s : Step) (ss : List Step) where
  -- the test of a filter on each branch
  abbrev on_each : List Pipe → FilterRun → Bool
  on_each ps r = list_all (λ p. is_some_and (λ Z. has_kind is_boolean_kind m Z r.last) (steps_shape m c S p)) ps

  abbrev made : List Pipe → FilterRun → List Step
  made ps r = behind (concat (map (λ p. ended p (Step.Filter r.last)) ps)) r

  filter-form : (bs : Pipes) → branches_of s ≡ Some bs → filter_branches m c S before s ss ≡ option_map (made (branches bs)) (find (on_each (branches bs)) (movable m (after m c S s) ss))
  filter-form bs e = go s e
    where
      go : (s : Step) → branches_of s ≡ Some bs → filter_branches m c S before s ss ≡ option_map (made (branches bs)) (find (on_each (branches bs)) (movable m (after m c S s) ss))
      go (Step.Concat ps) e = ap (λ z. option_map (made (branches z)) (find (on_each (branches z)) (movable m (after m c S (Step.Concat ps)) ss))) (some_value e)
      go s e = none_or bs e

  pub filter-other : branches_of s ≡ None → None ≡ filter_branches m c S before s ss
  filter-other e = go s e
    where
      go : (s : Step) → branches_of s ≡ None → None ≡ filter_branches m c S before s ss
      go (Step.Concat ps) e = none_or ps (sym e)
      go s e = refl

  module _ (bs : Pipes) (is : branches_of s ≡ Some bs) where
    pub filter-front : begins_with_filter ss ≡ false → None ≡ filter_branches m c S before s ss
    filter-front h = sym (filter-form bs is ∙ ap (λ l. option_map (made (branches bs)) (find (on_each (branches bs)) l)) (front-movable m (after m c S s) ss h))

    module _ (ps : List Pipe) (whole : bs ≡ pipes_from ps) (T : Shape) (there : T ≡ S) where
      filter-list : filter_branches m c S before s ss ≡ option_map (made ps) (find (on_each ps) (movable m (after m c S s) ss))
      filter-list = filter-form bs is ∙ ap (λ l. option_map (made l) (find (on_each l) (movable m (after m c S s) ss))) (ap branches whole ∙ branches-from ps)

      pub filter-untyped : None ≡ all_some (map (steps_shape m c T) ps) → None ≡ filter_branches m c S before s ss
      filter-untyped e =
          let none = λ (r : FilterRun). no-shape (steps_shape m c S) (λ Z. has_kind is_boolean_kind m Z r.last) ps (e ∙ ap (λ Z. all_some (map (steps_shape m c Z) ps)) there) in
          sym (filter-list ∙ ap (option_map (made ps)) (find-nothing (on_each ps) (movable m (after m c S s) ss) none))

      pub filter-given : (U : Shape) (Ss : List Shape) → U ≡ after m c T s → Some Ss ≡ all_some (map (steps_shape m c T) ps) → into_branches m U Ss ps ss ≡ filter_branches m c S before s ss
      filter-given U Ss next e =
          let same = λ (r : FilterRun). each-shape (steps_shape m c S) (λ Z. has_kind is_boolean_kind m Z r.last) ps Ss (e ∙ ap (λ Z. all_some (map (steps_shape m c Z) ps)) there) in
          (λ i. option_map (made ps) (find (λ r. sym (same r) i) (movable m ((next ∙ ap (λ Z. after m c Z s) there) i) ss))) ∙ sym filter-list

-- ---- the first step of all branches goes before them

module _ (m : Model) (c : Customs) (S : Shape) (before : Bool) (s : Step) (ss : List Step) where
  abbrev factored : List Pipe → Step → List Step
  factored ps x = x ∷ concat (map without_first ps) ∷ ss

  factor-form : (bs : Pipes) → branches_of s ≡ Some bs → factor_branches m c S before s ss ≡ option_map (factored (branches bs)) (common_first (branches bs))
  factor-form bs e = go s e
    where
      then : (ps : List Pipe) (x : Step) (b : Bool) → then_some b (factored ps x) ≡ option_map (factored ps) (then_some b x)
      then ps x true = refl
      then ps x false = refl

      chain : (ps : List Pipe) (o : Option Step) → option_and_then (λ x. then_some (not (is_identity x) && list_all (begins_with x) ps) (factored ps x)) o ≡ option_map (factored ps) (option_and_then (λ x. then_some (not (is_identity x) && list_all (begins_with x) ps) x) o)
      chain ps None = refl
      chain ps (Some x) = then ps x (not (is_identity x) && list_all (begins_with x) ps)

      go : (s : Step) → branches_of s ≡ Some bs → factor_branches m c S before s ss ≡ option_map (factored (branches bs)) (common_first (branches bs))
      go (Step.Concat ps) e =
          chain (branches ps) (option_and_then (λ p. slice_get (steps p) 0) (slice_get (branches ps) 0)) ∙ ap (λ z. option_map (factored (branches z)) (common_first (branches z))) (some_value e)
      go s e = none_or bs e

  pub factor-other : branches_of s ≡ None → None ≡ factor_branches m c S before s ss
  factor-other e = go s e
    where
      go : (s : Step) → branches_of s ≡ None → None ≡ factor_branches m c S before s ss
      go (Step.Concat ps) e = none_or ps (sym e)
      go s e = refl

  module _ (bs : Pipes) (is : branches_of s ≡ Some bs) (ps : List Pipe) (whole : bs ≡ pipes_from ps) where
    factor-list : factor_branches m c S before s ss ≡ option_map (factored ps) (common_first ps)
    factor-list = factor-form bs is ∙ ap (λ l. option_map (factored l) (common_first l)) (ap branches whole ∙ branches-from ps)

    pub factor-given : (x : Step) → Some x ≡ common_first ps → Some (x ∷ concat (map without_first ps) ∷ ss) ≡ factor_branches m c S before s ss
    factor-given x e = sym (factor-list ∙ ap (option_map (factored ps)) (sym e))

    pub factor-apart : None ≡ common_first ps → None ≡ factor_branches m c S before s ss
    factor-apart e = sym (factor-list ∙ ap (option_map (factored ps)) (sym e))
