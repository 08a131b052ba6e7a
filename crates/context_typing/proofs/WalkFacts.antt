-- The steps of a pipeline, one after another.
use Rattle.std.proofs.Common.{◌≡◌, refl, sym, ◌∙◌, ap, ℕ, ◌+◌, ◌-◌, ◌<◌, ◌≤◌, Bool, true, false, ◌&&◌, List, [], ◌∷◌, ◌++◌, Option, Some, None, map, take, drop, length, get_or, arith}
use Rattle.std.specs.Prelude.{option_and_then, is_some, is_none, unwrap_or}
use Rattle.std.proofs.lemmas.List.{map-append, take-append-drop, take-map, take_all, take_more}
use Rattle.std.proofs.Math.Bool.{and-true}
use Rattle.edm_values.proofs.OptionFacts.{chained, some_value, none_or}
use Rattle.edm_model.specs.Models.{Model}
use Rattle.apply_ast.specs.Trees.{Pipe, Step, steps, pipe, is_long}
use Rattle.context_typing.specs.Outcomes.{Outcome, outcome, step_outcome, steps_outcome}
use Rattle.context_typing.specs.Shapes.{Shape}
use Rattle.context_typing.specs.Typing.{Customs, IsUntypedAt, after, is_quiet, step_quiet, step_shape, steps_shape}

pub pipe-steps : (p : Pipe) → pipe (steps p) ≡ p
pipe-steps Pipe.End = refl
pipe-steps (Pipe.Then s p) = ap (Pipe.Then s) (pipe-steps p)

pub steps-pipe : (ss : List Step) → steps (pipe ss) ≡ ss
steps-pipe [] = refl
steps-pipe (s ∷ ss) = ap (λ l. s ∷ l) (steps-pipe ss)

behind : (f g h : Shape → Option Shape) (o : Option Shape) → ((T : Shape) → h T ≡ option_and_then g (f T)) → option_and_then h o ≡ option_and_then g (option_and_then f o)
behind f g h None e = refl
behind f g h (Some T) e = e T

pub shape-append : (m : Model) (c : Customs) (S : Shape) (ss ts : List Step) → steps_shape m c S (pipe (ss ++ ts)) ≡ option_and_then (λ T. steps_shape m c T (pipe ts)) (steps_shape m c S (pipe ss))
unfolding steps_shape
shape-append m c S [] ts = refl
shape-append m c S (s ∷ ss) ts = behind (λ T. steps_shape m c T (pipe ss)) (λ T. steps_shape m c T (pipe ts)) (λ T. steps_shape m c T (pipe (ss ++ ts))) (step_shape m c S s) (λ T. shape-append m c T ss ts)

and-assoc : (a b d : Bool) → (a && (b && d)) ≡ ((a && b) && d)
and-assoc true b d = refl
and-assoc false b d = refl

quiet-append : (m : Model) (c : Customs) (S T : Shape) (ss ts : List Step) → steps_shape m c S (pipe ss) ≡ Some T → is_quiet m c S (pipe (ss ++ ts)) ≡ (is_quiet m c S (pipe ss) && is_quiet m c T (pipe ts))
unfolding steps_shape is_quiet
quiet-append m c S T [] ts e = ap (λ S. is_quiet m c S (pipe ts)) (some_value e)
quiet-append m c S T (s ∷ ss) ts e =
    let x = chained (λ T. steps_shape m c T (pipe ss)) (step_shape m c S s) T e in
    let next : after m c S s ≡ x.0 = ap (λ o. unwrap_or o S) x.1 in
    ap (λ A. step_quiet m c S s && is_quiet m c A (pipe (ss ++ ts))) next
    ∙ ap (λ b. step_quiet m c S s && b) (quiet-append m c x.0 T ss ts x.2)
    ∙ and-assoc (step_quiet m c S s) (is_quiet m c x.0 (pipe ss)) (is_quiet m c T (pipe ts))
    ∙ ap (λ A. (step_quiet m c S s && is_quiet m c A (pipe ss)) && is_quiet m c T (pipe ts)) (sym next)

quiet-one : (m : Model) (c : Customs) (T : Shape) (s : Step) → is_quiet m c T (pipe (s ∷ [])) ≡ step_quiet m c T s
unfolding is_quiet
quiet-one m c T s = and-true (step_quiet m c T s)

shape-one : (m : Model) (c : Customs) (T : Shape) (s : Step) → steps_shape m c T (pipe (s ∷ [])) ≡ step_shape m c T s
unfolding steps_shape
shape-one m c T s = go (step_shape m c T s)
  where
    go : (o : Option Shape) → option_and_then (λ T. steps_shape m c T Pipe.End) o ≡ o
    go None = refl
    go (Some T) = refl

mapped-more : {X : Type 0} (f : X → Step) (xs : List X) (i : ℕ) (d : X) → i < length xs → d ≡ get_or xs i d → map f (take (i + 1) xs) ≡ map f (take i xs) ++ f d ∷ []
mapped-more f xs i d h is = ap (map f) (take_more xs i d h) ∙ map-append f (take i xs) (get_or xs i d ∷ []) ∙ ap (λ x. map f (take i xs) ++ f x ∷ []) (sym is)

-- the parts of an outcome
pub outcome-parts : (o : Option Shape) (q : Bool) (x : Outcome) → outcome o q ≡ Some x → (o ≡ Some x.shape) × (q ≡ x.quiet)
outcome-parts None q x e = none_or x e
outcome-parts (Some S) q x e = let s = some_value e in (ap (λ y. Some y.shape) s, ap (λ y. y.quiet) s)

-- nothing was walked yet
pub walk-start : (m : Model) (c : Customs) (S : Shape) → steps_outcome m c S (pipe []) ≡ Some (record { shape = S; quiet = true })
unfolding steps_shape is_quiet
walk-start m c S = refl

-- one step more
pub walk-next : {X : Type 0} (m : Model) (c : Customs) (S : Shape) (f : X → Step) (xs : List X) (i : ℕ) (d : X) (x y : Outcome) → i < length xs → d ≡ get_or xs i d → steps_outcome m c S (pipe (map f (take i xs))) ≡ Some x → step_outcome m c x.shape (f d) ≡ Some y
    → steps_outcome m c S (pipe (map f (take (i + 1) xs))) ≡ Some (record { shape = y.shape; quiet = x.quiet && y.quiet })
walk-next m c S f xs i d x y h is e k =
    let before = outcome-parts _ _ x e in
    let step = outcome-parts _ _ y k in
    let more = mapped-more f xs i d h is in
    let shape : steps_shape m c S (pipe (map f (take i xs) ++ f d ∷ [])) ≡ Some y.shape =
    shape-append m c S (map f (take i xs)) (f d ∷ []) ∙ ap (option_and_then (λ T. steps_shape m c T (pipe (f d ∷ [])))) before.0 ∙ shape-one m c x.shape (f d) ∙ step.0 in
    let quiet : is_quiet m c S (pipe (map f (take i xs) ++ f d ∷ [])) ≡ (x.quiet && y.quiet) =
    quiet-append m c S x.shape (map f (take i xs)) (f d ∷ []) before.0 ∙ ap (λ b. b && is_quiet m c x.shape (pipe (f d ∷ []))) before.1 ∙ ap (λ b. x.quiet && b) (quiet-one m c x.shape (f d) ∙ step.1) in
    ap (λ l. steps_outcome m c S (pipe l)) more ∙ (λ j. outcome (shape j) (quiet j))

-- a step without a typing
pub walk-missing : {X : Type 0} (m : Model) (c : Customs) (S : Shape) (f : X → Step) (xs : List X) (i : ℕ) (d : X) (x : Outcome) → i < length xs → d ≡ get_or xs i d → steps_outcome m c S (pipe (map f (take i xs))) ≡ Some x → None ≡ step_outcome m c x.shape (f d)
    → IsUntypedAt m c S (pipe (map f xs)) (i + 1)
walk-missing m c S f xs i d x h is e k =
    let before = (outcome-parts _ _ x e).0 in
    let front : (j : ℕ) → take j (steps (pipe (map f xs))) ≡ map f (take j xs) = λ j. ap (take j) (steps-pipe (map f xs)) ∙ take-map f j xs in
    let less : i + 1 - 1 ≡ i = omega arith in
    let typed : steps_shape m c S (pipe (take (i + 1 - 1) (steps (pipe (map f xs))))) ≡ Some x.shape = ap (λ j. steps_shape m c S (pipe (take j (steps (pipe (map f xs)))))) less ∙ ap (λ l. steps_shape m c S (pipe l)) (front i) ∙ before in
    let untyped : steps_shape m c S (pipe (take (i + 1) (steps (pipe (map f xs))))) ≡ None =
    ap (λ l. steps_shape m c S (pipe l)) (front (i + 1) ∙ mapped-more f xs i d h is) ∙ shape-append m c S (map f (take i xs)) (f d ∷ []) ∙ ap (option_and_then (λ T. steps_shape m c T (pipe (f d ∷ [])))) before
    ∙ shape-one m c x.shape (f d) ∙ no_shape _ (step_shape m c x.shape (f d)) k in
    (omega arith, ap is_some typed, ap is_none untyped)
  where
    no_shape : (q : Bool) (o : Option Shape) → None ≡ outcome o q → o ≡ None
    no_shape q None e = refl
    no_shape q (Some T) e = none_or _ e

-- all steps were walked
pub walk-all : {X : Type 0} (m : Model) (c : Customs) (S : Shape) (f : X → Step) (xs : List X) (i : ℕ) (x : Outcome) (p : Pipe) → length xs ≤ i → p ≡ pipe (map f xs) → steps_outcome m c S (pipe (map f (take i xs))) ≡ Some x → steps_outcome m c S p ≡ Some x
walk-all m c S f xs i x p h is e = ap (steps_outcome m c S) (is ∙ ap (λ l. pipe (map f l)) (sym (take_all i xs h))) ∙ e

-- a pipeline with an untyped step has no shape
pub untyped-none : (m : Model) (c : Customs) (S : Shape) (p : Pipe) (k : ℕ) → IsUntypedAt m c S p k → steps_shape m c S p ≡ None
untyped-none m c S p k h =
    ap (steps_shape m c S) (sym (pipe-steps p) ∙ ap pipe (sym (take-append-drop k (steps p)))) ∙ shape-append m c S (take k (steps p)) (drop k (steps p)) ∙ none (steps_shape m c S (pipe (take k (steps p)))) h.2
  where
    none : (o : Option Shape) → is_none o ≡ true → option_and_then (λ T. steps_shape m c T (pipe (drop k (steps p)))) o ≡ None
    none None e = refl
    none (Some T) e = cc

-- a pipeline made of some steps has a step
pub long-steps : {X : Type 0} (f : X → Step) (xs : List X) (p : Pipe) → p ≡ pipe (map f xs) → 0 < length xs → is_long p ≡ true
long-steps f [] p e h = absurd (omega arith)
long-steps f (x ∷ xs) p e h = ap is_long e
