-- Pipelines of appended steps, and the last step of one.
use Rattle.std.proofs.Common.{◌≡◌, refl, sym, ◌∙◌, ap, subst, true, List, [], ◌∷◌, ◌++◌, drop, reverse, Some, None, IsTrue, inl, inr, Contains}
use Rattle.std.specs.Prelude.{option_and_then, unwrap_or}
use Rattle.std.specs.List.{last_or}
use Rattle.std.proofs.lemmas.List.{append_assoc, reverse-append, reverse-reverse}
use Rattle.std.proofs.lemmas.List.Elements.{Contains-append_left, Contains-append_right, Contains-append_cases}
use Rattle.edm_values.proofs.OptionFacts.{none_or, some_value, chained}
use Rattle.edm_model.specs.Models.{Model}
use Rattle.edm_data.specs.Worlds.{World}
use Rattle.apply_ast.specs.Trees.{HierName, Pipe, Step, pipe, is_long}
use Rattle.context_typing.specs.Shapes.{Shape}
use Rattle.context_typing.specs.Typing.{Customs, steps_shape, step_shape, after, customs_typed, is_lawful}
use Rattle.apply_meaning.specs.Instances.{Instance}
use Rattle.apply_meaning.specs.Meaning.{mean, step_mean}
use Rattle.apply_meaning.specs.MeaningLaws.{AllFit}
use Rattle.apply_ast.specs.NamedHierarchies.{hierarchies, step_hierarchies}
use Rattle.rewrite_laws.specs.Rewrites.{pipe_or_identity}
use Rattle.rewrite_laws.specs.RewriteLaws.{SameMeaning}
use Rattle.rewrite_laws.proofs.RuleLemmas.{Laws, chain-assoc}

-- ---- the last element

split-last : {X : Type 0} (x : X) (xs : List X) → (front : List X) × (y : X) × (x ∷ xs ≡ front ++ y ∷ []) × (last_or (Some x) xs ≡ Some y)
split-last x [] = ([], x, refl, refl)
split-last x (x' ∷ xs) = let t = split-last x' xs in (x ∷ t.0, t.1, ap (λ zs. x ∷ zs) t.2, t.3)

pub last-split : {X : Type 0} (xs : List X) (y : X) → last_or None xs ≡ Some y → xs ≡ reverse (drop 1 (reverse xs)) ++ y ∷ []
last-split [] y e = none_or y e
last-split (x ∷ xs) y e =
    let t = split-last x xs in
    let same = some_value (sym t.3 ∙ e) in
    let front : reverse (drop 1 (reverse (x ∷ xs))) ≡ t.0 = ap (λ zs. reverse (drop 1 (reverse zs))) t.2 ∙ ap (λ zs. reverse (drop 1 zs)) (reverse-append t.0 (t.1 ∷ [])) ∙ reverse-reverse t.0 in
    t.2 ∙ (λ i. sym front i ++ same i ∷ [])

-- ---- appended steps

pub mean-append : (w : World) (c : Customs) (S T : Shape) (ss ts : List Step) (l : List Instance) → steps_shape w.model c S (pipe ss) ≡ Some T
    → mean w c S (pipe (ss ++ ts)) l ≡ option_and_then (mean w c T (pipe ts)) (mean w c S (pipe ss) l)
unfolding mean steps_shape
mean-append w c S T [] ts l e = ap (λ Z. mean w c Z (pipe ts) l) (some_value e)
mean-append w c S T (s ∷ ss) ts l e =
    let t = chained (λ Z. steps_shape w.model c Z (pipe ss)) (step_shape w.model c S s) T e in
    let at : after w.model c S s ≡ t.0 = ap (λ o. unwrap_or o S) t.1 in
    ap (λ Z. option_and_then (mean w c Z (pipe (ss ++ ts))) (step_mean w c S s l)) at
    ∙ (λ i. option_and_then (λ r. mean-append w c t.0 T ss ts r t.2 i) (step_mean w c S s l))
    ∙ chain-assoc (mean w c T (pipe ts)) (mean w c t.0 (pipe ss)) (step_mean w c S s l)
    ∙ sym (ap (λ Z. option_and_then (mean w c T (pipe ts)) (option_and_then (mean w c Z (pipe ss)) (step_mean w c S s l))) at)

pub hierarchies-append : (ss ts : List Step) → hierarchies (pipe (ss ++ ts)) ≡ hierarchies (pipe ss) ++ hierarchies (pipe ts)
hierarchies-append [] ts = refl
hierarchies-append (s ∷ ss) ts = ap (λ hs. step_hierarchies s ++ hs) (hierarchies-append ss ts) ∙ sym (append_assoc (step_hierarchies s) (hierarchies (pipe ss)) (hierarchies (pipe ts)))

-- ---- steps, or identity where there are none

pub identity-shape : (m : Model) (c : Customs) (S : Shape) (ss : List Step) → steps_shape m c S (pipe_or_identity ss) ≡ steps_shape m c S (pipe ss)
unfolding steps_shape
identity-shape m c S [] = refl
identity-shape m c S (s ∷ ss) = refl

pub identity-mean : (w : World) (c : Customs) (S : Shape) (ss : List Step) (l : List Instance) → mean w c S (pipe_or_identity ss) l ≡ mean w c S (pipe ss) l
unfolding mean steps_shape
identity-mean w c S [] l = refl
identity-mean w c S (s ∷ ss) l = refl

pub identity-hierarchies : (ss : List Step) → hierarchies (pipe_or_identity ss) ≡ hierarchies (pipe ss)
identity-hierarchies [] = refl
identity-hierarchies (s ∷ ss) = refl

pub identity-long : (ss : List Step) → is_long (pipe_or_identity ss) ≡ true
identity-long [] = refl
identity-long (s ∷ ss) = refl

-- ---- one step in place of another

-- it names no other hierarchy, leads to the same shape and means the same
abbrev pub SameStep : (World → Type 0) → World → Customs → Shape → Step → Step → Type 0
SameStep A w c S s s' = ((h : HierName) → Contains (step_hierarchies s') h → Contains (step_hierarchies s) h) × (step_shape w.model c S s' ≡ step_shape w.model c S s)
    × (A w → (l : List Instance) → AllFit w S l → step_mean w c S s' l ≡ step_mean w c S s l)

pub step-replaced : (A : World → Type 0) (w : World) (c : Customs) (S : Shape) (s s' : Step) (p : Pipe) → SameStep A w c S s s' → SameMeaning A w c S (Pipe.Then s p) (Pipe.Then s' p)
unfolding mean steps_shape
step-replaced A w c S s s' p h = (
  (λ n k. elim (Contains-append_cases (step_hierarchies s') (hierarchies p) n k) [
    | inl x ↦ Contains-append_left (step_hierarchies s) (hierarchies p) n (h.0 n x)
    | inr x ↦ Contains-append_right (step_hierarchies s) (hierarchies p) n x
  ]),
  ap (option_and_then (λ T. steps_shape w.model c T p)) h.1,
  λ a l f i. option_and_then (mean w c (unwrap_or (h.1 i) S) p) (h.2 a l f i),
)

-- what steps make of instances that fit, fits
pub steps-fit : (A : World → Type 0) → Laws A → (w : World) (c : Customs) → A w → IsTrue (customs_typed w.model c) → (S T : Shape) (ss : List Step) (l r : List Instance) → IsTrue (is_lawful w.model S)
    → steps_shape w.model c S (pipe ss) ≡ Some T → AllFit w S l → mean w c S (pipe ss) l ≡ Some r → AllFit w T r
unfolding mean steps_shape
steps-fit A L w c a k S T [] l r law e f m = subst (λ z. AllFit w T z) (some_value m) (subst (λ Z. AllFit w Z l) (some_value e) f)
steps-fit A L w c a k S T (s ∷ ss) l r law e f m = L.fitting w c S T (pipe (s ∷ ss)) l r a k law (refl, e) f m
