-- Whether filters rest, step by step and branch by branch.
use Rattle.std.proofs.Common.{◌≡◌, refl, sym, ◌∙◌, ap, arith, ◌<◌, Bool, true, false, ◌&&◌, ◌||◌, List, [], ◌∷◌, get_or, length, map}
use Rattle.apply_ast.specs.Trees.{Pipe, Pipes, Step, is_long, pipe}
use Rattle.rewrite_laws.specs.Rewrites.{is_identity}
use Rattle.walk_laws.specs.Factored.{Place, branches_rest, is_alone, place_behind, step_rests, steps_rest}

-- the first step decides, and then the others
pub next-step : {b : Bool} (P P' : Place) (s : Step) → b ≡ step_rests P s → P' ≡ place_behind P s → (p : Pipe) → {v : Bool} → b ≡ v → steps_rest P (Pipe.Then s p) ≡ (v && steps_rest P' p)
next-step P P' s e f p h = λ i. (sym e ∙ h) i && steps_rest (sym f i) p

-- the first step decides where it does not rest
pub stop-step : {b : Bool} (P : Place) (s : Step) → b ≡ step_rests P s → (p : Pipe) → b ≡ false → steps_rest P (Pipe.Then s p) ≡ false
stop-step P s e p h = ap (λ z. z && steps_rest (place_behind P s) p) (sym e ∙ h)

pub next-branch : {b : Bool} (P : Place) (p : Pipe) → b ≡ (is_alone p || (is_long p && steps_rest P p)) → (ps : Pipes) → {v : Bool} → b ≡ v → branches_rest P (Pipes.MorePipes p ps) ≡ (v && branches_rest P ps)
next-branch P p e ps h = λ i. (sym e ∙ h) i && branches_rest P ps

-- a pipeline of steps is long
pub long-from : (p : Pipe) (ss : List Step) → p ≡ pipe ss → 0 < length ss → is_long p ≡ true
long-from p [] e h = absurd (omega (arith, h))
long-from p (s ∷ ss) e h = ap is_long e

-- it is alone where its only step is `identity`
alone-form : (s : Step) → is_identity s ≡ is_alone (Pipe.Then s Pipe.End)
alone-form Step.Identity = refl
alone-form s = refl

more-form : (s t : Step) (ss : List Step) → false ≡ is_alone (Pipe.Then s (Pipe.Then t (pipe ss)))
more-form Step.Identity t ss = refl
more-form s t ss = refl

pub alone-one : (p : Pipe) (ss : List Step) (x : Step) → p ≡ pipe ss → length ss ≡ 1 → x ≡ get_or ss 0 x → is_identity x ≡ is_alone p
alone-one p [] x e h is = absurd (omega (arith, h))
alone-one p (s ∷ []) x e h is = ap is_identity is ∙ alone-form s ∙ sym (ap is_alone e)
alone-one p (s ∷ t ∷ ss) x e h is = absurd (omega (arith, h))

pub alone-more : (p : Pipe) (ss : List Step) → p ≡ pipe ss → (length ss ≡ 1 → ⊥) → false ≡ is_alone p
alone-more p [] e h = sym (ap is_alone e)
alone-more p (s ∷ []) e h = absurd (h refl)
alone-more p (s ∷ t ∷ ss) e h = more-form s t ss ∙ sym (ap is_alone e)

-- a branch is `identity`, or its filters rest
pub branch-rests : (P : Place) (p : Pipe) (z : Bool) → is_long p ≡ true → (is_alone p || steps_rest P p) ≡ (is_alone p || (is_long p && steps_rest P p))
branch-rests P p z h = ap (λ l. is_alone p || (l && steps_rest P p)) (sym h)

-- the first step, as the program holds it
pub first-mapped : {X : Type 0} (f : X → Step) (xs : List X) (x : X) → x ≡ get_or xs 0 x → f x ≡ get_or (map f xs) 0 (f x)
first-mapped f [] x e = refl
first-mapped f (y ∷ xs) x e = ap f e
