-- Whether branches begin apart for good, step by step and branch by branch.
use Rattle.std.proofs.Common.{◌≡◌, sym, ◌∙◌, ap, arith, ◌<◌, Bool, true, false, not, ◌&&◌, ◌||◌, List, [], ◌∷◌, Some, get_or, length, map, if◌then◌else◌}
use Rattle.edm_values.proofs.OptionFacts.{none_or, some_value}
use Rattle.apply_ast.specs.Trees.{Pipe, Pipes, Step, pipe}
use Rattle.rewrite_laws.specs.TreeEquality.{step_same}
use Rattle.walk_laws.specs.Apart.{begin_apart, first_of, is_apart_from, is_closed, is_end, is_firm, is_fixed, is_loose, leads_to, may_go, never_begins, some_other}

-- ---- closed steps

pub closed-end : {b : Bool} (s : Step) → b ≡ is_end s → b ≡ true → (p : Pipe) → is_closed (Pipe.Then s p) ≡ true
closed-end s e h p = ap (λ z. z || (not (is_loose s) && is_closed p)) (sym e ∙ h)

pub closed-stop : {a b : Bool} (s : Step) → a ≡ is_end s → a ≡ false → b ≡ is_loose s → b ≡ true → (p : Pipe) → is_closed (Pipe.Then s p) ≡ false
closed-stop s e h f k p = λ i. (sym e ∙ h) i || (not ((sym f ∙ k) i) && is_closed p)

pub closed-next : {a b : Bool} (s : Step) → a ≡ is_end s → a ≡ false → b ≡ is_loose s → b ≡ false → (p : Pipe) → is_closed (Pipe.Then s p) ≡ is_closed p
closed-next s e h f k p = λ i. (sym e ∙ h) i || (not ((sym f ∙ k) i) && is_closed p)

-- ---- the first step that stays

pub leads-stop : {b : Bool} (x s : Step) → b ≡ may_go s → b ≡ false → (p : Pipe) → leads_to x (Pipe.Then s p) ≡ step_same x s
leads-stop x s e h p = ap (λ z. if z then leads_to x p else step_same x s) (sym e ∙ h)

pub leads-next : {b : Bool} (x s : Step) → b ≡ may_go s → b ≡ true → (p : Pipe) → leads_to x (Pipe.Then s p) ≡ leads_to x p
leads-next x s e h p = ap (λ z. if z then leads_to x p else step_same x s) (sym e ∙ h)

-- ---- the first step

pub first-there : {X : Type 0} (f : X → Step) (p : Pipe) (xs : List X) (x : X) → p ≡ pipe (map f xs) → 0 < length xs → x ≡ get_or xs 0 x → first_of p ≡ Some (f x)
first-there f p [] x e h is = absurd (omega (arith, h))
first-there f p (y ∷ xs) x e h is = ap first_of e ∙ ap (λ z. Some (f z)) (sym is)

pub fixed-from : (p : Pipe) (s : Step) → first_of p ≡ Some s → is_fixed p ≡ (is_firm s && (is_loose s || is_closed p))
fixed-from Pipe.End s e = none_or s e
fixed-from (Pipe.Then x p) s e = ap (λ s. is_firm s && (is_loose s || is_closed (Pipe.Then x p))) (some_value e)

-- ---- branches

pub other-found : {b : Bool} (x : Step) (p : Pipe) → b ≡ never_begins x p → b ≡ true → (ps : Pipes) → some_other x (Pipes.MorePipes p ps) ≡ true
other-found x p e h ps = ap (λ z. z || some_other x ps) (sym e ∙ h)

pub other-next : {b : Bool} (x : Step) (p : Pipe) → b ≡ never_begins x p → b ≡ false → (ps : Pipes) → some_other x (Pipes.MorePipes p ps) ≡ some_other x ps
other-next x p e h ps = ap (λ z. z || some_other x ps) (sym e ∙ h)

pub begin-found : {b : Bool} (all : Pipes) (p : Pipe) → b ≡ is_apart_from all p → b ≡ true → (ps : Pipes) → begin_apart all (Pipes.MorePipes p ps) ≡ true
begin-found all p e h ps = ap (λ z. z || begin_apart all ps) (sym e ∙ h)

pub begin-next : {b : Bool} (all : Pipes) (p : Pipe) → b ≡ is_apart_from all p → b ≡ false → (ps : Pipes) → begin_apart all (Pipes.MorePipes p ps) ≡ begin_apart all ps
begin-next all p e h ps = ap (λ z. z || begin_apart all ps) (sym e ∙ h)
