-- Whether filters that come out of a concatenation stay before it, step by step and branch by branch.
use Rattle.std.proofs.Common.{◌≡◌, sym, ◌∙◌, ap, Bool, true, false, not, ◌&&◌, ◌||◌, Some, if◌then◌else◌}
use Rattle.apply_ast.specs.Trees.{Pipe, Pipes, Step}
use Rattle.walk_laws.specs.Apart.{is_loose, leads_to, step_apart}
use Rattle.walk_laws.specs.FiltersOut.{filters_stay, front_of, gives_filters, has_own_front, some_beside, some_own, stays_behind}

-- ---- the first step but filters

pub front-stop : {b : Bool} (s : Step) → b ≡ is_loose s → b ≡ false → (p : Pipe) → front_of (Pipe.Then s p) ≡ Some s
front-stop s e h p = ap (λ z. if z then front_of p else Some s) (sym e ∙ h)

pub front-next : {b : Bool} (s : Step) → b ≡ is_loose s → b ≡ true → (p : Pipe) → front_of (Pipe.Then s p) ≡ front_of p
front-next s e h p = ap (λ z. if z then front_of p else Some s) (sym e ∙ h)

-- ---- branches

pub beside-found : {b : Bool} (x : Step) (p : Pipe) → b ≡ leads_to x p → b ≡ false → (ps : Pipes) → some_beside x (Pipes.MorePipes p ps) ≡ true
beside-found x p e h ps = ap (λ z. not z || some_beside x ps) (sym e ∙ h)

pub beside-next : {b : Bool} (x : Step) (p : Pipe) → b ≡ leads_to x p → b ≡ true → (ps : Pipes) → some_beside x (Pipes.MorePipes p ps) ≡ some_beside x ps
beside-next x p e h ps = ap (λ z. not z || some_beside x ps) (sym e ∙ h)

pub own-found : {b : Bool} (all : Pipes) (p : Pipe) → b ≡ has_own_front all (front_of p) → b ≡ true → (ps : Pipes) → some_own all (Pipes.MorePipes p ps) ≡ true
own-found all p e h ps = ap (λ z. z || some_own all ps) (sym e ∙ h)

pub own-next : {b : Bool} (all : Pipes) (p : Pipe) → b ≡ has_own_front all (front_of p) → b ≡ false → (ps : Pipes) → some_own all (Pipes.MorePipes p ps) ≡ some_own all ps
own-next all p e h ps = ap (λ z. z || some_own all ps) (sym e ∙ h)

-- ---- steps

pub stay-stop : {a : Bool} (b : Bool) (s : Step) (p : Pipe) → a ≡ (step_apart s || (b && gives_filters s)) → a ≡ false → filters_stay b (Pipe.Then s p) ≡ false
stay-stop b s p e h = λ i. (sym e ∙ h) i && filters_stay (stays_behind b s) p

pub stay-next : {a d : Bool} (b : Bool) (s : Step) (p : Pipe) → a ≡ (step_apart s || (b && gives_filters s)) → a ≡ true → d ≡ stays_behind b s → filters_stay b (Pipe.Then s p) ≡ filters_stay d p
stay-next b s p e h l = λ i. (sym e ∙ h) i && filters_stay (sym l i) p
