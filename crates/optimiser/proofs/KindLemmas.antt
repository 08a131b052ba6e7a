-- Whether branches begin with steps of different kinds for good, step by step and branch by branch.
use Rattle.std.proofs.Common.{◌≡◌, refl, sym, ◌∙◌, ap, Bool, true, false, not, ◌&&◌, ◌||◌, Some, if◌then◌else◌}
use Rattle.edm_values.proofs.OptionFacts.{none_or, some_value}
use Rattle.apply_ast.specs.Trees.{Keys, OptPipe, Pipe, Pipes, Step}
use Rattle.rewrite_laws.specs.TreeEquality.{step_same}
use Rattle.walk_laws.specs.Apart.{first_of, is_aggregate, is_closed, is_held, is_ordering, is_solid, is_unlike, keeps_orders, kind_of, kinds_apart, may_go, never_first, some_never}

-- ---- orders at the front

pub orders-next : {b : Bool} (s : Step) → b ≡ is_ordering s → b ≡ true → (p : Pipe) → keeps_orders (Pipe.Then s p) ≡ keeps_orders p
orders-next s e h p = ap (λ z. if z then keeps_orders p else not (is_aggregate s)) (sym e ∙ h)

pub orders-stop : {b : Bool} (s : Step) → b ≡ is_ordering s → b ≡ false → (p : Pipe) → keeps_orders (Pipe.Then s p) ≡ not (is_aggregate s)
orders-stop s e h p = ap (λ z. if z then keeps_orders p else not (is_aggregate s)) (sym e ∙ h)

-- ---- the first step

pub held-from : (p : Pipe) (s : Step) → first_of p ≡ Some s → is_held p ≡ (is_solid s && is_closed p && keeps_orders p)
held-from Pipe.End s e = none_or s e
held-from (Pipe.Then x p) s e = ap (λ s. is_solid s && is_closed (Pipe.Then x p) && keeps_orders (Pipe.Then x p)) (some_value e)

pub never-here : {b : Bool} (x s : Step) → b ≡ step_same x (kind_of s) → b ≡ true → (p : Pipe) → never_first x (Pipe.Then s p) ≡ false
never-here x s e h p = ap (λ z. not z && (not (may_go s) || never_first x p)) (sym e ∙ h)

pub never-stop : {a b : Bool} (x s : Step) → a ≡ step_same x (kind_of s) → a ≡ false → b ≡ may_go s → b ≡ false → (p : Pipe) → never_first x (Pipe.Then s p) ≡ true
never-stop x s e h f k p = λ i. not ((sym e ∙ h) i) && (not ((sym f ∙ k) i) || never_first x p)

pub never-next : {a b : Bool} (x s : Step) → a ≡ step_same x (kind_of s) → a ≡ false → b ≡ may_go s → b ≡ true → (p : Pipe) → never_first x (Pipe.Then s p) ≡ never_first x p
never-next x s e h f k p = λ i. not ((sym e ∙ h) i) && (not ((sym f ∙ k) i) || never_first x p)

-- ---- branches

pub kind-found : {b : Bool} (x : Step) (p : Pipe) → b ≡ never_first x p → b ≡ true → (ps : Pipes) → some_never x (Pipes.MorePipes p ps) ≡ true
kind-found x p e h ps = ap (λ z. z || some_never x ps) (sym e ∙ h)

pub kind-next : {b : Bool} (x : Step) (p : Pipe) → b ≡ never_first x p → b ≡ false → (ps : Pipes) → some_never x (Pipes.MorePipes p ps) ≡ some_never x ps
kind-next x p e h ps = ap (λ z. z || some_never x ps) (sym e ∙ h)

pub unlike-found : {b : Bool} (all : Pipes) (p : Pipe) → b ≡ is_unlike all p → b ≡ true → (ps : Pipes) → kinds_apart all (Pipes.MorePipes p ps) ≡ true
unlike-found all p e h ps = ap (λ z. z || kinds_apart all ps) (sym e ∙ h)

pub unlike-next : {b : Bool} (all : Pipes) (p : Pipe) → b ≡ is_unlike all p → b ≡ false → (ps : Pipes) → kinds_apart all (Pipes.MorePipes p ps) ≡ kinds_apart all ps
unlike-next all p e h ps = ap (λ z. z || kinds_apart all ps) (sym e ∙ h)

-- ---- kinds

-- a step that is its own kind
abbrev is_own : Step → Bool
is_own (Step.GroupBy ks T) = false
is_own (Step.Concat ps) = false
is_own (Step.Join outer n a T) = false
is_own (Step.TopBy t) = false
is_own (Step.Climb up h p T d keep) = false
is_own s = true

no-grouping : (x : Step) (ks : Keys) (T : OptPipe) → is_own x ≡ true → step_same x (Step.GroupBy ks T) ≡ false
no-grouping (Step.GroupBy ks' T') ks T f = cc
no-grouping x ks T f = refl

no-concat : (x : Step) (ps : Pipes) → is_own x ≡ true → step_same x (Step.Concat ps) ≡ false
no-concat (Step.Concat qs) ps f = cc
no-concat x ps f = refl

-- it is of the kind of those that it is the same as
pub own-kind : (x s : Step) → is_own x ≡ true → step_same x (kind_of s) ≡ step_same x s
own-kind x (Step.GroupBy ks T) f = no-grouping x Keys.NoKeys OptPipe.NoPipe f ∙ sym (no-grouping x ks T f)
own-kind x (Step.Concat ps) f = no-concat x Pipes.NoPipes f ∙ sym (no-concat x ps f)
own-kind x (Step.Join outer n a T) f = go x f
  where
    go : (x : Step) → is_own x ≡ true → step_same x (kind_of (Step.Join outer n a T)) ≡ step_same x (Step.Join outer n a T)
    go (Step.Join outer' n' a' T') f = cc
    go x f = refl
own-kind x (Step.TopBy t) f = go x f
  where
    go : (x : Step) → is_own x ≡ true → step_same x (kind_of (Step.TopBy t)) ≡ step_same x (Step.TopBy t)
    go (Step.TopBy t') f = cc
    go x f = refl
own-kind x (Step.Climb up h p T d keep) f = go x f
  where
    go : (x : Step) → is_own x ≡ true → step_same x (kind_of (Step.Climb up h p T d keep)) ≡ step_same x (Step.Climb up h p T d keep)
    go (Step.Climb up' h' p' T' d' keep') f = cc
    go x f = refl
own-kind x s f = refl
