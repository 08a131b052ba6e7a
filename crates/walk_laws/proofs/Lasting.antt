-- First steps but filters and `identity` whose kind stays.
use Rattle.std.proofs.Common.{◌≡◌, refl, sym, ◌∙◌, ap, Bool, true, false, not, ◌||◌, List, [], ◌∷◌, Option, Some, None, if◌then◌else◌}
use Rattle.std.specs.Prelude.{option_and_then}
use Rattle.std.proofs.lemmas.Bool.{true≢false}
use Rattle.edm_values.specs.Lists.{is_some_and}
use Rattle.edm_values.proofs.OptionFacts.{chained, none_or, some_and, then_some-parts}
use Rattle.apply_ast.specs.Trees.{Expr, Pipe, Pipes, Step}
use Rattle.rewrite_laws.proofs.RuleLemmas.{filters}
use Rattle.walk_laws.specs.Apart.{is_aggregate, is_loose, is_solid, kind_of, may_go, some_never}
use Rattle.walk_laws.specs.FiltersOut.{front_kind, front_of, lasting_kind, lasts, solid_kind, some_lasting}
use Rattle.walk_laws.proofs.ApartSteps.{solid-kind}

or_both : (a b c d : Bool) → (a ≡ true → c ≡ true) → (b ≡ true → d ≡ true) → (a || b) ≡ true → (c || d) ≡ true
or_both true b c d f g h = ap (λ z. z || d) (f refl)
or_both false b true d f g h = refl
or_both false b false d f g h = g h

-- steps come to others of which the first but filters and `identity` is of the same kind, where that stays
pub record Lasting (p q : Pipe) : Type 0 where
  pub ends : lasts p ≡ true → lasts q ≡ true
  pub kind : (k : Step) → lasts p ≡ true → front_kind p ≡ Some k → front_kind q ≡ Some k

pub record HasLasting (P : Step → Bool) (p : Pipe) : Type 0 where
  pub step : Step
  pub ends : lasts p ≡ true
  pub kind : front_kind p ≡ Some step
  pub holds : P step ≡ true

pub lasting-parts : (P : Step → Bool) (p : Pipe) → is_some_and P (lasting_kind p) ≡ true → HasLasting P p
lasting-parts P p h = go (lasts p) refl h
  where
    go : (b : Bool) → lasts p ≡ b → is_some_and P (if b then front_kind p else None) ≡ true → HasLasting P p
    go true e h = let t = some_and P (front_kind p) h in record { step = t.0; ends = e; kind = t.1; holds = t.2 }
    go false e h = absurd (true≢false (sym h))

pub lasting-back : (P : Step → Bool) (p : Pipe) → HasLasting P p → is_some_and P (lasting_kind p) ≡ true
lasting-back P p t = ap (λ z. is_some_and P (if z then front_kind p else None)) t.ends ∙ ap (is_some_and P) t.kind ∙ t.holds

-- such a step is neither dropped nor moved
kind-tight : (o : Option Step) (k : Step) → option_and_then solid_kind o ≡ Some k → is_loose k ≡ false
kind-tight o k h =
    let s = chained solid_kind o k h in
    let t = then_some-parts (is_solid s.0) (kind_of s.0) k s.2 in
    sym (ap is_loose t.1) ∙ solid-kind s.0 t.0

pub lasting-tight : (p : Pipe) (k : Step) → lasting_kind p ≡ Some k → is_loose k ≡ false
lasting-tight p k h = go (lasts p) h
  where
    go : (b : Bool) → (if b then front_kind p else None) ≡ Some k → is_loose k ≡ false
    go true h = kind-tight (front_of p) k h
    go false h = none_or k h

pub lasting-kept : (P : Step → Bool) (p q : Pipe) → Lasting p q → is_some_and P (lasting_kind p) ≡ true → is_some_and P (lasting_kind q) ≡ true
lasting-kept P p q l h = let t = lasting-parts P p h in lasting-back P q (record { step = t.step; ends = l.ends t.ends; kind = l.kind t.step t.ends t.kind; holds = t.holds })

-- among other branches
pub lasting-among : (ps a b : Pipes) → ((x : Step) → is_loose x ≡ false → some_never x a ≡ true → some_never x b ≡ true) → some_lasting a ps ≡ true → some_lasting b ps ≡ true
lasting-among Pipes.NoPipes a b f h = h
lasting-among (Pipes.MorePipes p ps) a b f h =
    or_both (is_some_and (λ x. some_never x a) (lasting_kind p)) (some_lasting a ps) (is_some_and (λ x. some_never x b) (lasting_kind p)) (some_lasting b ps)
    (λ h.
    let t = lasting-parts (λ x. some_never x a) p h in
    lasting-back (λ x. some_never x b) p (record { step = t.step; ends = t.ends; kind = t.kind; holds = f t.step (kind-tight (front_of p) t.step t.kind) t.holds }))
    (lasting-among ps a b f) h

-- ---- steps and filters

pub lasts-filters : (es : List Expr) (p : Pipe) → lasts (filters es p) ≡ lasts p
lasts-filters [] p = refl
lasts-filters (e ∷ es) p = lasts-filters es p

loose-goes : (s : Step) → is_loose s ≡ true → may_go s ≡ true
loose-goes (Step.OrderBy items) l = refl
loose-goes s l = l

-- a step more before them
pub lasting-behind : (s : Step) (p q : Pipe) → Lasting p q → Lasting (Pipe.Then s p) (Pipe.Then s q)
lasting-behind s p q l = record { ends = ends (may_go s); kind = λ k h g. kind (is_loose s) refl k h g }
  where
    ends : (b : Bool) → (if b then lasts p else not (is_aggregate s)) ≡ true → (if b then lasts q else not (is_aggregate s)) ≡ true
    ends true h = l.ends h
    ends false h = h

    kind : (b : Bool) → is_loose s ≡ b → (k : Step) → lasts (Pipe.Then s p) ≡ true → option_and_then solid_kind (if b then front_of p else Some s) ≡ Some k → option_and_then solid_kind (if b then front_of q else Some s) ≡ Some k
    kind true e k h g = l.kind k (sym (ap (λ z. if z then lasts p else not (is_aggregate s)) (loose-goes s e)) ∙ h) g
    kind false e k h g = g
