-- What keeps the branches of concatenations apart: with what steps may begin, and where no filter comes to the front.
use Rattle.std.proofs.Common.{◌≡◌, refl, sym, ◌∙◌, ap, Bool, true, false, not, ◌&&◌, ◌||◌, List, [], ◌∷◌, ◌++◌, map, if◌then◌else◌}
use Rattle.std.proofs.Math.Bool.{and-true, and_assoc}
use Rattle.std.proofs.lemmas.Bool.{and_from, and_parts, true≢false}
use Rattle.apply_ast.specs.Trees.{Expr, Key, Keys, OptPipe, Pipe, Pipes, Step, pipe, steps}
use Rattle.apply_ast.specs.Views.{pipes_from}
use Rattle.context_typing.proofs.WalkFacts.{pipe-steps}
use Rattle.edm_values.specs.Lists.{is_some_and}
use Rattle.rewrite_laws.specs.Rewrites.{branches, ended, ended_inner, ended_key, ended_keys, pipe_or_identity}
use Rattle.rewrite_laws.specs.TreeEquality.{step_same}
use Rattle.rewrite_laws.proofs.RuleLemmas.{filters}
use Rattle.walk_laws.specs.Apart.{begin_apart, branches_apart, first_of, inner_apart, is_apart_from, is_closed, is_end, is_firm, is_fixed, is_held, is_loose, is_solid, is_unlike, keeps_orders, key_apart, keys_apart, kind_of, kinds_apart, leads_to, may_go, never_begins, never_first, some_never, some_other, stays_apart, step_apart, first_kind}

or_either : (a b c d : Bool) → (a ≡ true → c ≡ true) → (b ≡ true → d ≡ true) → (a || b) ≡ true → (c || d) ≡ true
or_either true b c d f g h = ap (λ z. z || d) (f refl)
or_either false b true d f g h = refl
or_either false b false d f g h = g h

not-back : (b : Bool) → not b ≡ true → b ≡ false
not-back false h = refl
not-back true h = absurd (true≢false (sym h))

-- steps come to others that lead to the same, are closed where they are, begin with the same where that is for good, and stay apart
pub record KeptSteps (p q : Pipe) : Type 0 where
  pub leads : (x : Step) → is_firm x ≡ true → is_loose x ≡ false → leads_to x q ≡ leads_to x p
  pub closed : is_closed p ≡ true → is_closed q ≡ true
  pub first : is_fixed p ≡ true → (is_fixed q ≡ true) × (first_of q ≡ first_of p)
  pub apart : stays_apart p ≡ true → stays_apart q ≡ true
  pub never : (x : Step) → is_loose x ≡ false → never_first x p ≡ true → never_first x q ≡ true
  pub orders : is_closed p ≡ true → keeps_orders p ≡ true → keeps_orders q ≡ true
  pub held : is_held p ≡ true → (is_held q ≡ true) × (first_kind q ≡ first_kind p)

-- a step that has pipelines inside it comes to another
pub record KeptStep (s s' : Step) : Type 0 where
  pub leads : (x : Step) → is_firm x ≡ true → is_loose x ≡ false → (p : Pipe) → leads_to x (Pipe.Then s' p) ≡ leads_to x (Pipe.Then s p)
  pub closed : (p : Pipe) → is_closed (Pipe.Then s' p) ≡ is_closed (Pipe.Then s p)
  pub soft : is_firm s ≡ false
  pub apart : step_apart s ≡ true → step_apart s' ≡ true
  pub kind : kind_of s' ≡ kind_of s
  pub stays : may_go s' ≡ may_go s
  pub orders : (p : Pipe) → keeps_orders (Pipe.Then s' p) ≡ keeps_orders (Pipe.Then s p)
  pub held : (p : Pipe) → is_held (Pipe.Then s' p) ≡ is_held (Pipe.Then s p)

-- branches come to others
pub record KeptBranches (ps qs : Pipes) : Type 0 where
  pub others : (x : Step) → is_firm x ≡ true → some_other x ps ≡ true → some_other x qs ≡ true
  pub begin : (all : Pipes) → begin_apart all ps ≡ true → begin_apart all qs ≡ true
  pub apart : branches_apart ps ≡ true → branches_apart qs ≡ true
  pub never : (x : Step) → is_loose x ≡ false → some_never x ps ≡ true → some_never x qs ≡ true
  pub kinds : (all : Pipes) → kinds_apart all ps ≡ true → kinds_apart all qs ≡ true

-- ---- steps that are not firm

no-concat : (x : Step) (ps : Pipes) → is_firm x ≡ true → step_same x (Step.Concat ps) ≡ false
no-concat (Step.Concat qs) ps f = cc
no-concat x ps f = refl

no-grouping : (x : Step) (ks : Keys) (T : OptPipe) → is_firm x ≡ true → step_same x (Step.GroupBy ks T) ≡ false
no-grouping (Step.GroupBy ks' T') ks T f = cc
no-grouping x ks T f = refl

pub concat-leads : (x : Step) (ps qs : Pipes) → is_firm x ≡ true → (p q : Pipe) → leads_to x (Pipe.Then (Step.Concat qs) q) ≡ leads_to x (Pipe.Then (Step.Concat ps) p)
concat-leads x ps qs f p q = no-concat x qs f ∙ sym (no-concat x ps f)

pub grouping-leads : (x : Step) (ks ks' : Keys) (T T' : OptPipe) → is_firm x ≡ true → (p q : Pipe) → leads_to x (Pipe.Then (Step.GroupBy ks' T') q) ≡ leads_to x (Pipe.Then (Step.GroupBy ks T) p)
grouping-leads x ks ks' T T' f p q = no-grouping x ks' T' f ∙ sym (no-grouping x ks T f)

-- ---- steps behind a step

pub leads-behind : (x s : Step) (p q : Pipe) → leads_to x q ≡ leads_to x p → leads_to x (Pipe.Then s q) ≡ leads_to x (Pipe.Then s p)
leads-behind x s p q e = ap (λ z. if may_go s then z else step_same x s) e

pub closed-behind : (s : Step) (p q : Pipe) → (is_closed p ≡ true → is_closed q ≡ true) → is_closed (Pipe.Then s p) ≡ true → is_closed (Pipe.Then s q) ≡ true
closed-behind s p q f h = or_either (is_end s) (not (is_loose s) && is_closed p) (is_end s) (not (is_loose s) && is_closed q) (λ h. h)
    (λ h. let t = and_parts (not (is_loose s)) (is_closed p) h in and_from (not (is_loose s)) (is_closed q) t.0 (f t.1)) h

-- the first step stays where what is behind is closed as before
pub first-behind : (s : Step) (p q : Pipe) → (is_closed p ≡ true → is_closed q ≡ true) → is_fixed (Pipe.Then s p) ≡ true → (is_fixed (Pipe.Then s q) ≡ true) × (first_of (Pipe.Then s q) ≡ first_of (Pipe.Then s p))
first-behind s p q f h =
    let t = and_parts (is_firm s) (is_loose s || is_closed (Pipe.Then s p)) h in (
      and_from (is_firm s) (is_loose s || is_closed (Pipe.Then s q)) t.0
          (or_either (is_loose s) (is_closed (Pipe.Then s p)) (is_loose s) (is_closed (Pipe.Then s q)) (λ h. h) (closed-behind s p q f) t.1),
      refl,
    )

pub leads-filters : (x : Step) (es : List Expr) (p : Pipe) → leads_to x (filters es p) ≡ leads_to x p
leads-filters x [] p = refl
leads-filters x (e ∷ es) p = leads-filters x es p

-- a step that filters may pass, before a filter
pub open-filters : (x : Step) → ((p : Pipe) → is_closed (Pipe.Then x p) ≡ is_closed p) → (es : List Expr) (b : Expr) (p : Pipe) → is_closed (Pipe.Then x (filters es (Pipe.Then (Step.Filter b) p))) ≡ false
open-filters x o [] b p = o (Pipe.Then (Step.Filter b) p)
open-filters x o (e ∷ es) b p = o (filters (e ∷ es) (Pipe.Then (Step.Filter b) p))

-- the first step does not stay where it is not firm
pub soft-first : (s : Step) (p : Pipe) → is_firm s ≡ false → is_fixed (Pipe.Then s p) ≡ true → ⊥
soft-first s p e h = true≢false (sym (and_parts (is_firm s) (is_loose s || is_closed (Pipe.Then s p)) h).0 ∙ e)

-- nor where a filter passes it
pub open-first : (s : Step) (p : Pipe) → is_loose s ≡ false → is_closed (Pipe.Then s p) ≡ false → is_fixed (Pipe.Then s p) ≡ true → ⊥
open-first s p l e h =
    let t = and_parts (is_firm s) (is_loose s || is_closed (Pipe.Then s p)) h in
    true≢false (sym t.1 ∙ (λ i. l i || e i))

-- ---- kinds of first steps

no-filter : (x : Step) (e : Expr) → is_loose x ≡ false → step_same x (Step.Filter e) ≡ false
no-filter (Step.Filter e') e l = cc
no-filter x e l = refl

no-identity : (x : Step) → is_loose x ≡ false → step_same x Step.Identity ≡ false
no-identity Step.Identity l = cc
no-identity x l = refl

pub never-filter : (x : Step) (e : Expr) (p : Pipe) → is_loose x ≡ false → never_first x (Pipe.Then (Step.Filter e) p) ≡ never_first x p
never-filter x e p l = ap (λ z. not z && never_first x p) (no-filter x e l)

pub never-identity : (x : Step) (p : Pipe) → is_loose x ≡ false → never_first x (Pipe.Then Step.Identity p) ≡ never_first x p
never-identity x p l = ap (λ z. not z && never_first x p) (no-identity x l)

pub never-filters : (x : Step) (es : List Expr) (p : Pipe) → is_loose x ≡ false → never_first x (filters es p) ≡ never_first x p
never-filters x [] p l = refl
never-filters x (e ∷ es) p l = never-filter x e (filters es p) l ∙ never-filters x es p l

-- a step that is not dropped
pub never-stays : (x s : Step) (p : Pipe) → may_go s ≡ false → never_first x (Pipe.Then s p) ≡ not (step_same x (kind_of s))
never-stays x s p e = ap (λ z. not (step_same x (kind_of s)) && (not z || never_first x p)) e ∙ and-true (not (step_same x (kind_of s)))

pub never-behind : (x s : Step) (p q : Pipe) → (never_first x p ≡ true → never_first x q ≡ true) → never_first x (Pipe.Then s p) ≡ true → never_first x (Pipe.Then s q) ≡ true
never-behind x s p q f h =
    let t = and_parts (not (step_same x (kind_of s))) (not (may_go s) || never_first x p) h in
    and_from (not (step_same x (kind_of s))) (not (may_go s) || never_first x q) t.0 (or_either (not (may_go s)) (never_first x p) (not (may_go s)) (never_first x q) (λ h. h) f t.1)

pub orders-behind : (s : Step) (p q : Pipe) → (is_closed p ≡ true → keeps_orders p ≡ true → keeps_orders q ≡ true) → is_closed (Pipe.Then s p) ≡ true → keeps_orders (Pipe.Then s p) ≡ true → keeps_orders (Pipe.Then s q) ≡ true
orders-behind (Step.OrderBy items) p q f c h = f c h
orders-behind s p q f c h = h

pub held-closed : (s : Step) (p : Pipe) → is_held (Pipe.Then s p) ≡ true → is_closed (Pipe.Then s p) ≡ true
held-closed s p h = (and_parts (is_solid s) (is_closed (Pipe.Then s p)) (and_parts (is_solid s && is_closed (Pipe.Then s p)) (keeps_orders (Pipe.Then s p)) h).0).1

held-solid : (s : Step) (p : Pipe) → is_held (Pipe.Then s p) ≡ true → is_solid s ≡ true
held-solid s p h = (and_parts (is_solid s) (is_closed (Pipe.Then s p)) (and_parts (is_solid s && is_closed (Pipe.Then s p)) (keeps_orders (Pipe.Then s p)) h).0).0

-- the first step keeps its kind where what is behind is closed as before, and drops no order
pub held-behind : (s : Step) (p q : Pipe) → (is_closed p ≡ true → is_closed q ≡ true) → (is_closed p ≡ true → keeps_orders p ≡ true → keeps_orders q ≡ true) → is_held (Pipe.Then s p) ≡ true → is_held (Pipe.Then s q) ≡ true
held-behind s p q f g h =
    let t = and_parts (is_solid s && is_closed (Pipe.Then s p)) (keeps_orders (Pipe.Then s p)) h in
    let u = and_parts (is_solid s) (is_closed (Pipe.Then s p)) t.0 in
    and_from (is_solid s && is_closed (Pipe.Then s q)) (keeps_orders (Pipe.Then s q)) (and_from (is_solid s) (is_closed (Pipe.Then s q)) u.0 (closed-behind s p q f u.1)) (orders-behind s p q g u.1 t.1)

pub solid-kind : (s : Step) → is_solid s ≡ true → is_loose (kind_of s) ≡ false
solid-kind Step.Identity h = cc
solid-kind (Step.Filter e) h = cc
solid-kind s h = refl

-- ---- steps one after the other

pub apart-filters : (es : List Expr) (p : Pipe) → stays_apart (filters es p) ≡ stays_apart p
apart-filters [] p = refl
apart-filters (e ∷ es) p = apart-filters es p

pub apart-appended : (ss ts : List Step) → stays_apart (pipe (ss ++ ts)) ≡ (stays_apart (pipe ss) && stays_apart (pipe ts))
apart-appended [] ts = refl
apart-appended (s ∷ ss) ts = ap (λ z. step_apart s && z) (apart-appended ss ts) ∙ sym (and_assoc (step_apart s) (stays_apart (pipe ss)) (stays_apart (pipe ts)))

pub apart-ended : (p : Pipe) (e : Expr) → stays_apart (ended p (Step.Filter e)) ≡ stays_apart p
apart-ended p e = apart-appended (steps p) (Step.Filter e ∷ []) ∙ and-true (stays_apart (pipe (steps p))) ∙ ap stays_apart (pipe-steps p)

pub apart-ended_inner : (T : OptPipe) (e : Expr) → inner_apart (ended_inner T (Step.Filter e)) ≡ inner_apart T
apart-ended_inner OptPipe.NoPipe e = refl
apart-ended_inner (OptPipe.SomePipe p) e = apart-ended p e

apart-ended_key : (k : Key) (e : Expr) → key_apart (ended_key (Step.Filter e) k) ≡ key_apart k
apart-ended_key (Key.Plain p) e = refl
apart-ended_key (Key.Rollup all ps) e = refl
apart-ended_key (Key.Recursive h p T) e = apart-ended_inner T e

pub apart-ended_keys : (ks : Keys) (e : Expr) → keys_apart (ended_keys (Step.Filter e) ks) ≡ keys_apart ks
apart-ended_keys Keys.NoKeys e = refl
apart-ended_keys (Keys.MoreKeys k ks) e = λ i. apart-ended_key k e i && apart-ended_keys ks e i

pub apart-identity : (ss : List Step) → stays_apart (pipe_or_identity ss) ≡ stays_apart (pipe ss)
apart-identity [] = refl
apart-identity (s ∷ ss) = refl

-- ---- branches with one more filter at the end

leads-ended : (x : Step) (p : Pipe) (e : Expr) → leads_to x (ended p (Step.Filter e)) ≡ leads_to x p
leads-ended x Pipe.End e = refl
leads-ended x (Pipe.Then s p) e = leads-behind x s p (ended p (Step.Filter e)) (leads-ended x p e)

closed-ended : (p : Pipe) (e : Expr) → is_closed p ≡ true → is_closed (ended p (Step.Filter e)) ≡ true
closed-ended Pipe.End e h = cc
closed-ended (Pipe.Then s p) e h = closed-behind s p (ended p (Step.Filter e)) (closed-ended p e) h

first-ended : (p : Pipe) (e : Expr) → is_fixed p ≡ true → (is_fixed (ended p (Step.Filter e)) ≡ true) × (first_of (ended p (Step.Filter e)) ≡ first_of p)
first-ended Pipe.End e h = cc
first-ended (Pipe.Then s p) e h = first-behind s p (ended p (Step.Filter e)) (closed-ended p e) h

never-ended : (x : Step) (p : Pipe) (e : Expr) → is_loose x ≡ false → never_first x (ended p (Step.Filter e)) ≡ never_first x p
never-ended x Pipe.End e l = never-filter x e Pipe.End l
never-ended x (Pipe.Then s p) e l = ap (λ z. not (step_same x (kind_of s)) && (not (may_go s) || z)) (never-ended x p e l)

orders-ended : (p : Pipe) (e : Expr) → is_closed p ≡ true → keeps_orders p ≡ true → keeps_orders (ended p (Step.Filter e)) ≡ true
orders-ended Pipe.End e c h = cc
orders-ended (Pipe.Then s p) e c h = orders-behind s p (ended p (Step.Filter e)) (orders-ended p e) c h

held-ended : (p : Pipe) (e : Expr) → is_held p ≡ true → (is_held (ended p (Step.Filter e)) ≡ true) × (first_kind (ended p (Step.Filter e)) ≡ first_kind p)
held-ended Pipe.End e h = cc
held-ended (Pipe.Then s p) e h = (held-behind s p (ended p (Step.Filter e)) (closed-ended p e) (orders-ended p e) h, refl)

ended-steps : (p : Pipe) (e : Expr) → KeptSteps p (ended p (Step.Filter e))
ended-steps p e = record {
  never = λ x l h. never-ended x p e l ∙ h;
  orders = orders-ended p e;
  held = held-ended p e;
  leads = λ x f l. leads-ended x p e;
  closed = closed-ended p e;
  first = first-ended p e;
  apart = λ h. apart-ended p e ∙ h;
}

-- ---- branches that come to others

-- what never begins a branch never begins what it comes to
never-kept : (x : Step) (p q : Pipe) → is_firm x ≡ true → KeptSteps p q → never_begins x p ≡ true → never_begins x q ≡ true
never-kept x p q f k h =
    or_either (is_fixed p && not (is_some_and (step_same x) (first_of p))) (not (is_loose x) && not (leads_to x p)) _ _
    (λ h.
    let t = and_parts (is_fixed p) (not (is_some_and (step_same x) (first_of p))) h in
    let u = k.first t.0 in
    and_from (is_fixed q) (not (is_some_and (step_same x) (first_of q))) u.0 (ap (λ o. not (is_some_and (step_same x) o)) u.1 ∙ t.1))
    (λ h.
    let t = and_parts (not (is_loose x)) (not (leads_to x p)) h in
    and_from (not (is_loose x)) (not (leads_to x q)) t.0 (ap not (k.leads x f (not-back (is_loose x) t.0)) ∙ t.1))
    h

from-kept : (all : Pipes) (p q : Pipe) → KeptSteps p q → is_apart_from all p ≡ true → is_apart_from all q ≡ true
from-kept all p q k h =
    let t = and_parts (is_fixed p) (is_some_and (λ x. some_other x all) (first_of p)) h in
    let u = k.first t.0 in
    and_from (is_fixed q) (is_some_and (λ x. some_other x all) (first_of q)) u.0 (ap (is_some_and (λ x. some_other x all)) u.1 ∙ t.1)

unlike-kept : (all : Pipes) (p q : Pipe) → KeptSteps p q → is_unlike all p ≡ true → is_unlike all q ≡ true
unlike-kept all p q k h =
    let t = and_parts (is_held p) (is_some_and (λ x. some_never x all) (first_kind p)) h in
    let u = k.held t.0 in
    and_from (is_held q) (is_some_and (λ x. some_never x all) (first_kind q)) u.0 (ap (is_some_and (λ x. some_never x all)) u.1 ∙ t.1)

-- among other branches
kinds-among : (ps a b : Pipes) → ((x : Step) → is_loose x ≡ false → some_never x a ≡ true → some_never x b ≡ true) → kinds_apart a ps ≡ true → kinds_apart b ps ≡ true
kinds-among Pipes.NoPipes a b f h = h
kinds-among (Pipes.MorePipes p ps) a b f h = or_either (is_unlike a p) (kinds_apart a ps) (is_unlike b p) (kinds_apart b ps) (go p) (kinds-among ps a b f) h
  where
    go : (p : Pipe) → is_unlike a p ≡ true → is_unlike b p ≡ true
    go Pipe.End h = h
    go (Pipe.Then s q) h =
        let t = and_parts (is_held (Pipe.Then s q)) (some_never (kind_of s) a) h in
        and_from (is_held (Pipe.Then s q)) (some_never (kind_of s) b) t.0 (f (kind_of s) (solid-kind s (held-solid s q t.0)) t.1)

pub begin-among : (ps : Pipes) (a b : Pipes) → ((x : Step) → is_firm x ≡ true → some_other x a ≡ true → some_other x b ≡ true) → begin_apart a ps ≡ true → begin_apart b ps ≡ true
begin-among Pipes.NoPipes a b f h = h
begin-among (Pipes.MorePipes p ps) a b f h = or_either (is_apart_from a p) (begin_apart a ps) (is_apart_from b p) (begin_apart b ps) (go p) (begin-among ps a b f) h
  where
    go : (p : Pipe) → is_apart_from a p ≡ true → is_apart_from b p ≡ true
    go Pipe.End h = h
    go (Pipe.Then s q) h =
        let t = and_parts (is_fixed (Pipe.Then s q)) (some_other s a) h in
        and_from (is_fixed (Pipe.Then s q)) (some_other s b) t.0 (f s (and_parts (is_firm s) (is_loose s || is_closed (Pipe.Then s q)) t.0).0 t.1)

pub concat-apart : (ps qs : Pipes) → KeptBranches ps qs → step_apart (Step.Concat ps) ≡ true → step_apart (Step.Concat qs) ≡ true
concat-apart ps qs k h =
    let t = and_parts (begin_apart ps ps || kinds_apart ps ps) (branches_apart ps) h in
    and_from (begin_apart qs qs || kinds_apart qs qs) (branches_apart qs)
    (or_either (begin_apart ps ps) (kinds_apart ps ps) (begin_apart qs qs) (kinds_apart qs qs) (λ h. begin-among qs ps qs k.others (k.begin ps h)) (λ h. kinds-among qs ps qs k.never (k.kinds ps h)) t.0) (k.apart t.1)

-- one branch comes to another
pub branch-kept : (p q : Pipe) (ps : Pipes) → KeptSteps p q → KeptBranches (Pipes.MorePipes p ps) (Pipes.MorePipes q ps)
branch-kept p q ps k = record {
  others = λ x f. or_either (never_begins x p) (some_other x ps) (never_begins x q) (some_other x ps) (never-kept x p q f k) (λ h. h);
  begin = λ all. or_either (is_apart_from all p) (begin_apart all ps) (is_apart_from all q) (begin_apart all ps) (from-kept all p q k) (λ h. h);
  apart = λ h. let t = and_parts (stays_apart p) (branches_apart ps) h in and_from (stays_apart q) (branches_apart ps) (k.apart t.0) t.1;
  never = λ x l. or_either (never_first x p) (some_never x ps) (never_first x q) (some_never x ps) (k.never x l) (λ h. h);
  kinds = λ all. or_either (is_unlike all p) (kinds_apart all ps) (is_unlike all q) (kinds_apart all ps) (unlike-kept all p q k) (λ h. h);
}

-- branches behind one
pub branches-kept : (p : Pipe) (ps qs : Pipes) → KeptBranches ps qs → KeptBranches (Pipes.MorePipes p ps) (Pipes.MorePipes p qs)
branches-kept p ps qs k = record {
  others = λ x f. or_either (never_begins x p) (some_other x ps) (never_begins x p) (some_other x qs) (λ h. h) (k.others x f);
  begin = λ all. or_either (is_apart_from all p) (begin_apart all ps) (is_apart_from all p) (begin_apart all qs) (λ h. h) (k.begin all);
  apart = λ h. let t = and_parts (stays_apart p) (branches_apart ps) h in and_from (stays_apart p) (branches_apart qs) t.0 (k.apart t.1);
  never = λ x l. or_either (never_first x p) (some_never x ps) (never_first x p) (some_never x qs) (λ h. h) (k.never x l);
  kinds = λ all. or_either (is_unlike all p) (kinds_apart all ps) (is_unlike all p) (kinds_apart all qs) (λ h. h) (k.kinds all);
}

-- all branches with one more filter at the end
pub ended-kept : (ps : Pipes) (e : Expr) → KeptBranches ps (pipes_from (map (λ p. ended p (Step.Filter e)) (branches ps)))
ended-kept Pipes.NoPipes e = record { others = λ x f h. h; begin = λ all h. h; apart = λ h. h; never = λ x l h. h; kinds = λ all h. h }
ended-kept (Pipes.MorePipes p ps) e =
    let k = ended-steps p e in
    let ks = ended-kept ps e in
    let q = ended p (Step.Filter e) in
    let qs = pipes_from (map (λ p. ended p (Step.Filter e)) (branches ps)) in
    record {
      others = λ x f. or_either (never_begins x p) (some_other x ps) (never_begins x q) (some_other x qs) (never-kept x p q f k) (ks.others x f);
      begin = λ all. or_either (is_apart_from all p) (begin_apart all ps) (is_apart_from all q) (begin_apart all qs) (from-kept all p q k) (ks.begin all);
      apart = λ h. let t = and_parts (stays_apart p) (branches_apart ps) h in and_from (stays_apart q) (branches_apart qs) (k.apart t.0) (ks.apart t.1);
      never = λ x l. or_either (never_first x p) (some_never x ps) (never_first x q) (some_never x qs) (k.never x l) (ks.never x l);
      kinds = λ all. or_either (is_unlike all p) (kinds_apart all ps) (is_unlike all q) (kinds_apart all qs) (unlike-kept all p q k) (ks.kinds all);
    }
