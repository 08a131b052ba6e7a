-- What a rule makes of a typed pipeline, at whatever place, keeps the branches of concatenations apart, where what it makes at its place does; and the ninth rule makes nothing of branches that stay apart.
use Rattle.std.proofs.Common.{◌≡◌, refl, sym, ◌∙◌, ap, ℕ, Bool, true, false, not, ◌&&◌, ◌||◌, List, [], ◌∷◌, ◌++◌, Option, Some, None, IsTrue, map}
use Rattle.std.specs.Prelude.{option_and_then, option_to_list, slice_get}
use Rattle.std.specs.Bool.{then_some}
use Rattle.std.proofs.lemmas.Bool.{and_from, and_parts, true≢false}
use Rattle.edm_values.specs.Lists.{is_some_and}
use Rattle.edm_values.specs.Names.{Name, Path}
use Rattle.edm_values.proofs.EachLemmas.{Each}
use Rattle.edm_model.specs.LookUps.{HierarchyPlace}
use Rattle.edm_model.specs.Models.{Model, Navigation}
use Rattle.apply_ast.specs.Trees.{HierName, Key, Keys, OptPipe, Pipe, Pipes, Step, is_long, pipe, steps}
use Rattle.context_typing.specs.Shapes.{Shape, set_shape}
use Rattle.context_typing.specs.Typing.{Customs, after, customs_typed, hierarchy_at, is_lawful, join_navigation, steps_shape}
use Rattle.context_typing.specs.TypingLaws.{TypingKeepsLawful}
use Rattle.rewrite_laws.specs.Rewrites.{Rule, branch_results, branches, concat, factor_branches, inner_results, is_identity, key_results, keys_results, pipe_results, step_results}
use Rattle.rewrite_laws.specs.RewriteLaws.{KeepsOutcomeInPlace}
use Rattle.rewrite_laws.specs.TreeEquality.{step_same}
use Rattle.rewrite_laws.proofs.EachPlace.{Respected, pipe_each}
use Rattle.rewrite_laws.proofs.FactorRule.{begins-with}
use Rattle.rewrite_laws.proofs.SameTrees.{Begin, rest}
use Rattle.walk_laws.specs.Apart.{begin_apart, branches_apart, inner_apart, is_apart_from, is_closed, is_firm, is_fixed, is_held, is_loose, is_unlike, key_apart, keys_apart, kind_of, kinds_apart, leads_to, may_go, never_begins, never_first, some_never, some_other, stays_apart, step_apart}
use Rattle.walk_laws.proofs.ApartRules.{KeepsApart}
use Rattle.walk_laws.proofs.ApartSteps.{KeptBranches, KeptStep, KeptSteps, branch-kept, branches-kept, closed-behind, concat-apart, concat-leads, first-behind, grouping-leads, held-behind, leads-behind, never-behind, orders-behind, soft-first}
use Rattle.walk_laws.proofs.SameItself.{step-self}
use Rattle.walk_laws.proofs.WalkPassing.{and-none}

-- ---- what a rule makes at any place

abbrev KeptInner : OptPipe → OptPipe → Type 0
KeptInner T T' = inner_apart T ≡ true → inner_apart T' ≡ true

abbrev KeptKey : Key → Key → Type 0
KeptKey k k' = key_apart k ≡ true → key_apart k' ≡ true

abbrev KeptKeys : Keys → Keys → Type 0
KeptKeys ks ks' = keys_apart ks ≡ true → keys_apart ks' ≡ true

with_step : (s s' : Step) (p : Pipe) → KeptStep s s' → KeptSteps (Pipe.Then s p) (Pipe.Then s' p)
with_step s s' p k = record {
  leads = λ x f l. k.leads x f l p;
  closed = λ h. k.closed p ∙ h;
  first = λ h. absurd (soft-first s p k.soft h);
  never = λ x l h. (λ i. not (step_same x (k.kind i)) && (not (k.stays i) || never_first x p)) ∙ h;
  orders = λ c h. k.orders p ∙ h;
  held = λ h. (k.held p ∙ h, ap (λ x. Some x) k.kind);
  apart = λ h. let t = and_parts (step_apart s) (stays_apart p) h in and_from (step_apart s') (stays_apart p) (k.apart t.0) t.1;
}

with_rest : (s : Step) (p q : Pipe) → KeptSteps p q → KeptSteps (Pipe.Then s p) (Pipe.Then s q)
with_rest s p q k = record {
  leads = λ x f l. leads-behind x s p q (k.leads x f l);
  closed = closed-behind s p q k.closed;
  first = first-behind s p q k.closed;
  never = λ x l. never-behind x s p q (k.never x l);
  orders = orders-behind s p q k.orders;
  held = λ h. (held-behind s p q k.closed k.orders h, refl);
  apart = λ h. let t = and_parts (step_apart s) (stays_apart p) h in and_from (step_apart s) (stays_apart q) t.0 (k.apart t.1);
}

with_group_keys : (ks ks' : Keys) (T : OptPipe) → KeptKeys ks ks' → KeptStep (Step.GroupBy ks T) (Step.GroupBy ks' T)
with_group_keys ks ks' T k = record {
  leads = λ x f l p. grouping-leads x ks ks' T T f p p;
  closed = λ p. refl;
  soft = refl;
  kind = refl;
  stays = refl;
  orders = λ p. refl;
  held = λ p. refl;
  apart = λ h. let t = and_parts (keys_apart ks) (inner_apart T) h in and_from (keys_apart ks') (inner_apart T) (k t.0) t.1;
}

with_group_inner : (ks : Keys) (T T' : OptPipe) → KeptInner T T' → KeptStep (Step.GroupBy ks T) (Step.GroupBy ks T')
with_group_inner ks T T' k = record {
  leads = λ x f l p. grouping-leads x ks ks T T' f p p;
  closed = λ p. refl;
  soft = refl;
  kind = refl;
  stays = refl;
  orders = λ p. refl;
  held = λ p. refl;
  apart = λ h. let t = and_parts (keys_apart ks) (inner_apart T) h in and_from (keys_apart ks) (inner_apart T') t.0 (k t.1);
}

with_branches : (ps qs : Pipes) → KeptBranches ps qs → KeptStep (Step.Concat ps) (Step.Concat qs)
with_branches ps qs k = record {
  leads = λ x f l p. concat-leads x ps qs f p p;
  closed = λ p. refl;
  soft = refl;
  kind = refl;
  stays = refl;
  orders = λ p. refl;
  held = λ p. refl;
  apart = concat-apart ps qs k;
}

pub join-leads : (x : Step) (outer : Bool) (n a : Name) (T T' : OptPipe) (p : Pipe) → is_firm x ≡ true → leads_to x (Pipe.Then (Step.Join outer n a T') p) ≡ leads_to x (Pipe.Then (Step.Join outer n a T) p)
join-leads (Step.Join o n' a' U) outer n a T T' p f = cc
join-leads x outer n a T T' p f = refl

with_join : (outer : Bool) (n a : Name) (T T' : OptPipe) → KeptInner T T' → KeptStep (Step.Join outer n a T) (Step.Join outer n a T')
with_join outer n a T T' k = record { leads = λ x f l p. join-leads x outer n a T T' p f; closed = λ p. refl; soft = refl; apart = k; kind = refl; stays = refl; orders = λ p. refl; held = λ p. refl }

pub climb-leads : (x : Step) (up : Bool) (h : HierName) (p : Path) (T T' : Pipe) (d : Option ℕ) (keep : Bool) (q : Pipe) → is_firm x ≡ true → leads_to x (Pipe.Then (Step.Climb up h p T' d keep) q) ≡ leads_to x (Pipe.Then (Step.Climb up h p T d keep) q)
climb-leads (Step.Climb up' h' p' U d' keep') up h p T T' d keep q f = cc
climb-leads x up h p T T' d keep q f = refl

with_climb : (up : Bool) (h : HierName) (p : Path) (T T' : Pipe) (d : Option ℕ) (keep : Bool) → KeptSteps T T' → KeptStep (Step.Climb up h p T d keep) (Step.Climb up h p T' d keep)
with_climb up h p T T' d keep k = record { leads = λ x f l q. climb-leads x up h p T T' d keep q f; closed = λ q. refl; soft = refl; apart = k.apart; kind = refl; stays = refl; orders = λ q. refl; held = λ q. refl }

with_key : (k k' : Key) (ks : Keys) → KeptKey k k' → KeptKeys (Keys.MoreKeys k ks) (Keys.MoreKeys k' ks)
with_key k k' ks f h = let t = and_parts (key_apart k) (keys_apart ks) h in and_from (key_apart k') (keys_apart ks) (f t.0) t.1

with_keys : (k : Key) (ks ks' : Keys) → KeptKeys ks ks' → KeptKeys (Keys.MoreKeys k ks) (Keys.MoreKeys k ks')
with_keys k ks ks' f h = let t = and_parts (key_apart k) (keys_apart ks) h in and_from (key_apart k) (keys_apart ks') t.0 (f t.1)

module _ (m : Model) (c : Customs) where
  pub kept-respected : Respected m c (λ S. KeptSteps) (λ S. KeptStep) (λ S. KeptInner) (λ S. KeptBranches) KeptKey KeptKeys
  kept-respected = record {
    with_step = λ S s s' p k. with_step s s' p k;
    with_rest = λ S S' s p q law e k. with_rest s p q k;
    with_inner = λ S p q l l' k. k.apart;
    with_branch = λ S p q ps l l' k. branch-kept p q ps k;
    with_other_branches = λ S p ps qs k. branches-kept p ps qs k;
    with_group_keys = λ S ks ks' T k. with_group_keys ks ks' T k;
    with_group_inner = λ S ks T T' k. with_group_inner ks T T' k;
    with_branches = λ S ps qs k. with_branches ps qs k;
    with_join = λ S outer n a v T T' e k. with_join outer n a T T' k;
    with_climb = λ S up h p T T' d keep l l' k. with_climb up h p T T' d keep k;
    with_recursive = λ h f p T T' e k. k;
    with_key = with_key;
    with_keys = with_keys;
  }

  -- what a rule makes of a typed pipeline keeps apart
  pub apart_anywhere : TypingKeepsLawful (λ m. Unit {0}) → (r : Rule) → KeepsOutcomeInPlace r → KeepsApart m c r → (S S' : Shape) (before : Bool) (p : Pipe) → IsTrue (customs_typed m c) → IsTrue (is_lawful m S) → steps_shape m c S p ≡ Some S'
      → Each (λ q. IsTrue (before || is_long q) × KeptSteps p q) (pipe_results r m c S before p)
  unfolding steps_shape
  apart_anywhere L r K A S S' before p k law e =
      pipe_each m c (λ S. KeptSteps) (λ S. KeptStep) (λ S. KeptInner) (λ S. KeptBranches) KeptKey KeptKeys kept-respected r
      (λ S S' before s ss ss' l e o. ((K m c S S' before s ss ss' k l e o).0, A S before s ss ss' o))
      (λ S S' s l e. L m c S S' (Pipe.Then s Pipe.End) tt l (refl, ap (option_and_then (λ (U : Shape). Some U)) e))
      p S S' before law e

-- ---- what the ninth rule makes

-- steps come to begin with a firm step with which they begin
begun : (x : Step) (p q : Pipe) → is_firm x ≡ true → p ≡ Pipe.Then x q → never_begins x p ≡ false
begun x p q f e = ap (never_begins x) e ∙ (λ i. (is_fixed (Pipe.Then x q) && not (step-self x i)) || (not (is_loose x) && not (leads_to x (Pipe.Then x q)))) ∙ go x f (is_fixed (Pipe.Then x q))
  where
    go : (x : Step) → is_firm x ≡ true → (b : Bool) → ((b && false) || (not (is_loose x) && not (leads_to x (Pipe.Then x q)))) ≡ false
    go Step.Identity f b = cc
    go (Step.Filter e) f true = refl
    go (Step.Filter e) f false = refl
    go (Step.OrderBy items) f b = cc
    go x f true = ap not (step-self x)
    go x f false = ap not (step-self x)

no-other : (x : Step) (ps : Pipes) → is_firm x ≡ true → Begin x ps ≡ true → some_other x ps ≡ false
no-other x Pipes.NoPipes f h = refl
no-other x (Pipes.MorePipes p ps) f h =
    let t = and_parts (is_some_and (step_same x) (slice_get (steps p) 0)) _ h in
    let q = begins-with x p t.0 in
    λ i. begun x p q.0 f q.1 i || no-other x ps f t.1 i

none-apart : (x : Step) (ps all : Pipes) → Begin x ps ≡ true → Begin x all ≡ true → begin_apart all ps ≡ false
none-apart x Pipes.NoPipes all h k = refl
none-apart x (Pipes.MorePipes p ps) all h k =
    let t = and_parts (is_some_and (step_same x) (slice_get (steps p) 0)) _ h in
    let q = begins-with x p t.0 in
    λ i. (ap (is_apart_from all) q.1 ∙ go (is_firm x) refl q.0) i || none-apart x ps all t.1 k i
  where
    go : (b : Bool) → is_firm x ≡ b → (q : Pipe) → is_apart_from all (Pipe.Then x q) ≡ false
    go false e q = ap (λ z. (z && (is_loose x || is_closed (Pipe.Then x q))) && some_other x all) e
    go true e q = ap (λ z. is_fixed (Pipe.Then x q) && z) (no-other x all e k) ∙ and-none (is_fixed (Pipe.Then x q)) false refl

pub none-never : (x : Step) (ps : Pipes) → Begin x ps ≡ true → some_never (kind_of x) ps ≡ false
none-never x Pipes.NoPipes h = refl
none-never x (Pipes.MorePipes p ps) h =
    let t = and_parts (is_some_and (step_same x) (slice_get (steps p) 0)) _ h in
    let q = begins-with x p t.0 in
    λ i. (ap (never_first (kind_of x)) q.1 ∙ ap (λ z. not z && (not (may_go x) || never_first (kind_of x) q.0)) (step-self (kind_of x))) i || none-never x ps t.1 i

none-kinds : (x : Step) (ps all : Pipes) → Begin x ps ≡ true → Begin x all ≡ true → kinds_apart all ps ≡ false
none-kinds x Pipes.NoPipes all h k = refl
none-kinds x (Pipes.MorePipes p ps) all h k =
    let t = and_parts (is_some_and (step_same x) (slice_get (steps p) 0)) _ h in
    let q = begins-with x p t.0 in
    λ i. (ap (is_unlike all) q.1 ∙ ap (λ z. is_held (Pipe.Then x q.0) && z) (none-never x all k) ∙ and-none (is_held (Pipe.Then x q.0)) false refl) i || none-kinds x ps all t.1 k i

module _ (m : Model) (c : Customs) where
  pub factor-none : (S : Shape) (before : Bool) (s : Step) (ss : List Step) → step_apart s ≡ true → factor_branches m c S before s ss ≡ None
  factor-none S before (Step.Concat Pipes.NoPipes) ss h = refl
  factor-none S before (Step.Concat (Pipes.MorePipes Pipe.End ps)) ss h = refl
  factor-none S before (Step.Concat (Pipes.MorePipes (Pipe.Then x q) ps)) ss h =
      let qs = Pipes.MorePipes (Pipe.Then x q) ps in
      let t = and_parts (begin_apart qs qs || kinds_apart qs qs) (branches_apart qs) h in
      let apart : Begin x qs ≡ false = no-true (Begin x qs) (λ k. true≢false (sym t.0 ∙ (λ i. none-apart x qs qs k k i || none-kinds x qs qs k k i))) in
      ap (λ z. then_some (not (is_identity x) && z) (x ∷ concat (map rest (branches qs)) ∷ ss)) apart ∙ nothing (not (is_identity x)) _
    where
      no-true : (b : Bool) → (b ≡ true → ⊥) → b ≡ false
      no-true true f = absurd (f refl)
      no-true false f = refl

      nothing : {X : Type 0} (a : Bool) (y : X) → then_some (a && false) y ≡ None
      nothing true y = refl
      nothing false y = refl
  factor-none S before s ss h = refl

  mutual
    unfolding pipe_results

    -- nor at any place
    pub factor-nowhere : (p : Pipe) (S : Shape) (before : Bool) → stays_apart p ≡ true → pipe_results factor_branches m c S before p ≡ []
    factor-nowhere Pipe.End S before h = refl
    factor-nowhere (Pipe.Then s p) S before h =
        let t = and_parts (step_apart s) (stays_apart p) h in
        λ i. map pipe (option_to_list (factor-none S before s (steps p) t.0 i)) ++ map (λ s'. Pipe.Then s' p) (step-nowhere s S t.0 i) ++ map (Pipe.Then s) (factor-nowhere p (after m c S s) true t.1 i)

    inner-nowhere : (T : OptPipe) (S : Shape) → inner_apart T ≡ true → inner_results factor_branches m c S T ≡ []
    inner-nowhere OptPipe.NoPipe S h = refl
    inner-nowhere (OptPipe.SomePipe p) S h = ap (map OptPipe.SomePipe) (factor-nowhere p S false h)

    pub branches-nowhere : (ps : Pipes) (S : Shape) → branches_apart ps ≡ true → branch_results factor_branches m c S ps ≡ []
    branches-nowhere Pipes.NoPipes S h = refl
    branches-nowhere (Pipes.MorePipes p ps) S h =
        let t = and_parts (stays_apart p) (branches_apart ps) h in
        λ i. map (λ q. Pipes.MorePipes q ps) (factor-nowhere p S false t.0 i) ++ map (Pipes.MorePipes p) (branches-nowhere ps S t.1 i)

    key-nowhere : (k : Key) → key_apart k ≡ true → key_results factor_branches m c k ≡ []
    key-nowhere (Key.Plain p) h = refl
    key-nowhere (Key.Rollup all ps) h = refl
    key-nowhere (Key.Recursive h' p T) h = go (hierarchy_at m h') (λ f. inner-nowhere T (set_shape f.type) h)
      where
        go : (o : Option HierarchyPlace) → ((f : HierarchyPlace) → inner_results factor_branches m c (set_shape f.type) T ≡ []) → ◌≡◌ {A = List Key} (elim o [ None ↦ [] | Some f ↦ map (Key.Recursive h' p) (inner_results factor_branches m c (set_shape f.type) T) ]) []
        go None k = refl
        go (Some f) k = ap (map (Key.Recursive h' p)) (k f)

    pub keys-nowhere : (ks : Keys) → keys_apart ks ≡ true → keys_results factor_branches m c ks ≡ []
    keys-nowhere Keys.NoKeys h = refl
    keys-nowhere (Keys.MoreKeys k ks) h =
        let t = and_parts (key_apart k) (keys_apart ks) h in
        λ i. map (λ k'. Keys.MoreKeys k' ks) (key-nowhere k t.0 i) ++ map (Keys.MoreKeys k) (keys-nowhere ks t.1 i)

    pub step-nowhere : (s : Step) (S : Shape) → step_apart s ≡ true → step_results factor_branches m c S s ≡ []
    step-nowhere (Step.GroupBy ks T) S h =
        let t = and_parts (keys_apart ks) (inner_apart T) h in
        λ i. map (λ ks'. Step.GroupBy ks' T) (keys-nowhere ks t.0 i) ++ map (Step.GroupBy ks) (inner-nowhere T S t.1 i)
    step-nowhere (Step.Concat ps) S h = ap (map Step.Concat) (branches-nowhere ps S (and_parts (begin_apart ps ps || kinds_apart ps ps) (branches_apart ps) h).1)
    step-nowhere (Step.Join outer n a T) S h = go (join_navigation m S n) (λ v. inner-nowhere T (set_shape v.target) h)
      where
        go : (o : Option Navigation) → ((v : Navigation) → inner_results factor_branches m c (set_shape v.target) T ≡ []) → ◌≡◌ {A = List Step} (elim o [ None ↦ [] | Some v ↦ map (Step.Join outer n a) (inner_results factor_branches m c (set_shape v.target) T) ]) []
        go None k = refl
        go (Some v) k = ap (map (Step.Join outer n a)) (k v)
    step-nowhere (Step.Climb up h' p T d keep) S h = ap (map (λ T'. Step.Climb up h' p T' d keep)) (factor-nowhere T S false h)
    step-nowhere s S h = refl
