-- Filters that come out of a concatenation of a pipeline, or of one in a branch of another, by the ninth rule.
use Rattle.std.proofs.Common.{◌≡◌, refl, sym, ◌∙◌, ap, subst, ℕ, zero, suc, Bool, true, false, not, ◌&&◌, ◌||◌, List, [], ◌∷◌, ◌++◌, Option, Some, None, map, Contains, arith, ◌⊎◌, inl, inr}
use Rattle.std.specs.Prelude.{option_to_list, slice_get}
use Rattle.std.specs.Bool.{then_some}
use Rattle.std.proofs.lemmas.Bool.{and_parts}
use Rattle.std.proofs.lemmas.List.{append_assoc}
use Rattle.std.proofs.lemmas.List.Elements.{Contains-append_left, Contains-append_right}
use Rattle.edm_values.specs.Lists.{is_some_and}
use Rattle.edm_values.specs.Names.{Name, Path}
use Rattle.edm_values.proofs.EachLemmas.{Each, each-append, each-map}
use Rattle.edm_values.proofs.OptionFacts.{none_or, then_some-parts}
use Rattle.edm_model.specs.LookUps.{HierarchyPlace}
use Rattle.edm_model.specs.Models.{Model, Navigation}
use Rattle.apply_ast.specs.Trees.{Expr, HierName, Key, Keys, OptPipe, Pipe, Pipes, Step, pipe, steps}
use Rattle.context_typing.specs.Shapes.{Shape, set_shape}
use Rattle.context_typing.specs.Typing.{Customs, after, hierarchy_at, join_navigation}
use Rattle.context_typing.proofs.WalkFacts.{pipe-steps}
use Rattle.rewrite_laws.specs.Rewrites.{branch_results, branches, concat, factor_branches, inner_results, is_identity, key_results, keys_results, pipe_or_identity, pipe_results, step_results}
use Rattle.rewrite_laws.specs.TreeEquality.{step_same}
use Rattle.rewrite_laws.proofs.FactorRule.{begins-with, concat-rests, rests}
use Rattle.rewrite_laws.proofs.FilterRuns.{each-place}
use Rattle.rewrite_laws.proofs.SameTrees.{Begin, rest}
use Rattle.walk_laws.specs.Apart.{step_apart}
use Rattle.walk_laws.specs.Factored.{before_concat, factored_inside, inside_branches, inside_inner, inside_key, inside_keys, inside_step, inside_steps}
use Rattle.walk_laws.specs.FiltersOut.{branches_give, gives_alone, gives_no_other, inner_gives, key_gives, keys_give, may_give, stays_behind}
use Rattle.walk_laws.proofs.ApartPlaces.{factor-none, step-nowhere}
use Rattle.walk_laws.specs.Walks.{parts, shape_behind}
use Rattle.walk_laws.proofs.FactoredSame.{out-first}
use Rattle.walk_laws.proofs.GivenPlaces.{either, filter-given, first-one}
use Rattle.walk_laws.proofs.Holes.{Hole, IsThere, OfJoin, contains-map, filled, hole-made, inside, keys_with}
use Rattle.walk_laws.proofs.Unsplit.{Unsplit, UnsplitBranches, UnsplitInner, UnsplitKey, UnsplitKeys, UnsplitStep, unsplit-branches, unsplit-climb, unsplit-concat, unsplit-group, unsplit-inner, unsplit-join, unsplit-keys, unsplit-parts, unsplit-recursive}

-- a filter that is one part comes out of all branches of a concatenation of a pipeline
pub record Out (m : Model) (c : Customs) (S : Shape) (p q : Pipe) : Type 0 where
  pub ahead : List Step
  pub expr : Expr
  pub first : Pipe
  pub others : Pipes
  pub behind : List Step
  pub from : p ≡ pipe (ahead ++ Step.Concat (Pipes.MorePipes first others) ∷ behind)
  pub into : q ≡ pipe (ahead ++ Step.Filter expr ∷ Step.Concat (rests (Pipes.MorePipes first others)) ∷ behind)
  pub begin : Begin (Step.Filter expr) (Pipes.MorePipes first others) ≡ true
  pub one : parts m (shape_behind m c S (pipe ahead)) expr ≡ expr ∷ []

-- branches, with one at its place
abbrev pub spliced : List Pipe → Pipe → Pipes → Pipes
spliced [] p ps = Pipes.MorePipes p ps
spliced (x ∷ xs) p ps = Pipes.MorePipes x (spliced xs p ps)

-- a branch of a concatenation of a pipeline comes to another
pub record Inside (m : Model) (c : Customs) (R : Shape → Pipe → Pipe → Type 0) (S : Shape) (p q : Pipe) : Type 0 where
  pub ahead : List Step
  pub left : List Pipe
  pub was : Pipe
  pub now : Pipe
  pub right : Pipes
  pub behind : List Step
  pub from : p ≡ pipe (ahead ++ Step.Concat (spliced left was right) ∷ behind)
  pub into : q ≡ pipe (ahead ++ Step.Concat (spliced left now right) ∷ behind)
  pub within : R (shape_behind m c S (pipe ahead)) was now

-- the pipeline inside a join, a grouping or a climb of a pipeline comes to another
pub record Within (m : Model) (c : Customs) (R : Shape → Pipe → Pipe → Type 0) (S : Shape) (p q : Pipe) : Type 0 where
  pub ahead : List Step
  pub hole : Hole
  pub was : Pipe
  pub now : Pipe
  pub behind : List Step
  pub there : IsThere m (shape_behind m c S (pipe ahead)) hole
  pub from : p ≡ pipe (ahead ++ filled hole was ∷ behind)
  pub into : q ≡ pipe (ahead ++ filled hole now ∷ behind)
  pub within : R (inside (shape_behind m c S (pipe ahead)) hole) was now

-- a filter comes out in a branch, a join, a grouping or a climb, in one of these in it, and so on, so deep
abbrev pub Deep : Model → Customs → ℕ → Shape → Pipe → Pipe → Type 0
Deep m c zero S p q = Out m c S p q
Deep m c (suc n) S p q = Inside m c (Deep m c n) S p q ⊎ Within m c (Deep m c n) S p q

-- at whatever depth
abbrev pub AnyOut : Model → Customs → Shape → Pipe → Pipe → Type 0
AnyOut m c S p q = (n : ℕ) × Deep m c n S p q

not-back : (z : Bool) → not z ≡ true → z ≡ false
not-back true e = cc
not-back false e = refl

-- ---- steps that come out, in joins, groupings and climbs too

abbrev InsideOf : List Step → List Step
InsideOf l = inside_steps (pipe l)

inside-append : (a b : List Step) → InsideOf (a ++ b) ≡ InsideOf a ++ InsideOf b
inside-append [] b = refl
inside-append (s ∷ a) b = ap (λ l. inside_step s ++ l) (inside-append a b) ∙ sym (append_assoc (inside_step s) (InsideOf a) (InsideOf b))

rest-inside : (q : Pipe) → inside_steps (pipe_or_identity (steps q)) ≡ inside_steps q
rest-inside Pipe.End = refl
rest-inside (Pipe.Then s q) = ap (λ p. inside_steps (Pipe.Then s p)) (pipe-steps q)

module _ (m : Model) (c : Customs) where
  -- ---- at the concatenation

  -- what the ninth rule makes of branches that begin with a filter
  factor-some : (S : Shape) (before : Bool) (e : Expr) (p : Pipe) (ps : Pipes) (ss : List Step) → Begin (Step.Filter e) (Pipes.MorePipes p ps) ≡ true
      → factor_branches m c S before (Step.Concat (Pipes.MorePipes p ps)) ss ≡ Some (Step.Filter e ∷ Step.Concat (rests (Pipes.MorePipes p ps)) ∷ ss)
  factor-some S before e p ps ss h =
      let t = and_parts (is_some_and (step_same (Step.Filter e)) (slice_get (steps p) 0)) _ h in
      let q = begins-with (Step.Filter e) p t.0 in
      subst Made (sym q.1) (made q.0) h
    where
      Made : Pipe → Type 0
      Made p = Begin (Step.Filter e) (Pipes.MorePipes p ps) ≡ true → factor_branches m c S before (Step.Concat (Pipes.MorePipes p ps)) ss ≡ Some (Step.Filter e ∷ Step.Concat (rests (Pipes.MorePipes p ps)) ∷ ss)

      made : (q : Pipe) → Made (Pipe.Then (Step.Filter e) q)
      made q h =
          let qs = Pipes.MorePipes (Pipe.Then (Step.Filter e) q) ps in
          ap (λ z. then_some z (Step.Filter e ∷ concat (map rest (branches qs)) ∷ ss)) h ∙ ap (λ rs. Some (Step.Filter e ∷ Step.Concat rs ∷ ss)) (concat-rests qs)

  -- so the concatenation gives filters
  pub begin-gives : (S : Shape) (e : Expr) (p : Pipe) (ps : Pipes) → (step_apart (Step.Concat (Pipes.MorePipes p ps)) || gives_alone true (Step.Concat (Pipes.MorePipes p ps))) ≡ true → Begin (Step.Filter e) (Pipes.MorePipes p ps) ≡ true → gives_alone true (Step.Concat (Pipes.MorePipes p ps)) ≡ true
  begin-gives S e p ps h b =
      let x = Step.Concat (Pipes.MorePipes p ps) in
      elim (either (step_apart x) (gives_alone true x) h) [
        | inl a ↦ none_or (Step.Filter e ∷ Step.Concat (rests (Pipes.MorePipes p ps)) ∷ []) (sym (factor-none m c S false x [] a) ∙ factor-some S false e p ps [] b)
        | inr g ↦ g
      ]

  -- ---- what the ninth rule makes comes out so

  out-first_step : (S : Shape) (before b : Bool) (s : Step) (p : Pipe) (ss' : List Step) → may_give true b (Pipe.Then s p) ≡ true → Unsplit m c S before (Pipe.Then s p) → factor_branches m c S before s (steps p) ≡ Some ss' → Out m c S (Pipe.Then s p) (pipe ss')
  out-first_step S before b (Step.Concat Pipes.NoPipes) p ss' h u got = none_or ss' got
  out-first_step S before b (Step.Concat (Pipes.MorePipes Pipe.End ps)) p ss' h u got = none_or ss' got
  out-first_step S before b (Step.Concat (Pipes.MorePipes (Pipe.Then x q) ps)) p ss' h u got =
      elim (either (step_apart (Step.Concat qs)) (gives_alone true (Step.Concat qs)) (and_parts (step_apart (Step.Concat qs) || gives_alone true (Step.Concat qs)) _ h).0) [
        | inl a ↦ none_or ss' (sym (factor-none m c S before (Step.Concat qs) (steps p) a) ∙ got)
        | inr g ↦ given g
      ]
    where
      qs : Pipes
      qs = Pipes.MorePipes (Pipe.Then x q) ps

      t : ((not (is_identity x) && Begin x qs) ≡ true) × ((x ∷ concat (map rest (branches qs)) ∷ steps p) ≡ ss')
      t = then_some-parts (not (is_identity x) && Begin x qs) (x ∷ concat (map rest (branches qs)) ∷ steps p) ss' got

      given : gives_alone true (Step.Concat qs) ≡ true → Out m c S (Pipe.Then (Step.Concat qs) p) (pipe ss')
      given g =
          let y = and_parts (not (is_identity x)) (Begin x qs) t.0 in
          let f = filter-given x qs (not-back (is_identity x) y.0) (and_parts (gives_no_other qs) (branches_give true qs) g).0 y.1 in
          let begin : Begin (Step.Filter f.0) qs ≡ true = ap (λ x. Begin x qs) (sym f.1) ∙ y.1 in
          record {
            ahead = [];
            expr = f.0;
            first = Pipe.Then x q;
            others = ps;
            behind = steps p;
            from = ap (Pipe.Then (Step.Concat qs)) (sym (pipe-steps p));
            into = sym (ap pipe t.1) ∙ (λ i. Pipe.Then (f.1 i) (Pipe.Then (Step.Concat (concat-rests qs i)) (pipe (steps p))));
            begin = begin;
            one = first-one m c S before f.0 (Pipe.Then x q) ps p u begin;
          }
  out-first_step S before b s p ss' h u got = none_or ss' got

  -- a step more before it
  deep-behind : (n : ℕ) (S : Shape) (s : Step) (p q : Pipe) → Deep m c n (after m c S s) p q → Deep m c n S (Pipe.Then s p) (Pipe.Then s q)
  deep-behind zero S s p q o = record { ahead = s ∷ o.ahead; expr = o.expr; first = o.first; others = o.others; behind = o.behind; from = ap (Pipe.Then s) o.from; into = ap (Pipe.Then s) o.into; begin = o.begin; one = o.one }
  deep-behind (suc n) S s p q (inl o) = inl (record { ahead = s ∷ o.ahead; left = o.left; was = o.was; now = o.now; right = o.right; behind = o.behind; from = ap (Pipe.Then s) o.from; into = ap (Pipe.Then s) o.into; within = o.within })
  deep-behind (suc n) S s p q (inr o) = inr (record { ahead = s ∷ o.ahead; hole = o.hole; was = o.was; now = o.now; behind = o.behind; there = o.there; from = ap (Pipe.Then s) o.from; into = ap (Pipe.Then s) o.into; within = o.within })

  -- in the step at the front
  deep-within : (n : ℕ) (S : Shape) (h : Hole) (p q z : Pipe) → IsThere m S h → Deep m c n (inside S h) p q → Deep m c (suc n) S (Pipe.Then (filled h p) z) (Pipe.Then (filled h q) z)
  deep-within n S h p q z t o = inr (record {
    ahead = [];
    hole = h;
    was = p;
    now = q;
    behind = steps z;
    there = t;
    from = ap (Pipe.Then (filled h p)) (sym (pipe-steps z));
    into = ap (Pipe.Then (filled h q)) (sym (pipe-steps z));
    within = o;
  })

  -- in one of some branches
  record BranchOut (S : Shape) (ps qs : Pipes) : Type 0 where
    depth : ℕ
    left : List Pipe
    was : Pipe
    now : Pipe
    right : Pipes
    from : ps ≡ spliced left was right
    into : qs ≡ spliced left now right
    within : Deep m c depth S was now

  -- in what chooses the nodes of one of some keys
  record KeyOut (ks ks' : Keys) : Type 0 where
    depth : ℕ
    left : List Key
    hier : HierName
    path : Path
    place : HierarchyPlace
    was : Pipe
    now : Pipe
    right : Keys
    there : hierarchy_at m hier ≡ Some place
    from : ks ≡ keys_with left (Key.Recursive hier path (OptPipe.SomePipe was)) right
    into : ks' ≡ keys_with left (Key.Recursive hier path (OptPipe.SomePipe now)) right
    within : Deep m c depth (set_shape place.type) was now

  keys-within : (ks ks' : Keys) (T : OptPipe) (S : Shape) (p : Pipe) → KeyOut ks ks' → AnyOut m c S (Pipe.Then (Step.GroupBy ks T) p) (Pipe.Then (Step.GroupBy ks' T) p)
  keys-within ks ks' T S p o = (
    suc o.depth,
    inr (record {
      ahead = [];
      hole = Hole.Chosen o.left o.hier o.path o.place o.right T;
      was = o.was;
      now = o.now;
      behind = steps p;
      there = o.there;
      from = λ i. Pipe.Then (Step.GroupBy (o.from i) T) (sym (pipe-steps p) i);
      into = λ i. Pipe.Then (Step.GroupBy (o.into i) T) (sym (pipe-steps p) i);
      within = o.within;
    }),
  )

  apart-alone : (s : Step) → (step_apart s || false) ≡ true → step_apart s ≡ true
  apart-alone s h = go (step_apart s) h
    where
      go : (b : Bool) → (b || false) ≡ true → b ≡ true
      go true h = refl
      go false h = h

  mutual
    unfolding pipe_results

    pub all-out : (p : Pipe) (S : Shape) (before b : Bool) → may_give true b p ≡ true → Unsplit m c S before p → Each (AnyOut m c S p) (pipe_results factor_branches m c S before p)
    all-out Pipe.End S before b h u = tt
    all-out (Pipe.Then s p) S before b h u =
        let here = map pipe (option_to_list (factor_branches m c S before s (steps p))) in
        let inside = map (λ s'. Pipe.Then s' p) (step_results factor_branches m c S s) in
        let behind' = map (Pipe.Then s) (pipe_results factor_branches m c (after m c S s) true p) in
        let M = AnyOut m c S (Pipe.Then s p) in
        let v = and_parts (step_apart s || gives_alone true s) (may_give true (stays_behind b s) p) h in
        let w = unsplit-parts m c S before s p u in
        each-append M (here ++ inside) behind'
        (each-append M here inside
        (each-place M (factor_branches m c S before s (steps p)) (λ ss' e. (0, out-first_step S before b s p ss' h u e)))
        (each-map M (λ s'. AnyOut m c S (Pipe.Then s p) (Pipe.Then s' p)) (λ s'. Pipe.Then s' p) (λ s' o. o) (step_results factor_branches m c S s) (inside-out s S p v.0 w.0)))
        (each-map M (AnyOut m c (after m c S s) p) (Pipe.Then s) (λ q o. (o.0, deep-behind o.0 S s p q o.1)) (pipe_results factor_branches m c (after m c S s) true p) (all-out p (after m c S s) true (stays_behind b s) v.1 w.1))

    inside-out : (s : Step) (S : Shape) (p : Pipe) → (step_apart s || gives_alone true s) ≡ true → UnsplitStep m c S s → Each (λ s'. AnyOut m c S (Pipe.Then s p) (Pipe.Then s' p)) (step_results factor_branches m c S s)
    inside-out (Step.Concat ps) S p h u =
        let M : Step → Type 0 = λ s'. AnyOut m c S (Pipe.Then (Step.Concat ps) p) (Pipe.Then s' p) in
        elim (either (step_apart (Step.Concat ps)) (gives_alone true (Step.Concat ps)) h) [
          | inl a ↦ subst (Each M) (sym (step-nowhere m c (Step.Concat ps) S a)) tt
          | inr g ↦
              each-map M (BranchOut S ps) Step.Concat
              (λ qs o. (
                suc o.depth,
                inl (record {
                  ahead = [];
                  left = o.left;
                  was = o.was;
                  now = o.now;
                  right = o.right;
                  behind = steps p;
                  from = λ i. Pipe.Then (Step.Concat (o.from i)) (sym (pipe-steps p) i);
                  into = λ i. Pipe.Then (Step.Concat (o.into i)) (sym (pipe-steps p) i);
                  within = o.within;
                }),
              ))
              (branch_results factor_branches m c S ps) (branches-out' ps S (and_parts (gives_no_other ps) (branches_give true ps) g).1 (unsplit-concat m c S ps u))
        ]
    inside-out (Step.Join outer n a T) S p h u =
        let M : Step → Type 0 = λ s'. AnyOut m c S (Pipe.Then (Step.Join outer n a T) p) (Pipe.Then s' p) in
        elim (either (step_apart (Step.Join outer n a T)) (gives_alone true (Step.Join outer n a T)) h) [
          | inl x ↦ subst (Each M) (sym (step-nowhere m c (Step.Join outer n a T) S x)) tt
          | inr g ↦ join-out outer n a T S p g u (join_navigation m S n) refl
        ]
    inside-out (Step.GroupBy ks T) S p h u =
        let M : Step → Type 0 = λ s'. AnyOut m c S (Pipe.Then (Step.GroupBy ks T) p) (Pipe.Then s' p) in
        elim (either (step_apart (Step.GroupBy ks T)) (gives_alone true (Step.GroupBy ks T)) h) [
          | inl x ↦ subst (Each M) (sym (step-nowhere m c (Step.GroupBy ks T) S x)) tt
          | inr g ↦
              let v = and_parts (keys_give ks) (inner_gives T) g in
              let w = unsplit-group m c S ks T u in
              each-append M (map (λ ks'. Step.GroupBy ks' T) (keys_results factor_branches m c ks)) (map (Step.GroupBy ks) (inner_results factor_branches m c S T))
              (each-map M (KeyOut ks) (λ ks'. Step.GroupBy ks' T) (λ ks' o. keys-within ks ks' T S p o) (keys_results factor_branches m c ks) (keys-out ks v.0 w.0))
              (grouped-out ks T S p v.1 w.1)
        ]
    inside-out (Step.Climb up h' x T d keep) S p h u =
        let s = Step.Climb up h' x T d keep in
        let M : Step → Type 0 = λ s'. AnyOut m c S (Pipe.Then s p) (Pipe.Then s' p) in
        elim (either (step_apart s) (gives_alone true s) h) [
          | inl a ↦ subst (Each M) (sym (step-nowhere m c s S a)) tt
          | inr g ↦
              each-map M (AnyOut m c S T) (λ T'. Step.Climb up h' x T' d keep) (λ z o. (suc o.0, deep-within o.0 S (Hole.Climbed up h' x d keep) T z p refl o.1))
              (pipe_results factor_branches m c S false T) (all-out T S false true g (unsplit-climb m c S up h' x T d keep u))
        ]
    inside-out s S p h u = let M : Step → Type 0 = λ s'. AnyOut m c S (Pipe.Then s p) (Pipe.Then s' p) in subst (Each M) (sym (step-nowhere m c s S (apart-alone s h))) tt

    join-out : (outer : Bool) (n a : Name) (T : OptPipe) (S : Shape) (p : Pipe) → inner_gives T ≡ true → UnsplitStep m c S (Step.Join outer n a T) → (o : Option Navigation) → join_navigation m S n ≡ o
        → Each (λ s'. AnyOut m c S (Pipe.Then (Step.Join outer n a T) p) (Pipe.Then s' p)) (OfJoin m c factor_branches outer n a T o)
    join-out outer n a T S p g u None e = tt
    join-out outer n a OptPipe.NoPipe S p g u (Some v) e = tt
    join-out outer n a (OptPipe.SomePipe q) S p g u (Some v) e =
        let M : Step → Type 0 = λ s'. AnyOut m c S (Pipe.Then (Step.Join outer n a (OptPipe.SomePipe q)) p) (Pipe.Then s' p) in
        let U = set_shape v.target in
        each-map M (λ T'. M (Step.Join outer n a T')) (Step.Join outer n a) (λ T' k. k) (map OptPipe.SomePipe (pipe_results factor_branches m c U false q))
        (each-map (λ T'. M (Step.Join outer n a T')) (AnyOut m c U q) OptPipe.SomePipe (λ z o. (suc o.0, deep-within o.0 S (Hole.Related outer n a v) q z p e o.1))
        (pipe_results factor_branches m c U false q) (all-out q U false true g (unsplit-inner m c U q (unsplit-join m c S outer n a (OptPipe.SomePipe q) v e u))))

    grouped-out : (ks : Keys) (T : OptPipe) (S : Shape) (p : Pipe) → inner_gives T ≡ true → UnsplitInner m c S T → Each (λ s'. AnyOut m c S (Pipe.Then (Step.GroupBy ks T) p) (Pipe.Then s' p)) (map (Step.GroupBy ks) (inner_results factor_branches m c S T))
    grouped-out ks OptPipe.NoPipe S p g u = tt
    grouped-out ks (OptPipe.SomePipe q) S p g u =
        let M : Step → Type 0 = λ s'. AnyOut m c S (Pipe.Then (Step.GroupBy ks (OptPipe.SomePipe q)) p) (Pipe.Then s' p) in
        each-map M (λ T'. M (Step.GroupBy ks T')) (Step.GroupBy ks) (λ T' k. k) (map OptPipe.SomePipe (pipe_results factor_branches m c S false q))
        (each-map (λ T'. M (Step.GroupBy ks T')) (AnyOut m c S q) OptPipe.SomePipe (λ z o. (suc o.0, deep-within o.0 S (Hole.Grouped ks) q z p refl o.1))
        (pipe_results factor_branches m c S false q) (all-out q S false true g (unsplit-inner m c S q u)))

    keys-out : (ks : Keys) → keys_give ks ≡ true → UnsplitKeys m c ks → Each (KeyOut ks) (keys_results factor_branches m c ks)
    keys-out Keys.NoKeys h u = tt
    keys-out (Keys.MoreKeys k ks) h u =
        let v = and_parts (key_gives k) (keys_give ks) h in
        let w = unsplit-keys m c k ks u in
        let M = KeyOut (Keys.MoreKeys k ks) in
        each-append M (map (λ k'. Keys.MoreKeys k' ks) (key_results factor_branches m c k)) (map (Keys.MoreKeys k) (keys_results factor_branches m c ks))
        (each-map M (λ k'. M (Keys.MoreKeys k' ks)) (λ k'. Keys.MoreKeys k' ks) (λ k' o. o) (key_results factor_branches m c k) (key-out k ks v.0 w.0))
        (each-map M (KeyOut ks) (Keys.MoreKeys k)
        (λ ks' o. record {
          depth = o.depth;
          left = k ∷ o.left;
          hier = o.hier;
          path = o.path;
          place = o.place;
          was = o.was;
          now = o.now;
          right = o.right;
          there = o.there;
          from = ap (Keys.MoreKeys k) o.from;
          into = ap (Keys.MoreKeys k) o.into;
          within = o.within;
        })
        (keys_results factor_branches m c ks) (keys-out ks v.1 w.1))

    key-out : (k : Key) (ks : Keys) → key_gives k ≡ true → UnsplitKey m c k → Each (λ k'. KeyOut (Keys.MoreKeys k ks) (Keys.MoreKeys k' ks)) (key_results factor_branches m c k)
    key-out (Key.Plain x) ks h u = tt
    key-out (Key.Rollup all xs) ks h u = tt
    key-out (Key.Recursive n x T) ks h u = nodes-out n x T ks h u (hierarchy_at m n) refl

    nodes-out : (n : HierName) (x : Path) (T : OptPipe) (ks : Keys) → inner_gives T ≡ true → UnsplitKey m c (Key.Recursive n x T) → (o : Option HierarchyPlace) → hierarchy_at m n ≡ o
        → Each (λ k'. KeyOut (Keys.MoreKeys (Key.Recursive n x T) ks) (Keys.MoreKeys k' ks)) (elim o [ None ↦ [] | Some f ↦ map (Key.Recursive n x) (inner_results factor_branches m c (set_shape f.type) T) ])
    nodes-out n x T ks h u None e = tt
    nodes-out n x OptPipe.NoPipe ks h u (Some f) e = tt
    nodes-out n x (OptPipe.SomePipe q) ks h u (Some f) e =
        let M : Key → Type 0 = λ k'. KeyOut (Keys.MoreKeys (Key.Recursive n x (OptPipe.SomePipe q)) ks) (Keys.MoreKeys k' ks) in
        let U = set_shape f.type in
        each-map M (λ T'. M (Key.Recursive n x T')) (Key.Recursive n x) (λ T' k. k) (map OptPipe.SomePipe (pipe_results factor_branches m c U false q))
        (each-map (λ T'. M (Key.Recursive n x T')) (AnyOut m c U q) OptPipe.SomePipe
        (λ z o. record { depth = o.0; left = []; hier = n; path = x; place = f; was = q; now = z; right = ks; there = e; from = refl; into = refl; within = o.1 })
        (pipe_results factor_branches m c U false q) (all-out q U false true h (unsplit-inner m c U q (unsplit-recursive m c n x (OptPipe.SomePipe q) f e u))))

    branches-out' : (ps : Pipes) (S : Shape) → branches_give true ps ≡ true → UnsplitBranches m c S ps → Each (BranchOut S ps) (branch_results factor_branches m c S ps)
    branches-out' Pipes.NoPipes S h u = tt
    branches-out' (Pipes.MorePipes p ps) S h u =
        let v = and_parts (may_give true true p) (branches_give true ps) h in
        let w = unsplit-branches m c S p ps u in
        let M = BranchOut S (Pipes.MorePipes p ps) in
        each-append M (map (λ q. Pipes.MorePipes q ps) (pipe_results factor_branches m c S false p)) (map (Pipes.MorePipes p) (branch_results factor_branches m c S ps))
        (each-map M (AnyOut m c S p) (λ q. Pipes.MorePipes q ps) (λ q o. record { depth = o.0; left = []; was = p; now = q; right = ps; from = refl; into = refl; within = o.1 })
        (pipe_results factor_branches m c S false p) (all-out p S false true v.0 w.0))
        (each-map M (BranchOut S ps) (Pipes.MorePipes p)
        (λ qs o. record { depth = o.depth; left = p ∷ o.left; was = o.was; now = o.now; right = o.right; from = ap (Pipes.MorePipes p) o.from; into = ap (Pipes.MorePipes p) o.into; within = o.within })
        (branch_results factor_branches m c S ps) (branches-out' ps S v.1 w.1))

  -- ---- what comes out so is what the ninth rule makes

  at-place : (ahead : List Step) (S : Shape) (before : Bool) (e : Expr) (p : Pipe) (ps : Pipes) (zs : List Step) → Begin (Step.Filter e) (Pipes.MorePipes p ps) ≡ true
      → Contains (pipe_results factor_branches m c S before (pipe (ahead ++ Step.Concat (Pipes.MorePipes p ps) ∷ zs))) (pipe (ahead ++ Step.Filter e ∷ Step.Concat (rests (Pipes.MorePipes p ps)) ∷ zs))
  unfolding pipe_results
  at-place [] S before e p ps zs h =
      let x = Step.Concat (Pipes.MorePipes p ps) in
      let made = Pipe.Then (Step.Filter e) (Pipe.Then (Step.Concat (rests (Pipes.MorePipes p ps))) (pipe zs)) in
      let here = map pipe (option_to_list (factor_branches m c S before x (steps (pipe zs)))) in
      let inside = map (λ s'. Pipe.Then s' (pipe zs)) (step_results factor_branches m c S x) in
      let behind' = map (Pipe.Then x) (pipe_results factor_branches m c (after m c S x) true (pipe zs)) in
      let C : Option (List Step) → Type 0 = λ o. Contains (map pipe (option_to_list o)) made in
      let one : Contains (pipe (Step.Filter e ∷ Step.Concat (rests (Pipes.MorePipes p ps)) ∷ steps (pipe zs)) ∷ []) made =
      (0, omega arith, ap (λ q. Pipe.Then (Step.Filter e) (Pipe.Then (Step.Concat (rests (Pipes.MorePipes p ps))) q)) (pipe-steps (pipe zs))) in
      Contains-append_left (here ++ inside) behind' made (Contains-append_left here inside made (subst C (sym (factor-some S before e p ps (steps (pipe zs)) h)) one))
  at-place (s ∷ ss) S before e p ps zs h =
      let tail = pipe (ss ++ Step.Concat (Pipes.MorePipes p ps) ∷ zs) in
      let made = pipe (ss ++ Step.Filter e ∷ Step.Concat (rests (Pipes.MorePipes p ps)) ∷ zs) in
      let here = map pipe (option_to_list (factor_branches m c S before s (steps tail))) in
      let inside = map (λ s'. Pipe.Then s' tail) (step_results factor_branches m c S s) in
      Contains-append_right (here ++ inside) (map (Pipe.Then s) (pipe_results factor_branches m c (after m c S s) true tail)) (Pipe.Then s made)
      (contains-map (Pipe.Then s) (pipe_results factor_branches m c (after m c S s) true tail) made (at-place ss (after m c S s) true e p ps zs h))

  pub in-branches : (left : List Pipe) (S : Shape) (p q : Pipe) (right : Pipes) → Contains (pipe_results factor_branches m c S false p) q → Contains (branch_results factor_branches m c S (spliced left p right)) (spliced left q right)
  unfolding pipe_results
  in-branches [] S p q right k =
      Contains-append_left (map (λ q. Pipes.MorePipes q right) (pipe_results factor_branches m c S false p)) (map (Pipes.MorePipes p) (branch_results factor_branches m c S right)) (Pipes.MorePipes q right)
      (contains-map (λ q. Pipes.MorePipes q right) (pipe_results factor_branches m c S false p) q k)
  in-branches (x ∷ left) S p q right k =
      let ps = spliced left p right in
      Contains-append_right (map (λ q. Pipes.MorePipes q ps) (pipe_results factor_branches m c S false x)) (map (Pipes.MorePipes x) (branch_results factor_branches m c S ps)) (Pipes.MorePipes x (spliced left q right))
      (contains-map (Pipes.MorePipes x) (branch_results factor_branches m c S ps) (spliced left q right) (in-branches left S p q right k))

  -- what it makes in a step
  at-step : (ahead : List Step) (S : Shape) (before : Bool) (x x' : Step) (zs : List Step) → Contains (step_results factor_branches m c (shape_behind m c S (pipe ahead)) x) x'
      → Contains (pipe_results factor_branches m c S before (pipe (ahead ++ x ∷ zs))) (pipe (ahead ++ x' ∷ zs))
  unfolding pipe_results
  at-step [] S before x x' zs k =
      let made = Pipe.Then x' (pipe zs) in
      let here = map pipe (option_to_list (factor_branches m c S before x (steps (pipe zs)))) in
      let within = map (λ s'. Pipe.Then s' (pipe zs)) (step_results factor_branches m c S x) in
      let behind' = map (Pipe.Then x) (pipe_results factor_branches m c (after m c S x) true (pipe zs)) in
      Contains-append_left (here ++ within) behind' made (Contains-append_right here within made (contains-map (λ s'. Pipe.Then s' (pipe zs)) (step_results factor_branches m c S x) x' k))
  at-step (s ∷ ss) S before x x' zs k =
      let tail = pipe (ss ++ x ∷ zs) in
      let made = pipe (ss ++ x' ∷ zs) in
      let here = map pipe (option_to_list (factor_branches m c S before s (steps tail))) in
      let within = map (λ s'. Pipe.Then s' tail) (step_results factor_branches m c S s) in
      Contains-append_right (here ++ within) (map (Pipe.Then s) (pipe_results factor_branches m c (after m c S s) true tail)) (Pipe.Then s made)
      (contains-map (Pipe.Then s) (pipe_results factor_branches m c (after m c S s) true tail) made (at-step ss (after m c S s) true x x' zs k))

  at-inside : (ahead : List Step) (S : Shape) (before : Bool) (ps qs : Pipes) (zs : List Step) → Contains (branch_results factor_branches m c (shape_behind m c S (pipe ahead)) ps) qs
      → Contains (pipe_results factor_branches m c S before (pipe (ahead ++ Step.Concat ps ∷ zs))) (pipe (ahead ++ Step.Concat qs ∷ zs))
  unfolding pipe_results
  at-inside ahead S before ps qs zs k = at-step ahead S before (Step.Concat ps) (Step.Concat qs) zs (contains-map Step.Concat (branch_results factor_branches m c (shape_behind m c S (pipe ahead)) ps) qs k)

  pub deep-made : (n : ℕ) (S : Shape) (p q : Pipe) → Deep m c n S p q → Contains (pipe_results factor_branches m c S false p) q
  deep-made zero S p q o =
      let C : Pipe → Type 0 = λ p. Contains (pipe_results factor_branches m c S false p) q in
      let D : Pipe → Type 0 = λ q. Contains (pipe_results factor_branches m c S false (pipe (o.ahead ++ Step.Concat (Pipes.MorePipes o.first o.others) ∷ o.behind))) q in
      subst C (sym o.from) (subst D (sym o.into) (at-place o.ahead S false o.expr o.first o.others o.behind o.begin))
  deep-made (suc n) S p q (inr o) =
      let T = shape_behind m c S (pipe o.ahead) in
      let C : Pipe → Type 0 = λ p. Contains (pipe_results factor_branches m c S false p) q in
      let D : Pipe → Type 0 = λ q. Contains (pipe_results factor_branches m c S false (pipe (o.ahead ++ filled o.hole o.was ∷ o.behind))) q in
      subst C (sym o.from) (subst D (sym o.into) (at-step o.ahead S false (filled o.hole o.was) (filled o.hole o.now) o.behind (hole-made m c factor_branches o.hole T o.was o.now o.there (deep-made n (inside T o.hole) o.was o.now o.within))))
  deep-made (suc n) S p q (inl o) =
      let T = shape_behind m c S (pipe o.ahead) in
      let C : Pipe → Type 0 = λ p. Contains (pipe_results factor_branches m c S false p) q in
      let D : Pipe → Type 0 = λ q. Contains (pipe_results factor_branches m c S false (pipe (o.ahead ++ Step.Concat (spliced o.left o.was o.right) ∷ o.behind))) q in
      subst C (sym o.from) (subst D (sym o.into) (at-inside o.ahead S false (spliced o.left o.was o.right) (spliced o.left o.now o.right) o.behind (in-branches o.left T o.was o.now o.right (deep-made n T o.was o.now o.within))))

  -- ---- the same steps come out in the end

  chosen-out : (left : List Key) (h : HierName) (x : Path) (right : Keys) (p q : Pipe) → inside_steps q ≡ inside_steps p
      → inside_keys (keys_with left (Key.Recursive h x (OptPipe.SomePipe q)) right) ≡ inside_keys (keys_with left (Key.Recursive h x (OptPipe.SomePipe p)) right)
  chosen-out [] h x right p q e = ap (λ l. Keys.MoreKeys (Key.Recursive h x (OptPipe.SomePipe (pipe_or_identity l))) (inside_keys right)) e
  chosen-out (k ∷ left) h x right p q e = ap (Keys.MoreKeys (inside_key k)) (chosen-out left h x right p q e)

  hole-out : (h : Hole) (p q : Pipe) → inside_steps q ≡ inside_steps p → inside_step (filled h q) ≡ inside_step (filled h p)
  hole-out (Hole.Related outer n a v) p q e = ap (λ l. Step.Join outer n a (OptPipe.SomePipe (pipe_or_identity l)) ∷ []) e
  hole-out (Hole.Grouped ks) p q e = ap (λ l. Step.GroupBy (inside_keys ks) (OptPipe.SomePipe (pipe_or_identity l)) ∷ []) e
  hole-out (Hole.Chosen left h x f right T) p q e = ap (λ ks. Step.GroupBy ks (inside_inner T) ∷ []) (chosen-out left h x right p q e)
  hole-out (Hole.Climbed up h x d keep) p q e = ap (λ l. Step.Climb up h x (pipe_or_identity l) d keep ∷ []) e

  branches-out : (e : Expr) (ps : Pipes) → Begin (Step.Filter e) ps ≡ true → inside_branches ps ≡ map (λ l. (Step.Filter e ∷ []) ++ l) (inside_branches (rests ps))
  branches-out e Pipes.NoPipes h = refl
  branches-out e (Pipes.MorePipes p ps) h =
      let t = and_parts (is_some_and (step_same (Step.Filter e)) (slice_get (steps p) 0)) _ h in
      let q = begins-with (Step.Filter e) p t.0 in
      λ i. (ap inside_steps q.1 ∙ ap (λ l. Step.Filter e ∷ l) (sym (ap (λ l. inside_steps (pipe_or_identity l)) q.2 ∙ rest-inside q.0))) i ∷ branches-out e ps t.1 i

  concat-out : (e : Expr) (p : Pipe) (ps : Pipes) → Begin (Step.Filter e) (Pipes.MorePipes p ps) ≡ true → before_concat (inside_branches (Pipes.MorePipes p ps)) ≡ Step.Filter e ∷ before_concat (inside_branches (rests (Pipes.MorePipes p ps)))
  concat-out e p ps h = ap before_concat (branches-out e (Pipes.MorePipes p ps) h) ∙ out-first (Step.Filter e ∷ []) (inside_steps (rest p)) (inside_branches (rests ps))

  spliced-out : (left : List Pipe) (p q : Pipe) (right : Pipes) → inside_steps q ≡ inside_steps p → inside_branches (spliced left q right) ≡ inside_branches (spliced left p right)
  spliced-out [] p q right e = ap (λ l. l ∷ inside_branches right) e
  spliced-out (x ∷ left) p q right e = ap (λ ls. inside_steps x ∷ ls) (spliced-out left p q right e)

  steps-out : (n : ℕ) (S : Shape) (p q : Pipe) → Deep m c n S p q → inside_steps q ≡ inside_steps p
  steps-out zero S p q o =
      let qs = Pipes.MorePipes o.first o.others in
      ap inside_steps o.into
      ∙ inside-append o.ahead (Step.Filter o.expr ∷ Step.Concat (rests qs) ∷ o.behind)
      ∙ ap (λ l. InsideOf o.ahead ++ (l ++ InsideOf o.behind)) (sym (concat-out o.expr o.first o.others o.begin))
      ∙ sym (inside-append o.ahead (Step.Concat qs ∷ o.behind))
      ∙ sym (ap inside_steps o.from)
  steps-out (suc n) S p q (inr o) =
      ap inside_steps o.into
      ∙ inside-append o.ahead (filled o.hole o.now ∷ o.behind)
      ∙ ap (λ l. InsideOf o.ahead ++ (l ++ InsideOf o.behind)) (hole-out o.hole o.was o.now (steps-out n (inside (shape_behind m c S (pipe o.ahead)) o.hole) o.was o.now o.within))
      ∙ sym (inside-append o.ahead (filled o.hole o.was ∷ o.behind))
      ∙ sym (ap inside_steps o.from)
  steps-out (suc n) S p q (inl o) =
      ap inside_steps o.into
      ∙ inside-append o.ahead (Step.Concat (spliced o.left o.now o.right) ∷ o.behind)
      ∙ ap (λ ls. InsideOf o.ahead ++ (before_concat ls ++ InsideOf o.behind)) (spliced-out o.left o.was o.now o.right (steps-out n (shape_behind m c S (pipe o.ahead)) o.was o.now o.within))
      ∙ sym (inside-append o.ahead (Step.Concat (spliced o.left o.was o.right) ∷ o.behind))
      ∙ sym (ap inside_steps o.from)

  pub out-factored : (n : ℕ) (S : Shape) (p q : Pipe) → Deep m c n S p q → factored_inside q ≡ factored_inside p
  out-factored n S p q o = ap pipe_or_identity (steps-out n S p q o)
