-- The first eight rules make nothing of a pipeline whose filters rest.
use Rattle.std.proofs.Common.{◌≡◌, refl, sym, ◌∙◌, ap, Bool, true, false, not, ◌&&◌, ◌||◌, List, [], ◌∷◌, ◌++◌, Option, Some, None, map, filter, find, cond, take, Contains, if◌then◌else◌}
use Rattle.std.specs.Prelude.{option_map, option_to_list}
use Rattle.std.specs.List.{list_all, list_any}
use Rattle.edm_values.specs.Lists.{is_nonempty}
use Rattle.std.proofs.lemmas.Bool.{and_parts, true≢false}
use Rattle.edm_values.proofs.EachLemmas.{Each, each-contains, each-filter, each-map}
use Rattle.edm_model.specs.Models.{Model}
use Rattle.apply_ast.specs.Trees.{Expr, Named, Pipe, Pipes, Step, is_long, pipe, steps}
use Rattle.apply_ast.specs.declared.expressions.BinOp.TheVariants as BinOp
use Rattle.context_typing.specs.Shapes.{Shape}
use Rattle.context_typing.specs.Typing.{Customs, RollupPart, after, is_sure, order_sure}
use Rattle.rewrite_laws.specs.Rewrites.{FilterRun, Rule, branch_results, drop_identity, behind, drop_true, filter_branches, is_among, is_levels, is_no_rollup, longer, movable, pass_compute, pass_grouping, pass_order, passing, paths, pipe_results, rules, runs, split_conjunction, step_results}
use Rattle.walk_laws.specs.Factored.{Place, branches_rest, filter_stays, is_alone, is_one, place_behind, pipe_rests, step_rests, steps_rest}

-- ---- runs of filters that rest

-- the last filter of each run stays
runs-stay : (b : Place) (p : Pipe) → steps_rest b p ≡ true → Each (λ r. filter_stays b r.last ≡ true) (runs (steps p))
runs-stay b Pipe.End h = tt
runs-stay b (Pipe.Then (Step.Filter e) p) h =
    let t = and_parts (is_one e && filter_stays b e) (steps_rest b p) h in
    ((and_parts (is_one e) (filter_stays b e) t.0).1, each-map (λ r. filter_stays b r.last ≡ true) (λ r. filter_stays b r.last ≡ true) (longer e) (λ r k. k) (runs (steps p)) (runs-stay b p t.1))
runs-stay b (Pipe.Then s p) h = tt

-- where no element passes a test, the search finds none
found-nowhere : {X : Type 0} (t : X → Bool) (xs : List X) → Each (λ x. t x ≡ false) xs → find t xs ≡ None
found-nowhere t [] a = refl
found-nowhere t (x ∷ xs) a = ap (λ z. cond z (Some x) (find t xs)) a.0 ∙ found-nowhere t xs a.1

-- behind a closed step no run begins
no-runs : (p : Pipe) → steps_rest Place.Closed p ≡ true → runs (steps p) ≡ []
no-runs Pipe.End h = refl
no-runs (Pipe.Then (Step.Filter e) p) h = absurd (true≢false (sym (and_parts (is_one e) false (and_parts (is_one e && false) (steps_rest Place.Closed p) h).0).1))
no-runs (Pipe.Then s p) h = refl

module _ (m : Model) (c : Customs) (S : Shape) where
  -- no filter passes a computation that makes a column of it
  none-passes : (T : Shape) (ns : List Named) (x : Step) (p : Pipe) → steps_rest (Place.Columns ns) p ≡ true → passing m T (λ b. not (list_any (is_among (map (λ x. x.name ∷ []) ns)) (paths b))) x (steps p) ≡ None
  none-passes T ns x p h =
      let test : FilterRun → Bool = λ r. not (list_any (is_among (map (λ x. x.name ∷ []) ns)) (paths r.last)) in
      ap (option_map _) (found-nowhere test (movable m T (steps p)) (each-filter (λ r. test r ≡ false) _ (runs (steps p)) (each-weaker' test (runs (steps p)) (runs-stay (Place.Columns ns) p h))))
    where
      each-weaker' : (test : FilterRun → Bool) (rs : List FilterRun) → Each (λ r. filter_stays (Place.Columns ns) r.last ≡ true) rs → Each (λ (r : FilterRun). not (list_any (is_among (map (λ x. x.name ∷ []) ns)) (paths r.last)) ≡ false) rs
      each-weaker' test [] a = tt
      each-weaker' test (r ∷ rs) a = (ap not a.0, each-weaker' test rs a.1)

  -- behind a closed step nothing is found
  none-found : (T : Shape) (test : FilterRun → Bool) (p : Pipe) → steps_rest Place.Closed p ≡ true → find test (movable m T (steps p)) ≡ None
  none-found T test p h = ap (λ l. find test (filter (λ r. not (is_nonempty r.between) || (list_all (is_sure m T) r.between && is_sure m T r.last)) l)) (no-runs p h)

  -- ---- each rule

  -- a rule makes nothing at a step whose filters rest, nor of `identity` alone
  abbrev pub LeavesRest : Rule → Type 0
  LeavesRest r = ((before : Bool) (b : Place) (s : Step) (p : Pipe) → step_rests b s ≡ true → steps_rest (place_behind b s) p ≡ true → r m c S before s (steps p) ≡ None) × (r m c S false Step.Identity [] ≡ None)

  if-none : {X : Type 0} (z : Bool) (o : Option X) → o ≡ None → (if z then o else None) ≡ None
  if-none true o e = e
  if-none false o e = refl

  identity-rests : LeavesRest drop_identity
  identity-rests = (go, refl)
    where
      go : (before : Bool) (b : Place) (s : Step) (p : Pipe) → step_rests b s ≡ true → steps_rest (place_behind b s) p ≡ true → drop_identity m c S before s (steps p) ≡ None
      go before b Step.Identity p h k = cc
      go before b s p h k = refl

  split-rests : LeavesRest split_conjunction
  split-rests = (go, refl)
    where
      go : (before : Bool) (b : Place) (s : Step) (p : Pipe) → step_rests b s ≡ true → steps_rest (place_behind b s) p ≡ true → split_conjunction m c S before s (steps p) ≡ None
      go before b (Step.Filter (Expr.Binary BinOp.And x y)) p h k = cc
      go before b s p h k = refl

  true-rests : LeavesRest drop_true
  true-rests = (go, refl)
    where
      go : (before : Bool) (b : Place) (s : Step) (p : Pipe) → step_rests b s ≡ true → steps_rest (place_behind b s) p ≡ true → drop_true m c S before s (steps p) ≡ None
      go before b (Step.Filter (Expr.Bool' true)) p h k = cc
      go before b s p h k = refl

  compute-rests : LeavesRest pass_compute
  compute-rests = (go, refl)
    where
      go : (before : Bool) (b : Place) (s : Step) (p : Pipe) → step_rests b s ≡ true → steps_rest (place_behind b s) p ≡ true → pass_compute m c S before s (steps p) ≡ None
      go before b (Step.Compute ns) p h k = none-passes (after m c S (Step.Compute ns)) ns (Step.Compute ns) p k
      go before b s p h k = refl

  order-rests : LeavesRest pass_order
  order-rests = (go, refl)
    where
      go : (before : Bool) (b : Place) (s : Step) (p : Pipe) → step_rests b s ≡ true → steps_rest (place_behind b s) p ≡ true → pass_order m c S before s (steps p) ≡ None
      go before b (Step.OrderBy items) p h k = if-none (order_sure m S items) (passing m S (λ b. true) (Step.OrderBy items) (steps p)) (ap (option_map (λ r. Step.Filter r.last ∷ behind (Step.OrderBy items) r)) (none-found S (λ r. true) p k))
      go before b s p h k = refl

  grouping-rests : (kind : RollupPart → Bool) → LeavesRest (pass_grouping kind)
  grouping-rests kind = (go, refl)
    where
      go : (before : Bool) (b : Place) (s : Step) (p : Pipe) → step_rests b s ≡ true → steps_rest (place_behind b s) p ≡ true → pass_grouping kind m c S before s (steps p) ≡ None
      go before b (Step.GroupBy ks T) p h k = cc
      go before b s p h k = refl

  branches-rests : LeavesRest filter_branches
  branches-rests = (go, refl)
    where
      go : (before : Bool) (b : Place) (s : Step) (p : Pipe) → step_rests b s ≡ true → steps_rest (place_behind b s) p ≡ true → filter_branches m c S before s (steps p) ≡ None
      go before b (Step.Concat ps) p h k = ap (option_map _) (none-found (after m c S (Step.Concat ps)) _ p k)
      go before b s p h k = refl

-- ---- any place

module _ (m : Model) (c : Customs) (r : Rule) (leaves : (S : Shape) → LeavesRest m c S r) where
  -- a branch, from its steps
  branch-none : (p : Pipe) (b : Place) (S : Shape) → (steps_rest b p ≡ true → pipe_results r m c S false p ≡ []) → (is_alone p || (is_long p && steps_rest b p)) ≡ true → pipe_results r m c S false p ≡ []
  unfolding pipe_results
  branch-none Pipe.End b S f h = refl
  branch-none (Pipe.Then Step.Identity Pipe.End) b S f h = λ i. map pipe (option_to_list ((leaves S).1 i)) ++ [] ++ []
  branch-none (Pipe.Then Step.Identity (Pipe.Then s p)) b S f h = cc
  branch-none (Pipe.Then s p) b S f h = f h

  mutual
    unfolding pipe_results

    steps-none : (p : Pipe) (b : Place) (S : Shape) (before : Bool) → steps_rest b p ≡ true → pipe_results r m c S before p ≡ []
    steps-none Pipe.End b S before h = refl
    steps-none (Pipe.Then s p) b S before h =
        let t = and_parts (step_rests b s) (steps_rest (place_behind b s) p) h in
        let here = (leaves S).0 before b s p t.0 t.1 in
        let inside = step-none s b S t.0 in
        let rest = steps-none p (place_behind b s) (after m c S s) true t.1 in
        λ i. map pipe (option_to_list (here i)) ++ map (λ s'. Pipe.Then s' p) (inside i) ++ map (Pipe.Then s) (rest i)

    branches-none : (ps : Pipes) (b : Place) (S : Shape) → branches_rest b ps ≡ true → branch_results r m c S ps ≡ []
    branches-none Pipes.NoPipes b S h = refl
    branches-none (Pipes.MorePipes p ps) b S h =
        let t = and_parts (is_alone p || (is_long p && steps_rest b p)) (branches_rest b ps) h in
        let first = branch-none p b S (steps-none p b S false) t.0 in
        let others = branches-none ps b S t.1 in
        λ i. map (λ q. Pipes.MorePipes q ps) (first i) ++ map (Pipes.MorePipes p) (others i)

    step-none : (s : Step) (b : Place) (S : Shape) → step_rests b s ≡ true → step_results r m c S s ≡ []
    step-none (Step.GroupBy ks T) b S h = cc
    step-none (Step.Join outer n a T) b S h = cc
    step-none (Step.Climb up h' p T d keep) b S h = cc
    step-none (Step.Concat ps) b S h = ap (map Step.Concat) (branches-none ps b S h)
    step-none s b S h = refl

-- the first eight rules leave what rests
pub first-leave : (m : Model) (c : Customs) → Each (λ r. (S : Shape) → LeavesRest m c S r) (take 8 rules)
first-leave m c = (
  identity-rests m c,
  (split-rests m c, (true-rests m c, (compute-rests m c, (order-rests m c, (λ S. grouping-rests m c S is_no_rollup, (λ S. grouping-rests m c S is_levels, (branches-rests m c, tt))))))),
)

pub nothing-first : (m : Model) (c : Customs) (p : Pipe) (S : Shape) → pipe_rests p ≡ true → (r : Rule) → Contains (take 8 rules) r → pipe_results r m c S false p ≡ []
nothing-first m c p S h r k = steps-none m c r (each-contains (λ r. (S : Shape) → LeavesRest m c S r) (take 8 rules) r (first-leave m c) k) p Place.Free S false h
