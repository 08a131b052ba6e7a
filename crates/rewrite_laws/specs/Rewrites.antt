-- The rewrite rules, the order in which they apply, and the plan of a pipeline. They are this project's own.
use Rattle.std.specs.Prelude.{◌≡◌, ℕ, zero, suc, min, Bool, true, false, not, ◌&&◌, ◌||◌, List, [], ◌∷◌, ◌++◌, drop, reverse, Contains, Option, Some, None, map, filter, find, slice_get, option_and_then, option_map, option_to_list, is_some, if◌then◌else◌}
use Rattle.std.specs.Bool.{then_some}
use Rattle.std.specs.List.{list_any, list_all, last_or}
use Rattle.edm_model.specs.Models.{Model}
use Rattle.edm_values.specs.Lists.{is_nonempty, find_map, is_some_and}
use Rattle.edm_values.specs.Literals.{is_boolean_kind}
use Rattle.edm_values.specs.Names.{Name, Path}
use Rattle.apply_ast.specs.Trees.{Expr, Limit, Pipe, Step, OptPipe, Pipes, Key, Keys, steps, pipe}
use Rattle.apply_ast.specs.Views.{pipes_from}
use Rattle.context_typing.specs.Paths.{same_path, begins}
use Rattle.context_typing.specs.Typing.{hierarchy_at, Customs, has_kind, is_sure, is_risky, order_sure, inner_quiet, plain_paths, RollupPart, group_keys, rollup_part, rollup_paths, key_paths, join_navigation, after, steps_shape, inner_shape, is_nodes}
use Rattle.rewrite_laws.specs.TreeEquality.{expr_same, step_same}
use Rattle.context_typing.specs.Shapes.{Shape, set_shape}
use Rattle.apply_ast.specs.declared.expressions.BinOp.TheVariants as BinOp

-- the paths of an expression
abbrev pub paths : Expr → List Path
paths (Expr.Path' p) = p ∷ []
paths (Expr.Unary op a) = paths a
paths (Expr.Binary op a b) = paths a ++ paths b
paths (Expr.Call1 f a) = paths a
paths (Expr.Call2 f a b) = paths a ++ paths b
paths e = []

-- an expression with each path changed
abbrev pub with_paths : (Path → Path) → Expr → Expr
with_paths f (Expr.Path' p) = Expr.Path' (f p)
with_paths f (Expr.Unary op a) = Expr.Unary op (with_paths f a)
with_paths f (Expr.Binary op a b) = Expr.Binary op (with_paths f a) (with_paths f b)
with_paths f (Expr.Call1 g a) = Expr.Call1 g (with_paths f a)
with_paths f (Expr.Call2 g a b) = Expr.Call2 g (with_paths f a) (with_paths f b)
with_paths f e = e

-- a run of filters: those before the last one, the last one, and the steps behind it
pub record FilterRun : Type 0 where
  pub between : List Expr
  pub last : Expr
  pub rest : List Step

-- a run with one more filter before it
abbrev pub longer : Expr → FilterRun → FilterRun
longer e r = record r { between = e ∷ r.between }

-- the runs with which a list of steps begins, the shortest first
abbrev pub runs : List Step → List FilterRun
runs [] = []
runs (Step.Filter b ∷ ss) = record { between = []; last = b; rest = ss } ∷ map (longer b) (runs ss)
runs (_ ∷ ss) = []

-- the runs behind a step, on the shape after it, whose last filter may pass those between: where there are any, all are sure
abbrev pub movable : Model → Shape → List Step → List FilterRun
movable m S ss = filter (λ r. not (is_nonempty r.between) || (list_all (is_sure m S) r.between && is_sure m S r.last)) (runs ss)

-- a step with the filters between, and what follows
abbrev pub behind : Step → FilterRun → List Step
behind x r = x ∷ map Step.Filter r.between ++ r.rest

-- the nearest filter that meets the condition passes the step
abbrev pub passing : Model → Shape → (Expr → Bool) → Step → List Step → Option (List Step)
passing m S test x ss = option_map (λ r. Step.Filter r.last ∷ behind x r) (find (λ r. test r.last) (movable m S ss))

-- a rule at one place: over the shape there, whether a step stands before in the same pipeline, the step at the place and those behind it
abbrev pub Rule : Type 0
Rule = Model → Customs → Shape → Bool → Step → List Step → Option (List Step)

-- a path is one of these
abbrev pub is_among : List Path → Path → Bool
is_among ps p = list_any (same_path p) ps

-- whether all paths of an expression are among these
abbrev pub over : List Path → Expr → Bool
over ps b = list_all (is_among ps) (paths b)

-- identity beside another step is dropped
abbrev pub drop_identity : Rule
drop_identity m c S before Step.Identity ss = then_some (before || is_nonempty ss) ss
drop_identity m c S before x ss = None

-- a conjunction whose second operand is sure becomes two filters
abbrev pub split_conjunction : Rule
split_conjunction m c S before (Step.Filter (Expr.Binary BinOp.And a b)) ss = then_some (is_sure m S b) (Step.Filter a ∷ Step.Filter b ∷ ss)
split_conjunction m c S before x ss = None

-- the filter that is always true becomes identity
abbrev pub drop_true : Rule
drop_true m c S before (Step.Filter (Expr.Bool' true)) ss = Some (Step.Identity ∷ ss)
drop_true m c S before x ss = None

-- a filter that names no new column passes a computation
abbrev pub pass_compute : Rule
pass_compute m c S before (Step.Compute ns) ss =
    passing m (after m c S (Step.Compute ns)) (λ b. not (list_any (is_among (map (λ x. x.name ∷ []) ns)) (paths b))) (Step.Compute ns) ss
pass_compute m c S before x ss = None

-- a filter passes an order by sure expressions
abbrev pub pass_order : Rule
pass_order m c S before (Step.OrderBy items) ss = if order_sure m S items then passing m S (λ b. true) (Step.OrderBy items) ss else None
pass_order m c S before x ss = None

-- whether all keys of a grouping are sure and what is made of each group is quiet
abbrev pub grouping_quiet : Model → Customs → Shape → Keys → OptPipe → Bool
grouping_quiet m c S ks T = not (list_any (is_risky S) (key_paths (group_keys ks))) && inner_quiet m c S T

-- the keys that stand in every row of a grouping: plain ones, and the first of a rollup that has no level for all
abbrev pub rollup_keys_in_every_row : RollupPart → List Path
rollup_keys_in_every_row (RollupPart.Levels false (p ∷ ps)) = p ∷ []
rollup_keys_in_every_row _ = []

-- a rollup by levels
abbrev pub is_levels : RollupPart → Bool
is_levels (RollupPart.Levels all ps) = true
is_levels _ = false

-- plain keys alone
abbrev pub is_no_rollup : RollupPart → Bool
is_no_rollup RollupPart.NoRollup = true
is_no_rollup _ = false

-- a sure filter on keys that stand in every row passes a grouping of this kind
abbrev pub pass_grouping : (RollupPart → Bool) → Rule
pass_grouping kind m c S before (Step.GroupBy ks T) ss =
    if kind (rollup_part (group_keys ks)) && grouping_quiet m c S ks T then
    passing m (after m c S (Step.GroupBy ks T)) (λ b. over (plain_paths ks ++ rollup_keys_in_every_row (rollup_part (group_keys ks))) b && is_sure m (after m c S (Step.GroupBy ks T)) b) (Step.GroupBy ks T) ss
    else None
pass_grouping kind m c S before x ss = None

-- a sure filter on keys that stand in every row passes a grouping by plain keys
abbrev pub pass_groups : Rule
pass_groups = pass_grouping is_no_rollup

-- a sure filter on keys that stand in every row passes a grouping with a rollup
abbrev pub pass_rollup : Rule
pass_rollup = pass_grouping is_levels

-- the branches of a concatenation
abbrev pub branches : Pipes → List Pipe
branches Pipes.NoPipes = []
branches (Pipes.MorePipes p ps) = p ∷ branches ps

-- a concatenation of branches
abbrev pub concat : List Pipe → Step
concat ps = Step.Concat (pipes_from ps)

-- a pipeline with one more step at its end
abbrev pub ended : Pipe → Step → Pipe
ended p s = pipe (steps p ++ s ∷ [])

-- a filter that is typed on each branch goes to the end of every branch
abbrev pub filter_branches : Rule
filter_branches m c S before (Step.Concat ps) ss =
    option_map (λ r. behind (concat (map (λ p. ended p (Step.Filter r.last)) (branches ps))) r)
    (find (λ r. list_all (λ p. is_some_and (λ S'. has_kind is_boolean_kind m S' r.last) (steps_shape m c S p)) (branches ps)) (movable m (after m c S (Step.Concat ps)) ss))
filter_branches m c S before x ss = None

-- steps as a pipeline, which is identity where there are none
abbrev pub pipe_or_identity : List Step → Pipe
pipe_or_identity [] = Pipe.Then Step.Identity Pipe.End
pipe_or_identity (s ∷ ss) = pipe (s ∷ ss)

-- the step identity
abbrev pub is_identity : Step → Bool
is_identity Step.Identity = true
is_identity _ = false

-- a step with which all branches begin, but identity, goes before the concatenation
abbrev pub factor_branches : Rule
factor_branches m c S before (Step.Concat ps) ss =
    option_and_then (λ x. then_some (not (is_identity x) && list_all (λ p. is_some_and (step_same x) (slice_get (steps p) 0)) (branches ps))
    (x ∷ concat (map (λ p. pipe_or_identity (drop 1 (steps p))) (branches ps)) ∷ ss))
    (option_and_then (λ p. slice_get (steps p) 0) (slice_get (branches ps) 0))
factor_branches m c S before x ss = None

-- whether the pipeline of a join is quiet on the shape of the related entities
abbrev pub join_quiet : Model → Customs → Shape → Name → OptPipe → Bool
join_quiet m c S n T = is_some_and (λ v. inner_quiet m c (set_shape v.target) T) (join_navigation m S n)

-- a sure filter with no path under the alias passes a join
abbrev pub pass_join : Rule
pass_join m c S before (Step.Join false n a T) ss =
    if join_quiet m c S n T then
    passing m (after m c S (Step.Join false n a T)) (λ b. not (list_any (begins a) (paths b)) && is_sure m (after m c S (Step.Join false n a T)) b) (Step.Join false n a T) ss
    else None
pass_join m c S before x ss = None

-- an inner pipeline with one more step, which is that step where there was none
abbrev pub ended_inner : OptPipe → Step → OptPipe
ended_inner OptPipe.NoPipe s = OptPipe.SomePipe (Pipe.Then s Pipe.End)
ended_inner (OptPipe.SomePipe p) s = OptPipe.SomePipe (ended p s)

-- a filter whose paths all lie under the alias goes into the join
abbrev pub filter_related : Rule
filter_related m c S before (Step.Join false n a T) ss =
    option_map (λ r. behind (Step.Join false n a (ended_inner T (Step.Filter (with_paths (drop 1) r.last)))) r)
    (find (λ r. is_nonempty (paths r.last) && list_all (begins a) (paths r.last)) (movable m (after m c S (Step.Join false n a T)) ss))
filter_related m c S before x ss = None

-- a filter with no path under the alias passes an outer join
abbrev pub pass_outer_join : Rule
pass_outer_join m c S before (Step.Join true n a T) ss =
    if join_quiet m c S n T then passing m (after m c S (Step.Join true n a T)) (λ b. not (list_any (begins a) (paths b))) (Step.Join true n a T) ss else None
pass_outer_join m c S before x ss = None

-- an order by sure expressions directly before an aggregation is dropped
abbrev pub drop_order : Rule
drop_order m c S before (Step.OrderBy items) (Step.Aggregate as' ∷ ss) = then_some (order_sure m S items) (Step.Aggregate as' ∷ ss)
drop_order m c S before x ss = None

-- the number of a count from the top
abbrev pub top_count : Bool → Limit → Option ℕ
top_count false (Limit.Count n) = Some n
top_count bottom l = None

-- two counts from the top by one expression become the lesser
abbrev pub join_counts : Rule
join_counts m c S before (Step.TopBy t) (Step.TopBy u ∷ ss) =
    option_and_then (λ n. option_and_then (λ k. then_some (expr_same t.expr u.expr) (Step.TopBy (record t { limit = Limit.Count (min n k) }) ∷ ss)) (top_count u.bottom u.limit)) (top_count t.bottom t.limit)
join_counts m c S before x ss = None

-- a sure filter passes a walk over the nodes of a sure path
abbrev pub pass_traverse : Rule
pass_traverse m c S before (Step.Traverse t) ss = if is_risky S t.path then None else passing m S (is_sure m S) (Step.Traverse t) ss
pass_traverse m c S before x ss = None

-- a sure filter on the plain keys passes a grouping with a recursive rollup
abbrev pub pass_nodes : Rule
pass_nodes = pass_grouping is_nodes

-- the keys with one more step in the pipeline that chooses the nodes
abbrev pub ended_key : Step → Key → Key
ended_key s (Key.Recursive h p T) = Key.Recursive h p (ended_inner T s)
ended_key s k = k

-- the keys with one more step in the pipeline of the recursive rollup among them
abbrev pub ended_keys : Step → Keys → Keys
ended_keys s Keys.NoKeys = Keys.NoKeys
ended_keys s (Keys.MoreKeys k ks) = Keys.MoreKeys (ended_key s k) (ended_keys s ks)

-- the shape of the nodes that a recursive rollup shows, with the name of their key
abbrev pub node_shape : Model → Customs → Keys → Option (Shape × Name)
node_shape m c Keys.NoKeys = None
node_shape m c (Keys.MoreKeys (Key.Recursive h p T) ks) = option_and_then (λ f. option_map (λ N. (N, f.key.name)) (inner_shape m c (set_shape f.type) (set_shape f.type) T)) (hierarchy_at m h)
node_shape m c (Keys.MoreKeys _ ks) = node_shape m c ks

-- an expression with the node's key in place of each path
abbrev pub on_node : Name → Expr → Expr
on_node k b = with_paths (λ p. k ∷ []) b

-- a sure filter on the node alone goes to the end of the pipeline that chooses the nodes
abbrev pub filter_nodes : Rule
filter_nodes m c S before (Step.GroupBy ks T) ss = option_and_then (λ N.
    if is_nodes (rollup_part (group_keys ks)) && grouping_quiet m c S ks T then
    option_map (λ r. behind (Step.GroupBy (ended_keys (Step.Filter (on_node N.1 r.last)) ks) T) r)
    (find (λ r. is_nonempty (paths r.last) && over (rollup_paths (rollup_part (group_keys ks))) r.last && is_sure m (after m c S (Step.GroupBy ks T)) r.last
    && has_kind is_boolean_kind m N.0 (on_node N.1 r.last) && is_sure m N.0 (on_node N.1 r.last)) (movable m (after m c S (Step.GroupBy ks T)) ss))
    else None) (node_shape m c ks)
filter_nodes m c S before x ss = None

-- a step is idle at the end of a climb's pipeline: an order by sure expressions, or a computation that does not make the node's path
abbrev pub is_idle : Model → Shape → Path → Step → Bool
is_idle m S p (Step.OrderBy items) = order_sure m S items
is_idle m S p (Step.Compute ns) = not (is_among (map (λ x. x.name ∷ []) ns) p)
is_idle m S p s = false

-- the steps of a pipeline but the last
abbrev pub all_but_last : Pipe → List Step
all_but_last T = reverse (drop 1 (reverse (steps T)))

-- the last step of a climb's pipeline is dropped where it is idle
abbrev pub drop_idle : Rule
drop_idle m c S before (Step.Climb up h p T d keep) ss =
    option_and_then (λ x. then_some (is_some_and (λ S'. is_idle m S' p x) (steps_shape m c S (pipe (all_but_last T)))) (Step.Climb up h p (pipe_or_identity (all_but_last T)) d keep ∷ ss))
    (last_or None (steps T))
drop_idle m c S before x ss = None

-- the rules, in their order
abbrev pub rules : List Rule
rules = drop_identity ∷ split_conjunction ∷ drop_true ∷ pass_compute ∷ pass_order ∷ pass_groups ∷ pass_rollup ∷ filter_branches ∷ factor_branches ∷ pass_join
    ∷ filter_related ∷ pass_outer_join ∷ drop_order ∷ join_counts ∷ pass_traverse ∷ pass_nodes ∷ filter_nodes ∷ drop_idle ∷ []

unfoldable mutual
  -- what a rule makes of a pipeline at each place, in the order in which the places are printed
  pub pipe_results : Rule → Model → Customs → Shape → Bool → Pipe → List Pipe
  pipe_results r m c S before Pipe.End = []
  pipe_results r m c S before (Pipe.Then s p) =
      map pipe (option_to_list (r m c S before s (steps p))) ++ map (λ s'. Pipe.Then s' p) (step_results r m c S s)
      ++ map (Pipe.Then s) (pipe_results r m c (after m c S s) true p)

  -- what a rule makes of an inner pipeline at each place
  pub inner_results : Rule → Model → Customs → Shape → OptPipe → List OptPipe
  inner_results r m c S OptPipe.NoPipe = []
  inner_results r m c S (OptPipe.SomePipe p) = map OptPipe.SomePipe (pipe_results r m c S false p)

  -- what a rule makes of the branches at each place
  pub branch_results : Rule → Model → Customs → Shape → Pipes → List Pipes
  branch_results r m c S Pipes.NoPipes = []
  branch_results r m c S (Pipes.MorePipes p ps) =
      map (λ q. Pipes.MorePipes q ps) (pipe_results r m c S false p) ++ map (Pipes.MorePipes p) (branch_results r m c S ps)

  -- what a rule makes of a key at each place
  pub key_results : Rule → Model → Customs → Key → List Key
  key_results r m c (Key.Recursive h p T) = elim (hierarchy_at m h) [ None ↦ [] | Some f ↦ map (Key.Recursive h p) (inner_results r m c (set_shape f.type) T) ]
  key_results r m c k = []

  -- what a rule makes of the keys at each place
  pub keys_results : Rule → Model → Customs → Keys → List Keys
  keys_results r m c Keys.NoKeys = []
  keys_results r m c (Keys.MoreKeys k ks) = map (λ k'. Keys.MoreKeys k' ks) (key_results r m c k) ++ map (Keys.MoreKeys k) (keys_results r m c ks)

  -- what a rule makes of a step at each place inside it
  pub step_results : Rule → Model → Customs → Shape → Step → List Step
  step_results r m c S (Step.GroupBy ks T) = map (λ ks'. Step.GroupBy ks' T) (keys_results r m c ks) ++ map (Step.GroupBy ks) (inner_results r m c S T)
  step_results r m c S (Step.Concat ps) = map Step.Concat (branch_results r m c S ps)
  step_results r m c S (Step.Join outer n a T) = elim (join_navigation m S n) [
    | None ↦ []
    | Some v ↦ map (Step.Join outer n a) (inner_results r m c (set_shape v.target) T)
  ]
  step_results r m c S (Step.Climb up h p T d keep) = map (λ T'. Step.Climb up h p T' d keep) (pipe_results r m c S false T)
  step_results r m c S s = []

-- the results of a rule that have a typing, in the order of their places
abbrev pub rewrites : Rule → Model → Customs → Shape → Pipe → List Pipe
rewrites r m c S p = filter (λ q. is_some (steps_shape m c S q)) (pipe_results r m c S false p)

-- one pipeline comes from another by a rule at one place
abbrev pub IsRewrite : Rule → Model → Customs → Shape → Pipe → Pipe → Type 0
IsRewrite r m c S p q = Contains (rewrites r m c S p) q

-- the result of a rule at its first place
abbrev pub first_rewrite : Rule → Model → Customs → Shape → Pipe → Option Pipe
first_rewrite r m c S p = slice_get (rewrites r m c S p) 0

-- the result of the first rule that applies
abbrev pub next : Model → Customs → Shape → Pipe → Option Pipe
next m c S p = find_map (λ r. first_rewrite r m c S p) rules

-- the pipeline after n rewrites
abbrev pub rewritten : ℕ → Model → Customs → Shape → Pipe → Option Pipe
rewritten zero m c S p = Some p
rewritten (suc n) m c S p = option_and_then (rewritten n m c S) (next m c S p)

-- no rule applies
abbrev pub IsSettled : Model → Customs → Shape → Pipe → Type 0
IsSettled m c S p = next m c S p ≡ None

-- the plan of a pipeline: reached from it by rewrites, and settled
abbrev pub IsPlanOf : Model → Customs → Shape → Pipe → Pipe → Type 0
IsPlanOf m c S p q = ((n : ℕ) × (rewritten n m c S p ≡ Some q)) × IsSettled m c S q
