-- A pipeline settled in one walk over its steps, and over those of the pipelines inside them, by the first eight rules or by all. That this is the plan of a typed pipeline without a concatenation is a law; no definition of plans names it.
use Rattle.std.specs.Prelude.{min, Bool, true, false, not, ◌&&◌, ◌||◌, List, [], ◌∷◌, ◌++◌, drop, length, nat_lt, take, Option, Some, None, map, option_and_then, option_to_list, if◌then◌else◌}
use Rattle.std.specs.Bool.{then_some}
use Rattle.std.specs.List.{list_any, list_all}
use Rattle.edm_values.specs.Lists.{is_nonempty, is_some_and}
use Rattle.edm_values.specs.Literals.{is_boolean_kind}
use Rattle.edm_values.specs.Names.{Name, Path}
use Rattle.edm_model.specs.Models.{Model}
use Rattle.apply_ast.specs.Trees.{Expr, Limit, TopStep, Pipe, Step, OptPipe, Pipes, Key, Keys}
use Rattle.apply_ast.specs.declared.expressions.BinOp.TheVariants as BinOp
use Rattle.context_typing.specs.Paths.{begins}
use Rattle.context_typing.specs.Shapes.{Shape, set_shape}
use Rattle.context_typing.specs.Typing.{Customs, after, group_keys, has_kind, hierarchy_at, is_nodes, is_risky, is_sure, join_navigation, order_sure, plain_paths, rollup_part, rollup_paths, steps_shape}
use Rattle.rewrite_laws.specs.Rewrites.{Rule, branches, grouping_quiet, is_among, join_quiet, node_shape, on_node, over, paths, pipe_or_identity, rollup_keys_in_every_row, rules, top_count, with_paths}
use Rattle.rewrite_laws.specs.TreeEquality.{expr_same}

-- the rules that a walk has: the first eight, or all but the ninth, since it takes no steps out of branches
pub data Rules : Type 0 where
  Early : Rules
  All : Rules

-- whether a walk has the later rules
abbrev pub is_late : Rules → Bool
is_late Early = false
is_late All = true

-- the rules of a walk, in their order
abbrev pub rules_of : Rules → List Rule
rules_of Early = take 8 rules
rules_of All = take 8 rules ++ drop 9 rules

-- a filter, with whether it is sure where it was written
pub record Test : Type 0 where
  pub expr : Expr
  pub sure : Bool

-- a step that is no filter, or none at the front, and the filters behind it. `lets`: filters may pass the step, as far as the step alone decides; `passes`: which of them do then; `enters`: as what a filter goes into the step, if it does; `head`: the step, settled, once these filters have gone into it
pub record Segment : Type 0 where
  pub lets : Bool
  pub passes : Test → Bool
  pub enters : Test → Option Expr
  pub head : List Expr → Option Step
  pub tests : List Test

-- ---- what the rules ask

-- filters may pass a step, as far as the step alone decides
abbrev pub step_lets : Model → Customs → Shape → Step → Bool
step_lets m c S (Step.Compute ns) = true
step_lets m c S (Step.OrderBy items) = order_sure m S items
step_lets m c S (Step.GroupBy ks T) = grouping_quiet m c S ks T
step_lets m c S (Step.Join outer n a T) = join_quiet m c S n T
step_lets m c S (Step.Traverse w) = not (is_risky S w.path)
step_lets m c S s = false

-- a filter may pass a step that lets filters pass
abbrev pub step_passed : Rules → Step → Test → Bool
step_passed r (Step.Compute ns) t = not (list_any (is_among (map (λ x. x.name ∷ []) ns)) (paths t.expr))
step_passed r (Step.OrderBy items) t = true
step_passed r (Step.GroupBy ks T) t = (is_late r || not (is_nodes (rollup_part (group_keys ks)))) && over (plain_paths ks ++ rollup_keys_in_every_row (rollup_part (group_keys ks))) t.expr && t.sure
step_passed r (Step.Join outer n a T) t = is_late r && not (list_any (begins a) (paths t.expr)) && (outer || t.sure)
step_passed r (Step.Traverse w) t = is_late r && t.sure
step_passed r s t = false

-- a filter may go to the nodes that a grouping shows, whose shape and key these are
abbrev pub chooses_nodes : Model → Keys → Shape × Name → Expr → Bool
chooses_nodes m ks N e = is_nonempty (paths e) && over (rollup_paths (rollup_part (group_keys ks))) e && has_kind is_boolean_kind m N.0 (on_node N.1 e) && is_sure m N.0 (on_node N.1 e)

-- as what a filter goes into a step. Into a join goes one that names nothing but what is under the alias; the alias alone is no such path
abbrev pub step_enters : Rules → Model → Customs → Shape → Step → Test → Option Expr
step_enters r m c S (Step.GroupBy ks T) t =
    if is_late r && is_nodes (rollup_part (group_keys ks)) && grouping_quiet m c S ks T && t.sure
    then option_and_then (λ N. then_some (chooses_nodes m ks N t.expr) (on_node N.1 t.expr)) (node_shape m c ks) else None
step_enters r m c S (Step.Concat ps) t = then_some (list_all (λ p. is_some_and (λ S'. has_kind is_boolean_kind m S' t.expr) (steps_shape m c S p)) (branches ps)) t.expr
step_enters r m c S (Step.Join false n a T) t = then_some (is_late r && is_nonempty (paths t.expr) && list_all (begins a) (paths t.expr) && list_all (λ p. nat_lt 1 (length p)) (paths t.expr)) (with_paths (drop 1) t.expr)
step_enters r m c S s t = None

-- ---- filters

-- the filters that a filter is split into, but those that are always true
abbrev pub parts : Model → Shape → Expr → List Expr
parts m S (Expr.Binary BinOp.And a b) = if is_sure m S b then parts m S a ++ parts m S b else Expr.Binary BinOp.And a b ∷ []
parts m S (Expr.Bool' true) = []
parts m S e = e ∷ []

-- a filter on the shape where it stands
abbrev pub judged : Model → Shape → Expr → Test
judged m S e = record { expr = e; sure = is_sure m S e }

-- a filter goes past filters: where there are any, all have to be sure
abbrev pub tests_passed : List Test → Test → Bool
tests_passed ts t = not (is_nonempty ts) || (list_all (λ u. u.sure) ts && t.sure)

-- a filter passes a segment: its step, and the filters behind
abbrev pub segment_passed : Segment → Test → Bool
segment_passed g t = tests_passed g.tests t && g.lets && g.passes t

-- a segment with one more filter
abbrev pub with_test : Segment → Test → Segment
with_test g t = record g { tests = g.tests ++ (t ∷ []) }

-- a segment into whose step a filter has gone
abbrev pub entered : Segment → Test → Expr → Segment
entered g t e = record g { lets = g.lets && t.sure; head = λ es. g.head (e ∷ es) }

-- a segment with a filter that goes into the step as something, or stays behind
abbrev pub taken_as : Segment → Test → Option Expr → Segment
taken_as g t None = with_test g t
taken_as g t (Some e) = entered g t e

-- a segment with a filter that does not pass it
abbrev pub taken : Segment → Test → Segment
taken g t = taken_as g t (if tests_passed g.tests t then g.enters t else None)

-- a filter goes to the front past the segments that it passes; the last segment stands first
abbrev pub put_test : Test → List Segment → List Segment
put_test t [] = []
put_test t (g ∷ gs) = if segment_passed g t then g ∷ put_test t gs else taken g t ∷ gs

-- filters one after the other
abbrev pub put_tests : List Test → List Segment → List Segment
put_tests [] gs = gs
put_tests (t ∷ ts) gs = put_tests ts (put_test t gs)

-- a filter as it was written: the filters that it is split into, one after the other
abbrev pub put_filter : Model → Shape → Expr → List Segment → List Segment
put_filter m S e gs = put_tests (map (judged m S) (parts m S e)) gs

-- filters as they were written
abbrev pub put_filters : Model → Shape → List Expr → List Segment → List Segment
put_filters m S [] gs = gs
put_filters m S (e ∷ es) gs = put_filters m S es (put_filter m S e gs)

-- ---- other steps

-- a step with no filter behind it, and what it is once filters have gone into it
abbrev pub segment : Rules → Model → Customs → Shape → Step → (List Expr → Step) → Segment
segment r m c S s made = record { lets = step_lets m c S s; passes = step_passed r s; enters = step_enters r m c S s; head = λ es. Some (made es); tests = [] }

-- the step of a segment
abbrev pub head_of : Segment → Option Step
head_of g = g.head []

-- an order
abbrev pub is_order : Option Step → Bool
is_order (Some (Step.OrderBy items)) = true
is_order _ = false

-- a computation that does not make a path
abbrev pub is_beside : Path → Option Step → Bool
is_beside p (Some (Step.Compute ns)) = not (is_among (map (λ x. x.name ∷ []) ns) p)
is_beside p _ = false

-- without the orders by sure items at the end
abbrev pub without_orders : List Segment → List Segment
without_orders [] = []
without_orders (g ∷ gs) = if not (is_nonempty g.tests) && g.lets && is_order (head_of g) then without_orders gs else g ∷ gs

-- without the orders by sure items and the computations of other paths at the end
abbrev pub without_idle : Path → List Segment → List Segment
without_idle p [] = []
without_idle p (g ∷ gs) = if not (is_nonempty g.tests) && ((g.lets && is_order (head_of g)) || is_beside p (head_of g)) then without_idle p gs else g ∷ gs

-- the count that stands for two, where the first is the step of a segment
abbrev pub joined_count : Option Step → TopStep → Option TopStep
joined_count (Some (Step.TopBy u)) t = option_and_then (λ n. option_and_then (λ k. then_some (expr_same u.expr t.expr) (record u { limit = Limit.Count (min n k) })) (top_count t.bottom t.limit)) (top_count u.bottom u.limit)
joined_count h t = None

-- the count that stands for the last step and another
abbrev pub last_count : Segment → TopStep → Option TopStep
last_count g t = if is_nonempty g.tests then None else joined_count (head_of g) t

-- the segment of a selection
abbrev pub selection : TopStep → Segment
selection t = record { lets = false; passes = λ u. false; enters = λ u. None; head = λ es. Some (Step.TopBy t); tests = [] }

-- a selection goes behind, or becomes one with the last step
abbrev pub put_selection : TopStep → List Segment → List Segment
put_selection t [] = selection t ∷ []
put_selection t (g ∷ gs) = elim (last_count g t) [ None ↦ selection t ∷ g ∷ gs | Some u ↦ selection u ∷ gs ]

-- one more step, on the shape before it, with what it is once filters have gone into it
abbrev pub put_step : Rules → Model → Customs → Shape → Step → (List Expr → Step) → List Segment → List Segment
put_step r m c S Step.Identity made gs = gs
put_step r m c S (Step.Filter e) made gs = put_filter m S e gs
put_step r m c S (Step.Aggregate as') made gs = segment r m c S (Step.Aggregate as') made ∷ (if is_late r then without_orders gs else gs)
put_step r m c S (Step.TopBy t) made gs = if is_late r then put_selection t gs else selection t ∷ gs
put_step r m c S s made gs = segment r m c S s made ∷ gs

-- ---- pipelines

-- no step, and no filter
abbrev pub front : List Segment
front = record { lets = false; passes = λ t. false; enters = λ t. None; head = λ es. None; tests = [] } ∷ []

-- the steps of a segment
abbrev pub segment_steps : Segment → List Step
segment_steps g = option_to_list (head_of g) ++ map (λ t. Step.Filter t.expr) g.tests

-- the steps of segments, of which the last stands first
abbrev pub all_steps : List Segment → List Step
all_steps [] = []
all_steps (g ∷ gs) = all_steps gs ++ segment_steps g

-- the pipeline of segments
abbrev pub whole : List Segment → Pipe
whole gs = pipe_or_identity (all_steps gs)

-- the shape behind steps
abbrev pub shape_behind : Model → Customs → Shape → Pipe → Shape
shape_behind m c S Pipe.End = S
shape_behind m c S (Pipe.Then s p) = shape_behind m c (after m c S s) p

unfoldable mutual
  -- the segments after the steps of a pipeline
  pub put_steps : Rules → Model → Customs → Shape → Pipe → List Segment → List Segment
  put_steps r m c S Pipe.End gs = gs
  put_steps r m c S (Pipe.Then s p) gs = put_steps r m c (after m c S s) p (put_step r m c S s (settled_step r m c S s) gs)

  -- an inner pipeline, settled once filters have gone to its end
  pub settled_inner : Rules → Model → Customs → Shape → OptPipe → List Expr → OptPipe
  settled_inner r m c S OptPipe.NoPipe [] = OptPipe.NoPipe
  settled_inner r m c S OptPipe.NoPipe (e ∷ es) = OptPipe.SomePipe (whole (put_filters m S (e ∷ es) front))
  settled_inner r m c S (OptPipe.SomePipe p) es = OptPipe.SomePipe (whole (put_filters m (shape_behind m c S p) es (put_steps r m c S p front)))

  -- branches, each settled once filters have gone to the end of each
  pub settled_branches : Rules → Model → Customs → Shape → Pipes → List Expr → Pipes
  settled_branches r m c S Pipes.NoPipes es = Pipes.NoPipes
  settled_branches r m c S (Pipes.MorePipes p ps) es = Pipes.MorePipes (whole (put_filters m (shape_behind m c S p) es (put_steps r m c S p front))) (settled_branches r m c S ps es)

  -- a key with its pipeline settled once filters have gone to its end
  pub settled_key : Rules → Model → Customs → Key → List Expr → Key
  settled_key r m c (Key.Recursive h p T) es = Key.Recursive h p (elim (hierarchy_at m h) [ None ↦ T | Some f ↦ settled_inner r m c (set_shape f.type) T es ])
  settled_key r m c k es = k

  -- keys, each settled
  pub settled_keys : Rules → Model → Customs → Keys → List Expr → Keys
  settled_keys r m c Keys.NoKeys es = Keys.NoKeys
  settled_keys r m c (Keys.MoreKeys k ks) es = Keys.MoreKeys (settled_key r m c k es) (settled_keys r m c ks es)

  -- a step with the pipelines inside it settled once filters have gone into it
  pub settled_step : Rules → Model → Customs → Shape → Step → List Expr → Step
  settled_step r m c S (Step.GroupBy ks T) es = Step.GroupBy (settled_keys r m c ks es) (settled_inner r m c S T [])
  settled_step r m c S (Step.Concat ps) es = Step.Concat (settled_branches r m c S ps es)
  settled_step r m c S (Step.Join outer n a T) es = Step.Join outer n a (elim (join_navigation m S n) [ None ↦ T | Some v ↦ settled_inner r m c (set_shape v.target) T es ])
  settled_step r m c S (Step.Climb up h p T d keep) es = Step.Climb up h p (whole (if is_late r then without_idle p (put_steps r m c S T front) else put_steps r m c S T front)) d keep
  settled_step r m c S s es = s

-- a pipeline by one walk
abbrev pub walk : Rules → Model → Customs → Shape → Pipe → Pipe
walk r m c S p = whole (put_steps r m c S p front)

-- ---- pipelines without concatenations

abbrev mutual
  -- a pipeline has no concatenation, inner pipelines included
  pub is_unbranched : Pipe → Bool
  is_unbranched Pipe.End = true
  is_unbranched (Pipe.Then s p) = unbranched_step s && is_unbranched p

  -- an inner pipeline has none
  pub unbranched_inner : OptPipe → Bool
  unbranched_inner OptPipe.NoPipe = true
  unbranched_inner (OptPipe.SomePipe p) = is_unbranched p

  -- a key has none
  pub unbranched_key : Key → Bool
  unbranched_key (Key.Recursive h p T) = unbranched_inner T
  unbranched_key k = true

  -- keys have none
  pub unbranched_keys : Keys → Bool
  unbranched_keys Keys.NoKeys = true
  unbranched_keys (Keys.MoreKeys k ks) = unbranched_key k && unbranched_keys ks

  -- a step is none and has none
  pub unbranched_step : Step → Bool
  unbranched_step (Step.GroupBy ks T) = unbranched_keys ks && unbranched_inner T
  unbranched_step (Step.Concat ps) = false
  unbranched_step (Step.Join outer n a T) = unbranched_inner T
  unbranched_step (Step.Climb up h p T d keep) = is_unbranched T
  unbranched_step s = true
