-- The segments of the program, as the definition of the walk has them.
use Rattle.std.specs.Prelude.{◌≡◌, ℕ, ◌-◌, ◌<◌, Bool, true, false, not, ◌&&◌, ◌||◌, List, [], ◌∷◌, ◌++◌, Option, Some, None, IsTrue, drop, is_some, length, map, nat_lt, option_map, reverse, slice_get, slice_index_or, take, if◌then◌else◌}
use Rattle.std.specs.Bool.{then_some}
use Rattle.std.specs.List.{list_all, list_any}
use Rattle.edm_values.specs.Lists.{is_nonempty, is_some_and}
use Rattle.edm_values.specs.Literals.{is_boolean_kind}
use Rattle.edm_values.specs.Names.{Name, Path}
use Rattle.edm_model.specs.Models.{Model}
use Rattle.apply_ast.specs.Trees.{Expr, Step}
use Rattle.apply_ast.specs.Views.{expr_of, named_of, top_of}
use Rattle.context_typing.specs.Paths.{begins}
use Rattle.context_typing.specs.Shapes.{Shape}
use Rattle.context_typing.specs.ShapeTypes.{has_types}
use Rattle.context_typing.specs.Typing.{Customs, has_kind, is_sure, step_shape}
use Rattle.rewrite_laws.specs.Rewrites.{is_among, on_node, over, paths, with_paths}
use Rattle.walk_laws.specs.Walks as spec
use Rattle.optimiser.specs.KnownSteps.{is_known}
use Rattle.optimiser.specs.declared.known.Known.{Known}
use Rattle.optimiser.specs.declared.held.Entry.{Entry}
use Rattle.optimiser.specs.declared.held.Entry.TheVariants as entry
use Rattle.optimiser.specs.declared.held.Head.{Head}
use Rattle.optimiser.specs.declared.held.Head.TheVariants as head
use Rattle.optimiser.specs.declared.held.Passage.{Passage}
use Rattle.optimiser.specs.declared.held.Passage.TheVariants as passage
use Rattle.optimiser.specs.declared.held.Segment.{Segment}
use Rattle.optimiser.specs.declared.held.Test.{Test}

-- a filter
abbrev pub test_of : Test → spec.Test
test_of t = record { expr = expr_of t.expr; sure = t.sure }

-- which filters may pass a step that lets filters pass
abbrev pub passes : Passage → spec.Test → Bool
passes passage.Closed t = false
passes (passage.Beside ns) t = not (list_any (is_among (map (λ x. x.name ∷ []) (map named_of ns.now))) (paths t.expr))
passes passage.Free t = true
passes (passage.Over ps) t = over ps.items t.expr && t.sure
passes (passage.Outside a unsure) t = not (list_any (begins a.now) (paths t.expr)) && (unsure || t.sure)
passes passage.Sure t = t.sure

-- a filter as it goes into branches, behind which these are the shapes
abbrev pub into_branches : Model → List Shape → Expr → Option Expr
into_branches m Ss e = then_some (list_all (λ S. has_kind is_boolean_kind m S e) Ss) e

-- a filter as it goes into a join with this alias
abbrev pub into_related : Name → Expr → Option Expr
into_related a e = then_some (is_nonempty (paths e) && list_all (begins a) (paths e) && list_all (λ p. nat_lt 1 (length p)) (paths e)) (with_paths (drop 1) e)

-- a filter as it goes to the nodes that a grouping by these paths shows, whose shape and key these are
abbrev pub into_nodes : Model → List Path → Shape → Name → Expr → Option Expr
into_nodes m ps S k e = then_some (is_nonempty (paths e) && over ps e && has_kind is_boolean_kind m S (on_node k e) && is_sure m S (on_node k e)) (on_node k e)

-- as what a filter goes into a step
abbrev pub enters : Model → Entry → spec.Test → Option Expr
enters m entry.Closed t = None
enters m (entry.Branches Ss) t = into_branches m Ss.now t.expr
enters m (entry.Related a) t = into_related a.now t.expr
enters m (entry.Nodes ps S k) t = if t.sure then into_nodes m ps.items S k t.expr else None

-- the shapes of an entry are of the model
abbrev pub is_right : Model → Entry → Bool
is_right m (entry.Branches Ss) = list_all (has_types m) Ss.now
is_right m (entry.Nodes ps S k) = has_types m S
is_right m e = true

-- what does not change of a walk: the rules, the custom aggregates, and the steps of the pipeline
pub record Frame : Type 0 where
  pub rules : spec.Rules
  pub customs : Customs
  pub steps : List Step

-- a step once filters have gone into it, the first of which are known
abbrev pub made : Model → Frame → Head → List Expr → List Expr → Option Step
made m w head.Front xs es = None
made m w (head.Written k S) xs es = option_map (λ s. spec.settled_step w.rules m w.customs S s (xs ++ es)) (slice_get w.steps k)
made m w (head.Count t) xs es = Some (Step.TopBy (top_of t))

-- the written step of a segment
abbrev pub written : List Step → Head → Option Step
written ss (head.Written k S) = slice_get ss k
written ss h = None

-- a segment
abbrev pub segment_of : Model → Frame → Segment → spec.Segment
segment_of m w g = record { lets = g.lets; passes = passes g.passage; enters = enters m g.entry; head = made m w g.head (map expr_of g.entered.items); tests = map test_of g.tests.items }

-- segments; the program has the last segment last, and the definition has it first
abbrev pub segments_of : Model → Frame → List Segment → List spec.Segment
segments_of m w gs = reverse (map (segment_of m w) gs)

-- what filters leave as it is: the step of a segment, and which filters go into it
abbrev pub outline : Segment → Head × Entry
outline g = (g.head, g.entry)

-- what holds of each segment of a list holds of each of another
abbrev pub IsKept : List Segment → List Segment → Type 0
IsKept gs gs' = (p : Head × Entry → Bool) → IsTrue (list_all p (map outline gs)) → IsTrue (list_all p (map outline gs'))

-- the shapes of all entries are of the model
abbrev pub are_right : Model → List Segment → Bool
are_right m gs = list_all (λ x. is_right m x.1) (map outline gs)

-- what is known of the step at a place is so on a shape
abbrev pub is_known_at : Model → Customs → Shape → Step → Option Known → Bool
is_known_at m c S s k = is_some_and (is_known m c S s) k

-- a step is at its place, and typed there on a shape of the model; what is known of the steps is so of it
abbrev pub is_there : Model → Customs → List Step → List Known → Head → Bool
is_there m c ss ks (head.Written k S) = has_types m S && is_some_and (λ s. is_some (step_shape m c S s) && is_known_at m c S s (slice_get ks k)) (slice_get ss k)
is_there m c ss ks h = true

-- all steps are at their places
abbrev pub are_there : Model → Customs → List Step → List Known → List Segment → Bool
are_there m c ss ks gs = list_all (λ x. is_there m c ss ks x.0) (map outline gs)

-- a filter passes the segments from a place on
abbrev pub IsPast : Model → Frame → spec.Test → List Segment → ℕ → Type 0
IsPast m w t gs k = spec.put_test t (segments_of m w gs) ≡ reverse (map (segment_of m w) (drop k gs)) ++ spec.put_test t (segments_of m w (take k gs))

-- a filter passes the segments from a place on, and not the one before it
pub record GoesTo (m : Model) (w : Frame) (t : spec.Test) (gs : List Segment) (k : ℕ) : Type 0 where
  pub past : IsPast m w t gs k
  pub stops : (g : Segment) → 0 < k → g ≡ slice_index_or gs (k - 1) g → spec.segment_passed (segment_of m w g) t ≡ false
