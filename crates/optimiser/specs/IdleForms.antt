-- Steps at the end of segments, by the forms that the code has.
use Rattle.std.specs.Prelude.{◌≡◌, Bool, true, false, not, List, ◌∷◌, [], Option, Some, None, map, slice_get, if◌then◌else◌}
use Rattle.edm_values.specs.Names.{Path}
use Rattle.apply_ast.specs.Trees.{Step, TopStep}
use Rattle.apply_ast.specs.Views.{top_of}
use Rattle.edm_model.specs.Models.{Model}
use Rattle.context_typing.specs.Shapes.{Shape}
use Rattle.context_typing.specs.Typing.{Customs}
use Rattle.rewrite_laws.specs.Rewrites.{is_among}
use Rattle.optimiser.specs.HeldSegments.{Frame, outline}
use Rattle.optimiser.specs.declared.held.Entry.TheVariants as entry
use Rattle.optimiser.specs.declared.held.Segment as held
use Rattle.walk_laws.specs.Walks.{Rules, Segment, is_late, last_count, put_step, settled_step, without_idle, without_orders}
use Rattle.walk_laws.specs.Walks as spec
use Rattle.optimiser.specs.declared.held.Head.{Head}
use Rattle.optimiser.specs.declared.held.Head.TheVariants as head

-- what does not change of a walk
abbrev pub frame : Rules → Customs → List Step → Frame
frame r c ss = record { rules = r; customs = c; steps = ss }

-- a step is idle at the end: an order that lets filters pass, or before a climb to a path a computation that does not make it
abbrev pub step_idle : Option Path → Bool → Step → Bool
step_idle p lets (Step.OrderBy items) = lets
step_idle (Some p) lets (Step.Compute ns) = not (is_among (map (λ x. x.name ∷ []) ns) p)
step_idle p lets s = false

-- the same of a written step, where there is one
abbrev pub head_idle : Option Path → Bool → Option Step → Bool
head_idle p lets None = false
head_idle p lets (Some s) = step_idle p lets s

-- the segments without those at the end that are idle
abbrev pub without : Option Path → List Segment → List Segment
without None gs = without_orders gs
without (Some p) gs = without_idle p gs

-- the selection that a step is
abbrev pub selected : Option Step → Option TopStep
selected (Some (Step.TopBy t)) = Some t
selected h = None

-- the selection that the step of a segment is
abbrev pub head_selection : List Step → Head → Option TopStep
head_selection ss head.Front = None
head_selection ss (head.Written k S) = selected (slice_get ss k)
head_selection ss (head.Count t) = Some (top_of t)

-- the segment of a written step
abbrev pub segment : Rules → Model → Customs → Shape → Step → Segment
segment r m c S s = spec.segment r m c S s (settled_step r m c S s)

-- the segments after one more written step
abbrev pub stepped : Rules → Model → Customs → Shape → Step → List Segment → List Segment
stepped r m c S s gs = put_step r m c S s (settled_step r m c S s) gs

-- the count that stands for the last step of segments and another
abbrev pub joined_last : List Segment → TopStep → Option TopStep
joined_last [] t = None
joined_last (g ∷ gs) t = last_count g t

-- one segment alone, at the front
abbrev pub AreFront : List held.Segment → Type 0
AreFront gs = map outline gs ≡ (head.Front, entry.Closed) ∷ []

-- the segments before an aggregation
abbrev pub before_aggregate : Rules → List Segment → List Segment
before_aggregate r gs = if is_late r then without_orders gs else gs

-- a step that is put behind the segments as they are
abbrev pub is_put : Step → Bool
is_put Step.Identity = false
is_put (Step.Filter e) = false
is_put (Step.Aggregate as') = false
is_put (Step.TopBy t) = false
is_put s = true
