-- What a run returns, when a pipeline may be run, and which pipelines are plain.
use Rattle.std.specs.Prelude.{◌≡◌, ◌&&◌, Bool, true, false, IsTrue, List, [], ◌∷◌, Some, None, map}
use Rattle.std.specs.declared.result.Result as result
use Rattle.std.specs.Global.{Vec}
use Rattle.std.specs.List.{list_all}
use Rattle.edm_data.specs.Worlds.{World}
use Rattle.edm_values.specs.declared.Method.{Method}
use Rattle.edm_values.specs.declared.Value.{Value}
use Rattle.edm_values.specs.declared.refusals.Refused.{Refused}
use Rattle.edm_values.specs.Literals.{AreNumbers}
use Rattle.edm_values.specs.Names.{Path}
use Rattle.edm_values.specs.Refusals.{Returns}
use Rattle.apply_ast.specs.Trees.{AggItem, Named, Pipe, Step}
use Rattle.context_typing.specs.Shapes.{Shape}
use Rattle.context_typing.specs.Typing.{Customs, steps_shape, step_shape, customs_typed, is_lawful}
use Rattle.apply_meaning.specs.Instances.{Instance, val, extended}
use Rattle.apply_meaning.specs.Meaning.{Outcome, column, item_value, values}
use Rattle.apply_meaning.specs.MeaningLaws.{AllFit}
use Rattle.apply_meaning.specs.RowViews.{is_of, columns_differ}

-- what a run returned, where the meaning is known: `Memory` says nothing
abbrev pub Gives : result.Result (Vec Instance) Refused → Outcome → Type 0
Gives r m = Returns (λ (v : Vec Instance). m ≡ Some v.items) (m ≡ None) r

-- ---- lists of rows

-- the entities of all instances are of the world
abbrev pub all_of : World → List Instance → Bool
all_of w l = list_all (is_of w) l

-- the columns of a computation on an instance
abbrev pub new_columns : World → List Named → Instance → List (Path × Value)
new_columns w ns i = map (λ x. column x.name (val w i x.expr)) ns

-- the columns of each instance differ from its new ones
abbrev pub all_free : World → List Named → List Instance → Bool
all_free w ns l = list_all (λ i. columns_differ (extended i (new_columns w ns i)).columns) l

-- ---- aggregations without custom aggregates

-- the item is a count or has a method
abbrev pub is_standard : AggItem → Bool
is_standard (AggItem.Custom n a) = false
is_standard _ = true

-- the method is no sum, or the values are of one type of numbers
abbrev pub AreFor : Method → List Value → Type 0
AreFor Method.Sum vs = AreNumbers vs
AreFor _ vs = Unit {0}

-- the item is no sum, or its values are of one type of numbers
abbrev pub IsSummable : World → List Instance → AggItem → Type 0
IsSummable w l (AggItem.Standard e f a) = AreFor f (values w e l)
IsSummable w l _ = Unit {0}

-- each item is
abbrev pub AreSummable : World → List Instance → List AggItem → Type 0
AreSummable w l [] = Unit {0}
AreSummable w l (x ∷ xs) = IsSummable w l x × AreSummable w l xs

-- the columns of the items differ
abbrev pub ItemsDiffer : World → List Instance → List AggItem → Type 0
ItemsDiffer w l items = (c : Customs) × (S : Shape) × IsTrue (columns_differ (map (item_value w c S l) items))

-- ---- pipelines

-- a transformation that needs neither an order, nor groups, nor another pipeline
abbrev pub is_plain_step : Step → Bool
is_plain_step Step.Identity = true
is_plain_step (Step.Filter e) = true
is_plain_step (Step.Compute items) = true
is_plain_step (Step.Skip n) = true
is_plain_step (Step.Top n) = true
is_plain_step (Step.Aggregate items) = list_all is_standard items
is_plain_step _ = false

-- all transformations of a pipeline pass
abbrev pub all_steps : (Step → Bool) → Pipe → Bool
all_steps passes Pipe.End = true
all_steps passes (Pipe.Then s p) = passes s && all_steps passes p

-- a pipeline of plain transformations
abbrev pub is_plain : Pipe → Bool
is_plain = all_steps is_plain_step

-- a pipeline that takes one shape to another, and instances that fit the first
pub record Runs (w : World) (c : Customs) (S S' : Shape) (p : Pipe) (l : List Instance) : Type 0 where
  pub customs : IsTrue (customs_typed w.model c)
  pub lawful : IsTrue (is_lawful w.model S)
  pub typed : steps_shape w.model c S p ≡ Some S'
  pub fit : AllFit w S l

-- the same of one transformation
pub record StepRuns (w : World) (c : Customs) (S S' : Shape) (s : Step) (l : List Instance) : Type 0 where
  pub customs : IsTrue (customs_typed w.model c)
  pub lawful : IsTrue (is_lawful w.model S)
  pub typed : step_shape w.model c S s ≡ Some S'
  pub fit : AllFit w S l

-- the pipeline is typed on some shape that the instances fit
abbrev pub Ready : World → Pipe → List Instance → Type 0
Ready w p l = (c : Customs) × (S : Shape) × (S' : Shape) × Runs w c S S' p l

-- the same of one transformation
abbrev pub StepReady : World → Step → List Instance → Type 0
StepReady w s l = (c : Customs) × (S : Shape) × (S' : Shape) × StepRuns w c S S' s l
