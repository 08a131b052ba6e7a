-- When a pipeline may be run, where the type at the empty prefix is known, and what runs of its parts need.
use Rattle.std.specs.Prelude.{◌≡◌, ℕ, ◌≤◌, All, Bool, IsTrue, List, Option, Some, None, true, false, length, map, nat_lt, slice_get, is_some, option_and_then}
use Rattle.std.specs.List.{list_all}
use Rattle.edm_values.specs.declared.Value.{Value}
use Rattle.edm_values.specs.Lists.{at_places}
use Rattle.edm_values.specs.Literals.{AreNumbers}
use Rattle.edm_values.specs.Names.{Name}
use Rattle.edm_model.specs.LookUps.{HierarchyPlace}
use Rattle.edm_model.specs.Models.{Custom}
use Rattle.edm_data.specs.Worlds.{World}
use Rattle.apply_ast.specs.Trees.{AggItem, HierName, Keys, Limit, OptPipe, Pipe, Step}
use Rattle.context_typing.specs.Readings.{readings}
use Rattle.context_typing.specs.Shapes.{Shape, set_shape}
use Rattle.context_typing.specs.Typing.{Reading, custom_at, customs_typed, hierarchy_at, inner_shape, item_column, keys_typed, rollup_parts, root_type}
use Rattle.apply_meaning.specs.Instances.{Instance, extended, rows}
use Rattle.apply_meaning.specs.Meaning.{custom_value, item_value, keyed, mean}
use Rattle.apply_meaning.specs.MeaningLaws.{AllFit}
use Rattle.apply_meaning.specs.RowViews.{columns_differ}
use Rattle.apply_meaning.specs.Running.{Runs, StepRuns}
use Rattle.hier_states.specs.States.{IsReadyAt}
use Rattle.step_run.specs.Contexts.{Context}
use Rattle.step_run.specs.Costs.{application, cost}
use Rattle.step_run.specs.Levels.{Level}

-- ---- pipelines

-- a pipeline that takes one shape to another, the type at the empty prefix of the first, and instances that fit it
pub record RunsFrom (x : Context) (root : Option ℕ) (S S' : Shape) (p : Pipe) (l : List Instance) : Type 0 where
  pub runs : Runs x.world (readings x.customs) S S' p l
  pub root_is : root_type S ≡ root

-- the same of one transformation
pub record StepRunsFrom (x : Context) (root : Option ℕ) (S S' : Shape) (s : Step) (l : List Instance) : Type 0 where
  pub runs : StepRuns x.world (readings x.customs) S S' s l
  pub root_is : root_type S ≡ root

-- the pipeline is typed on some shape that the instances fit and that has this type at its empty prefix
abbrev pub ReadyFrom : Context → Option ℕ → Pipe → List Instance → Type 0
ReadyFrom x root p l = (S : Shape) × (S' : Shape) × RunsFrom x root S S' p l

-- the same of one transformation
abbrev pub StepReadyFrom : Context → Option ℕ → Step → List Instance → Type 0
StepReadyFrom x root s l = (S : Shape) × (S' : Shape) × StepRunsFrom x root S S' s l

-- a grouping
abbrev pub is_grouping : Step → Bool
is_grouping (Step.GroupBy ks T) = true
is_grouping _ = false

-- ---- inner pipelines

-- an inner pipeline, where there is one, is typed on a shape that the instances fit
abbrev pub InnerRuns : Context → Option ℕ → Shape → Shape → OptPipe → List Instance → Type 0
InnerRuns x root S G OptPipe.NoPipe l = Unit {0}
InnerRuns x root S G (OptPipe.SomePipe p) l = RunsFrom x root S G p l

-- the inner pipeline is so typed on some shape
abbrev pub InnerReady : Context → Option ℕ → OptPipe → List Instance → Type 0
InnerReady x root T l = (S : Shape) × (G : Shape) × InnerRuns x root S G T l

-- ---- aggregations

-- the custom aggregate of this name of the type at the empty prefix, with its reading
abbrev pub named_custom : Context → Option ℕ → Name → Option (Custom × Reading)
named_custom x root n = option_and_then (λ t. custom_at x.world.model (readings x.customs) t n) root

-- its value on instances, null where there is none
abbrev pub named_value : Context → Option ℕ → Name → List Instance → Value
named_value x root n l = elim (named_custom x root n) [ None ↦ Value.Null | Some u ↦ custom_value x.world u.0 u.1 l ]

-- the instances fit some shape that has this type at its empty prefix
abbrev pub RootFits : World → Option ℕ → List Instance → Type 0
RootFits w root l = (S : Shape) × (root_type S ≡ root) × AllFit w S l

-- an item is typed on a shape that has this type at its empty prefix, and that the instances fit
pub record ItemRuns (x : Context) (root : Option ℕ) (S : Shape) (item : AggItem) (l : List Instance) : Type 0 where
  pub root_is : root_type S ≡ root
  pub typed : IsTrue (is_some (item_column x.world.model (readings x.customs) S item))
  pub fit : AllFit x.world S l

-- the same of all items, whose columns differ
pub record ItemsRun (x : Context) (root : Option ℕ) (S : Shape) (items : List AggItem) (l : List Instance) : Type 0 where
  pub root_is : root_type S ≡ root
  pub typed : IsTrue (list_all (λ item. is_some (item_column x.world.model (readings x.customs) S item)) items)
  pub fit : AllFit x.world S l
  pub differ : IsTrue (columns_differ (map (item_value x.world (readings x.customs) S l) items))

-- the item is typed on some such shape
abbrev pub ItemReady : Context → Option ℕ → AggItem → List Instance → Type 0
ItemReady x root item l = (S : Shape) × ItemRuns x root S item l

-- the items are
abbrev pub ItemsReady : Context → Option ℕ → List AggItem → List Instance → Type 0
ItemsReady x root items l = (S : Shape) × ItemsRun x root S items l

-- ---- hierarchies

-- the states of these hierarchies are indexes of the parents of their nodes
abbrev pub AreReady : Context → List HierName → Type 0
AreReady x hs = All (IsReadyAt x.world x.hiers) hs

-- a pipeline, where there is one, is typed on the shape of a hierarchy's nodes, and leads to instances of nodes
pub record ShownRuns (x : Context) (f : HierarchyPlace) (N : Shape) (T : OptPipe) : Type 0 where
  pub typed : inner_shape x.world.model (readings x.customs) (set_shape f.type) (set_shape f.type) T ≡ Some N
  pub inner : InnerRuns x (Some f.type) (set_shape f.type) N T (rows x.world f.set)
  pub nodes : root_type N ≡ Some f.type

-- the pipeline is so typed for the hierarchy of this name
abbrev pub ShownReady : Context → HierName → OptPipe → Type 0
ShownReady x h T = (f : HierarchyPlace) → hierarchy_at x.world.model h ≡ Some f → (N : Shape) × ShownRuns x f N T

-- the keys of a grouping are typed on some shape, and at most one is not plain
pub record KeysReady (x : Context) (ks : Keys) : Type 0 where
  pub shape : Shape
  pub customs : IsTrue (customs_typed x.world.model (readings x.customs))
  pub typed : IsTrue (keys_typed x.world.model (readings x.customs) shape ks)
  pub few : length (rollup_parts ks) ≤ 1

-- ---- groupings

-- what an application of an inner pipeline to a group counts
abbrev pub charge_of : Context → Shape → Pipe → List Instance → List Value × List ℕ → ℕ
charge_of x S p l g = application (cost x.world (readings x.customs) S p) (mean x.world (readings x.customs) S p) (at_places l g.1)

-- an inner pipeline is typed on a shape that the instances fit, the groups of a level are of these instances, and what it makes of one has no column of its key
pub record GroupRuns (x : Context) (root : Option ℕ) (S G : Shape) (level : Level) (p : Pipe) (l : List Instance) : Type 0 where
  pub inner : RunsFrom x root S G p l
  pub within : (n : ℕ) (g : List Value × List ℕ) → slice_get level.1 n ≡ Some g → IsTrue (list_all (λ k. nat_lt k (length l)) g.1)
  pub free : (n : ℕ) (g : List Value × List ℕ) (r : List Instance) → slice_get level.1 n ≡ Some g → mean x.world (readings x.customs) S p (at_places l g.1) ≡ Some r
      → IsTrue (list_all (λ i. columns_differ (extended i (keyed level.0 g.0)).columns) r)

-- the same for each level
abbrev pub LevelsRun : Context → Option ℕ → Shape → Shape → List Level → Pipe → List Instance → Type 0
LevelsRun x root S G levels p l = (n : ℕ) (level : Level) → slice_get levels n ≡ Some level → GroupRuns x root S G level p l

-- the inner pipeline is so typed on some shape
abbrev pub GroupReady : Context → Option ℕ → Level → Pipe → List Instance → Type 0
GroupReady x root level p l = (S : Shape) × (G : Shape) × GroupRuns x root S G level p l

-- the same for each level
abbrev pub LevelsReady : Context → Option ℕ → List Level → Pipe → List Instance → Type 0
LevelsReady x root levels p l = (S : Shape) × (G : Shape) × LevelsRun x root S G levels p l

-- ---- selections

-- what a selection needs of the values: they are of one type of numbers where their sum is reached for
abbrev pub LimitReady : Limit → List Value → Type 0
LimitReady (Limit.Count n) vs = Unit {0}
LimitReady (Limit.Sum x) vs = AreNumbers vs
LimitReady (Limit.Percent p) vs = AreNumbers vs × (p ≤ 100)
