-- When several pipelines may be run: the branches of a concatenation, and that of a join on what is related to each instance.
use Rattle.std.specs.Prelude.{◌≡◌, ℕ, List, Option, Some, None, map, slice_get}
use Rattle.std.specs.declared.result.Result as result
use Rattle.std.specs.Global.{Vec}
use Rattle.edm_values.specs.declared.refusals.Refused.{Refused}
use Rattle.edm_values.specs.Lists.{all_some}
use Rattle.edm_values.specs.Refusals.{Returns}
use Rattle.edm_model.specs.LookUps.{navigation_on}
use Rattle.edm_model.specs.Models.{Navigation, Part}
use Rattle.apply_ast.specs.Trees.{OptPipe, Pipe}
use Rattle.context_typing.specs.Shapes.{Shape, set_shape}
use Rattle.apply_meaning.specs.Instances.{Instance}
use Rattle.apply_meaning.specs.Meaning.{Outcome, related_rows}
use Rattle.step_run.specs.Conditions.{InnerRuns, RunsFrom}
use Rattle.step_run.specs.Contexts.{Context}

-- ---- several runs

-- what several runs returned, where the meaning of each is known: `Memory` says nothing
abbrev pub GivesAll : result.Result (Vec (Vec Instance)) Refused → List Outcome → Type 0
GivesAll r os = Returns (λ (v : Vec (Vec Instance)). all_some os ≡ Some (map (λ l. l.items) v.items)) (all_some os ≡ None) r

-- ---- concatenations

-- each branch is typed on a shape that the instances fit
abbrev pub BranchesRun : Context → Option ℕ → Shape → List Pipe → List Instance → Type 0
BranchesRun x root S ps l = (n : ℕ) (p : Pipe) → slice_get ps n ≡ Some p → (G : Shape) × RunsFrom x root S G p l

-- each branch is so typed on some shape
abbrev pub BranchesReady : Context → Option ℕ → List Pipe → List Instance → Type 0
BranchesReady x root ps l = (S : Shape) × BranchesRun x root S ps l

-- ---- joins

-- an inner pipeline, where there is one, is typed on the shape of a navigation's target, and takes what is related to each instance
abbrev pub RelatedRun : Context → Navigation → Shape → OptPipe → List Instance → Type 0
RelatedRun x v G T l = (n : ℕ) (i : Instance) → slice_get l n ≡ Some i → InnerRuns x (Some v.target) (set_shape v.target) G T (related_rows x.world v i)

-- the pipeline is so typed for the navigation that this one is
abbrev pub RelatedReady : Context → Part → OptPipe → List Instance → Type 0
RelatedReady x n T l = (v : Navigation) → navigation_on x.world.model n ≡ Some v → (G : Shape) × RelatedRun x v G T l
