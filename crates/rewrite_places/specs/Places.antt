-- What a rule makes at its first place.
use Rattle.std.specs.Prelude.{◌≡◌, ℕ, Bool, false, [], Option, Some, None, IfSome, option_and_then, slice_get}
use Rattle.edm_model.specs.Models.{Model}
use Rattle.apply_ast.specs.Trees.{Pipe, Step, OptPipe, Pipes, Key, Keys}
use Rattle.context_typing.specs.Shapes.{Shape, set_shape}
use Rattle.apply_ast.specs.Views.{pipe_of}
use Rattle.context_typing.specs.declared.typed.Typed.{Typed}
use Rattle.context_typing.specs.Typing.{Customs, shape_of_set}
use Rattle.apply_meaning.specs.MeaningLaws.{IsLoaded}
use Rattle.rewrite_laws.specs.RewriteLaws.{MayStandFor}
use Rattle.rewrite_laws.specs.Rewrites.{Rule, pipe_results, inner_results, branch_results, key_results, keys_results, step_results, rewrites, first_rewrite}

-- ---- what a rule makes at its first place, if there is one

-- of a pipeline
abbrev pub first_in_pipe : Rule → Model → Customs → Shape → Bool → Pipe → Option Pipe
first_in_pipe r m c S before p = slice_get (pipe_results r m c S before p) 0

-- of an inner pipeline
abbrev pub first_in_inner : Rule → Model → Customs → Shape → OptPipe → Option OptPipe
first_in_inner r m c S T = slice_get (inner_results r m c S T) 0

-- of the branches
abbrev pub first_in_branches : Rule → Model → Customs → Shape → Pipes → Option Pipes
first_in_branches r m c S ps = slice_get (branch_results r m c S ps) 0

-- of a key
abbrev pub first_in_key : Rule → Model → Customs → Key → Option Key
first_in_key r m c k = slice_get (key_results r m c k) 0

-- of the keys
abbrev pub first_in_keys : Rule → Model → Customs → Keys → Option Keys
first_in_keys r m c ks = slice_get (keys_results r m c ks) 0

-- inside a step
abbrev pub first_in_step : Rule → Model → Customs → Shape → Step → Option Step
first_in_step r m c S s = slice_get (step_results r m c S s) 0

-- of a pipeline on the instances of an entity type, where there is one
abbrev pub first_on : Rule → Model → Customs → Option ℕ → Pipe → Option Pipe
first_on r m c of p = option_and_then (λ t. first_in_pipe r m c (set_shape t) false p) of

-- ---- what a call gives

-- the typed pipeline that a rule makes of another at its first place, which has its set and its shape; nothing where the rule applies at no place
abbrev pub IsFirst : Rule → Model → Customs → Typed → Option Typed → Type 0
IsFirst r m c t None = rewrites r m c (shape_of_set m t.set) (pipe_of t.pipe) ≡ []
IsFirst r m c t (Some q) = (q.set ≡ t.set) × (q.shape ≡ t.shape) × (first_rewrite r m c (shape_of_set m t.set) (pipe_of t.pipe) ≡ Some (pipe_of q.pipe))

-- what a call gives may stand for the pipeline that it was given: the same shape and meaning over every loaded world, and no further hierarchy
abbrev pub MayStand : Model → Customs → Typed → Option Typed → Type 0
MayStand m c t o = IfSome o (λ q. MayStandFor IsLoaded m c (shape_of_set m t.set) t.shape (pipe_of t.pipe) (pipe_of q.pipe))
