-- What a walk makes of pipelines, by the forms that the code has.
use Rattle.std.specs.Prelude.{ℕ, Bool, true, List, [], ◌∷◌, Option, Some, None, is_some}
use Rattle.std.specs.List.{list_all}
use Rattle.edm_values.specs.Names.{Path}
use Rattle.edm_model.specs.Models.{Model}
use Rattle.apply_ast.specs.Trees.{Expr, Key, OptPipe, Pipe}
use Rattle.context_typing.specs.Shapes.{Shape, set_shape}
use Rattle.context_typing.specs.Typing.{Customs, hierarchy_at, steps_shape}
use Rattle.walk_laws.specs.Walks.{Rules, Segment, front, put_filters, put_steps, settled_inner, shape_behind, whole, without_idle}

-- segments without those at the end that are idle before a climb to a path, where one is given
abbrev pub dropped : Option Path → List Segment → List Segment
dropped None gs = gs
dropped (Some p) gs = without_idle p gs

-- segments once filters have gone to their end, without those at the end that are idle before a climb to a path, where one is given
abbrev pub ended : Option Path → Model → Shape → List Expr → List Segment → List Segment
ended q m S es gs = dropped q (put_filters m S es gs)

-- the segments of a pipeline, once filters have gone to its end, without those at the end that are idle before a climb to a path
abbrev pub put_walk : Rules → Model → Customs → Shape → Pipe → List Expr → Option Path → List Segment
put_walk r m c S p es q = ended q m (shape_behind m c S p) es (put_steps r m c S p front)

-- a pipeline, settled once filters have gone to its end, without the steps at its end that are idle before a climb to a path
abbrev pub walked : Rules → Model → Customs → Shape → Pipe → List Expr → Option Path → Pipe
walked r m c S p es q = whole (put_walk r m c S p es q)

-- an inner pipeline of filters alone
abbrev pub of_filters : Model → Shape → List Expr → OptPipe
of_filters m S [] = OptPipe.NoPipe
of_filters m S (e ∷ es) = OptPipe.SomePipe (whole (put_filters m S (e ∷ es) front))

-- an inner pipeline on the instances of an entity type, settled where there is one
abbrev pub settled_on : Rules → Model → Customs → Option ℕ → OptPipe → List Expr → OptPipe
settled_on r m c of T es = elim of [ None ↦ T | Some t ↦ settled_inner r m c (set_shape t) T es ]

-- ---- typed pipelines inside a step

-- an inner pipeline is typed, where there is one
abbrev pub inner_typed : Model → Customs → Shape → OptPipe → Bool
inner_typed m c S OptPipe.NoPipe = true
inner_typed m c S (OptPipe.SomePipe p) = is_some (steps_shape m c S p)

-- all branches are typed
abbrev pub branches_typed : Model → Customs → Shape → List Pipe → Bool
branches_typed m c S ps = list_all (λ p. is_some (steps_shape m c S p)) ps

-- the pipeline that chooses the nodes of a key is typed
abbrev pub key_inside_typed : Model → Customs → Key → Bool
key_inside_typed m c (Key.Recursive h p T) = elim (hierarchy_at m h) [ None ↦ true | Some f ↦ inner_typed m c (set_shape f.type) T ]
key_inside_typed m c k = true

-- the pipelines that choose the nodes of keys are typed
abbrev pub keys_inside_typed : Model → Customs → List Key → Bool
keys_inside_typed m c ks = list_all (key_inside_typed m c) ks
