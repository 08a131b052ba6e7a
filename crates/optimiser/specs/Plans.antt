-- Plans as their two typings, and one rewrite of a typed pipeline.
use Rattle.std.specs.Prelude.{◌≡◌, ◌⊎◌, ℕ, Bool, true, List, Option, Some, None, drop, length, unwrap_or}
use Rattle.edm_values.specs.Lists.{find_map}
use Rattle.edm_model.specs.Models.{Model}
use Rattle.apply_ast.specs.Trees.{Pipe}
use Rattle.apply_ast.specs.Views.{pipe_of}
use Rattle.context_typing.specs.Answers.{IsTyping}
use Rattle.context_typing.specs.Typing.{Customs, shape_of_set}
use Rattle.context_typing.specs.declared.typed.Typed.{Typed}
use Rattle.rewrite_laws.specs.Rewrites.{Rule, IsPlanOf, first_rewrite, next, rewritten, rules}
use Rattle.walk_laws.specs.Factored.{factored, factored_inside}
use Rattle.walk_laws.specs.Walks.{Rules, All, Early, rules_of, walk}
use Rattle.optimiser.specs.declared.plans.Plan.{Plan}

-- the typing of the pipeline that was written
abbrev pub written_of : Plan → Typed
written_of p = p.written

-- the typing of the pipeline that is run
abbrev pub own_of : Plan → Typed
own_of p = unwrap_or p.own p.written

-- the typings are of one entity set, one pipeline and one shape
pub record AreOneTyping (t u : Typed) : Type 0 where
  pub set : t.set ≡ u.set
  pub pipe : pipe_of t.pipe ≡ pipe_of u.pipe
  pub shape : t.shape ≡ u.shape

-- the pipeline that is run is what rewriting makes of the written one, and no rule applies to it
abbrev pub IsOptimised : Model → Customs → Plan → Type 0
IsOptimised m c p = IsPlanOf m c (shape_of_set m (written_of p).set) (pipe_of (written_of p).pipe) (pipe_of (own_of p).pipe)

-- a plan over a model and its customs: the written typing is one over them; what is run has its set and its shape, and is the written pipeline or the plan of it
pub record IsPlan (m : Model) (c : Customs) (p : Plan) : Type 0 where
  pub typing : IsTyping m c (written_of p)
  pub set : (own_of p).set ≡ (written_of p).set
  pub shape : (own_of p).shape ≡ (written_of p).shape
  pub pipe : (pipe_of (own_of p).pipe ≡ pipe_of (written_of p).pipe) ⊎ IsOptimised m c p

-- the typed pipeline after one rewrite by the first of these rules that applies, which has the set and the shape of the one before; nothing where none of them applies
abbrev pub IsFirstOf : List Rule → Model → Customs → Typed → Option Typed → Type 0
IsFirstOf rs m c t None = find_map (λ r. first_rewrite r m c (shape_of_set m t.set) (pipe_of t.pipe)) rs ≡ None
IsFirstOf rs m c t (Some q) = (q.set ≡ t.set) × (q.shape ≡ t.shape) × (find_map (λ r. first_rewrite r m c (shape_of_set m t.set) (pipe_of t.pipe)) rs ≡ Some (pipe_of q.pipe))

-- the typed pipeline after one rewrite; nothing where no rule applies
abbrev pub IsNext : Model → Customs → Typed → Option Typed → Type 0
IsNext = IsFirstOf rules

-- the rules behind those of the early walk
abbrev pub later_rules : List Rule
later_rules = drop (length (rules_of Early)) rules

-- a typed pipeline settled in one walk, with its set and its shape
pub record IsWalked (w : Rules) (m : Model) (c : Customs) (t q : Typed) : Type 0 where
  pub set : q.set ≡ t.set
  pub shape : q.shape ≡ t.shape
  pub pipe : pipe_of q.pipe ≡ walk w m c (shape_of_set m t.set) (pipe_of t.pipe)

-- a typed pipeline with the steps that come out of branches before the concatenations, with its set and its shape
pub record IsWithFactored (t q : Typed) : Type 0 where
  pub set : q.set ≡ t.set
  pub shape : q.shape ≡ t.shape
  pub pipe : pipe_of q.pipe ≡ factored (pipe_of t.pipe)

-- the same, in joins, groupings and climbs too
pub record IsWithFactoredInside (t q : Typed) : Type 0 where
  pub set : q.set ≡ t.set
  pub shape : q.shape ≡ t.shape
  pub pipe : pipe_of q.pipe ≡ factored_inside (pipe_of t.pipe)

-- a typed pipeline settled in one walk by all rules, with the steps that come out of branches then, with its set and its shape
pub record IsGiven (m : Model) (c : Customs) (t q : Typed) : Type 0 where
  pub set : q.set ≡ t.set
  pub shape : q.shape ≡ t.shape
  pub pipe : pipe_of q.pipe ≡ factored (walk All m c (shape_of_set m t.set) (pipe_of t.pipe))

-- a typed pipeline whose plan is the plan of another, with its set and its shape
pub record HasPlanOf (m : Model) (c : Customs) (t q : Typed) : Type 0 where
  pub set : q.set ≡ t.set
  pub shape : q.shape ≡ t.shape
  pub typing : IsTyping m c q
  pub plan : (r : Pipe) → IsPlanOf m c (shape_of_set m q.set) (pipe_of q.pipe) r → IsPlanOf m c (shape_of_set m t.set) (pipe_of t.pipe) r

-- such a pipeline, of which the next rewrite is by a later rule
pub record IsTurned (m : Model) (c : Customs) (t q : Typed) : Type 0 where
  pub set : q.set ≡ t.set
  pub shape : q.shape ≡ t.shape
  pub typing : IsTyping m c q
  pub plan : (r : Pipe) → IsPlanOf m c (shape_of_set m q.set) (pipe_of q.pipe) r → IsPlanOf m c (shape_of_set m t.set) (pipe_of t.pipe) r
  pub later : next m c (shape_of_set m q.set) (pipe_of q.pipe) ≡ find_map (λ r. first_rewrite r m c (shape_of_set m q.set) (pipe_of q.pipe)) later_rules

-- a pipeline with the same plan, and whether it is known that no rule applies to it
pub record IsRounded (m : Model) (c : Customs) (t : Typed) (q : Typed × Bool) : Type 0 where
  pub made : HasPlanOf m c t q.0
  pub done : q.1 ≡ true → next m c (shape_of_set m q.0.set) (pipe_of q.0.pipe) ≡ None

-- such a pipeline, of which the next rewrite is by a later rule, and whether it is known that there is none
pub record IsBegun (m : Model) (c : Customs) (t : Typed) (q : Typed × Bool) : Type 0 where
  pub made : IsTurned m c t q.0
  pub done : q.1 ≡ true → IsFirstOf later_rules m c q.0 None

-- a typed pipeline that rewrites lead to from another, with its set and its shape, of which the next rewrite is by a later rule
pub record IsTurn (m : Model) (c : Customs) (t q : Typed) : Type 0 where
  pub set : q.set ≡ t.set
  pub shape : q.shape ≡ t.shape
  pub typing : IsTyping m c q
  pub reached : (n : ℕ) × (rewritten n m c (shape_of_set m t.set) (pipe_of t.pipe) ≡ Some (pipe_of q.pipe))
  pub later : next m c (shape_of_set m t.set) (pipe_of q.pipe) ≡ find_map (λ r. first_rewrite r m c (shape_of_set m t.set) (pipe_of q.pipe)) later_rules

-- the plan of a typed pipeline, with its set and its shape
pub record IsTypedPlan (m : Model) (c : Customs) (t q : Typed) : Type 0 where
  pub set : q.set ≡ t.set
  pub shape : q.shape ≡ t.shape
  pub pipe : IsPlanOf m c (shape_of_set m t.set) (pipe_of t.pipe) (pipe_of q.pipe)
