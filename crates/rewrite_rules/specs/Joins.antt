-- Joins, and filters behind a step that is quiet.
use Rattle.std.specs.Prelude.{Bool, IsTrue, List, ◌∷◌, Option, Some, None, drop, is_some, option_map, if◌then◌else◌}
use Rattle.edm_values.specs.Names.{Name}
use Rattle.edm_model.specs.Models.{Model}
use Rattle.apply_ast.specs.Trees.{Expr, OptPipe, Step, pipe}
use Rattle.apply_ast.specs.Views.{inner_of, pipe_of}
use Rattle.apply_ast.specs.declared.steps.JoinStep.{JoinStep, out-JoinStep}
use Rattle.context_typing.specs.Shapes.{Shape}
use Rattle.context_typing.specs.Typing.{Customs, after, step_quiet, steps_shape}
use Rattle.rewrite_rules.specs.Conditions.{meets}
use Rattle.rewrite_rules.specs.declared.filters.Condition.{Condition}
use Rattle.rewrite_laws.specs.Rewrites.{ended_inner, passing, with_paths}

-- a join: whether an instance without related entities is kept, the navigation, the alias, and the pipeline
pub record Joined : Type 0 where
  pub outer : Bool
  pub nav : Name
  pub alias : Name
  pub inner : OptPipe

-- the parts of a join that the program has
abbrev pub join_parts : JoinStep → Joined
join_parts j = record {
  outer = (out-JoinStep j).outer;
  nav = (out-JoinStep j).nav;
  alias = (out-JoinStep j).alias;
  inner = inner_of (option_map pipe_of (out-JoinStep j).inner);
}

-- the join that a step is
abbrev pub joined_by : Step → Option Joined
joined_by (Step.Join outer n a T) = Some (record { outer = outer; nav = n; alias = a; inner = T })
joined_by s = None

-- a join with one more filter at the end of its pipeline: the filter without the alias
abbrev pub with_filter : Joined → Expr → Step
with_filter j b = Step.Join j.outer j.nav j.alias (ended_inner j.inner (Step.Filter (with_paths (drop 1) b)))

-- the nearest filter that meets a condition passes a step that is quiet
abbrev pub passing_quiet : Model → Customs → Shape → Condition → Step → List Step → Option (List Step)
passing_quiet m c S condition s ss = if step_quiet m c S s then passing m (after m c S s) (meets m (after m c S s) condition) s ss else None

-- a step and those behind it are typed
abbrev pub IsTypedFrom : Model → Customs → Shape → Step → List Step → Type 0
IsTypedFrom m c S s ss = IsTrue (is_some (steps_shape m c S (pipe (s ∷ ss))))
