-- The pipeline of a climb without its last step, where that step is idle.
use Rattle.std.specs.Prelude.{Bool, true, false, Option, None, option_and_then}
use Rattle.std.specs.Bool.{then_some}
use Rattle.std.specs.List.{last_or}
use Rattle.edm_values.specs.Lists.{is_some_and}
use Rattle.edm_values.specs.Names.{Path}
use Rattle.edm_model.specs.Models.{Model}
use Rattle.apply_ast.specs.Trees.{Pipe, Step, pipe, steps}
use Rattle.context_typing.specs.Shapes.{Shape}
use Rattle.context_typing.specs.Typing.{Customs, steps_shape}
use Rattle.rewrite_laws.specs.Rewrites.{all_but_last, is_idle, pipe_or_identity}

-- a step may be idle at the end of a climb's pipeline
abbrev pub may_be_idle : Step → Bool
may_be_idle (Step.OrderBy items) = true
may_be_idle (Step.Compute ns) = true
may_be_idle s = false

-- a climb's pipeline without its last step, where that is idle
abbrev pub without_idle : Model → Customs → Shape → Path → Pipe → Option Pipe
without_idle m c S p T =
    option_and_then (λ x. then_some (is_some_and (λ S'. is_idle m S' p x) (steps_shape m c S (pipe (all_but_last T)))) (pipe_or_identity (all_but_last T))) (last_or None (steps T))
