-- What the program's steps and keys are as trees, for the functions that make them.
use Rattle.std.proofs.Common.{◌≡◌, ℕ, Bool, List, Option, ◌∙◌}
use Rattle.apply_ast.specs.Trees.{Pipe, Step, Key, Keys, Pipes}
use Rattle.apply_ast.specs.Views.{hier_of, key_layer, step_layer, climb_layer, join_layer, keys_layer, pipe_layer, pipes_layer, step_of, pipe_of}
use Rattle.apply_ast.specs.declared.items.HierName as of_hier
use Rattle.apply_ast.specs.declared.steps.Pipe as of_pipe
use Rattle.apply_ast.specs.declared.steps.ClimbStep as of_climb
use Rattle.apply_ast.specs.declared.steps.Step.TheVariants as step
use Rattle.apply_ast.proofs.ViewEquations.{key_of-Plain, key_of-Rollup, key_of-Recursive, step_of-Identity, step_of-Filter, step_of-Compute, step_of-OrderBy, step_of-Skip, step_of-Top, step_of-Aggregate, step_of-GroupBy, step_of-Concat, step_of-Join, step_of-TopBy, step_of-Climb, step_of-Traverse, join_of-parts, climb_of-is, pipe_of-is, keys_of-is, pipes_of-is}

pub ruleset views = (key_of-Plain, key_of-Rollup, key_of-Recursive, step_of-Identity, step_of-Filter, step_of-Compute, step_of-OrderBy, step_of-Skip, step_of-Top, step_of-Aggregate, step_of-GroupBy, step_of-Concat, step_of-Join, step_of-TopBy, step_of-Climb, step_of-Traverse, join_of-parts, climb_of-is, pipe_of-is, keys_of-is, pipes_of-is)

-- a climb that is made of these parts
pub climb_is_made : (up : Bool) (h : of_hier.HierName) (p : List (List ℕ)) (q : of_pipe.Pipe) (d : Option ℕ) (keep : Bool) → step_of (step.Climb (of_climb.roll-ClimbStep (record { up = up; hier = h; path = p; inner = q; distance = d; keep = keep }))) ≡ Step.Climb up (hier_of h) p (pipe_of q) d keep
climb_is_made up h p q d keep =
    step_of-Climb (of_climb.roll-ClimbStep (record { up = up; hier = h; path = p; inner = q; distance = d; keep = keep }))
    ∙ of_climb.fold-roll-ClimbStep Key Step Step Step Keys Pipe Pipes key_layer step_layer climb_layer join_layer keys_layer pipe_layer pipes_layer (record { up = up; hier = h; path = p; inner = q; distance = d; keep = keep })
