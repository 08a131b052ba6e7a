-- The forms of steps that hold pipelines, as functions that the code has.
use Rattle.std.specs.Prelude.{Option, Some, None}
use Rattle.apply_ast.specs.Trees.{Keys, OptPipe, Pipes, Step}

-- the branches of a concatenation
abbrev pub branches_of : Step → Option Pipes
branches_of (Step.Concat ps) = Some ps
branches_of s = None

-- the keys of a grouping, and the pipeline for each group
abbrev pub grouped_by : Step → Option (Keys × OptPipe)
grouped_by (Step.GroupBy ks T) = Some (ks, T)
grouped_by s = None

-- the step, where it is a join
abbrev pub joined_by : Step → Option Step
joined_by (Step.Join outer n a T) = Some (Step.Join outer n a T)
joined_by s = None

-- the step, where it is a climb
abbrev pub climbed_by : Step → Option Step
climbed_by (Step.Climb up h p T d keep) = Some (Step.Climb up h p T d keep)
climbed_by s = None
