use Rattle.std.proofs.Common.{◌≡◌, ◌+◌, ◌≤◌, length, map}
use Rattle.apply_ast.specs.Views.{step_of}
use Rattle.apply_grammar.specs.Limits.{served}
use Rattle.apply_grammar.specs.PipeReading.{whole_at, pipeline_at}
use Rattle.apply_grammar.proofs.PipeSteps.{step}
use Rattle.apply_grammar.proofs.PipeSteps.{behind}
use Rattle.apply_grammar.proofs.pipelines.read_pipeline.Given as goal

abbrev pub invariant-loop-x : goal.invariant-loop-x
invariant-loop-x l = (behind (map step_of l.steps.items) (whole_at (step served 32) l.n l.n l.rest) ≡ pipeline_at served 32 256 l.text) × (l.k ≡ length l.steps.items + 1) × (l.k + l.n ≤ 257)

abbrev pub decreases-loop-x : goal.decreases-loop-x
decreases-loop-x l = l.n
