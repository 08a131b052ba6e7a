use Rattle.std.proofs.Common.{◌≡◌, ◌∙◌, map}
use Rattle.apply_ast.specs.Trees.{pipe}
use Rattle.apply_ast.specs.Views.{step_of}
use Rattle.walk_laws.specs.Crossing.{all_cross}
use Rattle.walk_laws.specs.Walks.{shape_behind}
use Rattle.optimiser.proofs.crossing.later_crossing.Goals as goal

pub returns-then-count-gt0 : goal.returns-then-count-gt0
returns-then-count-gt0 c m cs S before crossed =
    let k = c.crossing_at.ensures in record {
      whole = k.whole;
      cross = (λ i. all_cross m cs (shape_behind m cs S (pipe (map step_of (k.before i)))) (step_of (k.concat i)) (map step_of (k.filters i))) ∙ crossed c.if-count-gt0.true;
    }
