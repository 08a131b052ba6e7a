use Rattle.apply_ast.specs.Views.{pipe_of, step_of}
use Rattle.optimiser.proofs.ApartLemmas.{first-there}
use Rattle.optimiser.proofs.apart.first_step.Goals as goal

pub returns : goal.returns
returns c = first-there step_of (pipe_of c.args.pipe.now) c.steps-steps.result.now c.index-steps-0.result c.steps-steps.ensures.tree c.steps-steps.ensures.some c.index-steps-0.is
