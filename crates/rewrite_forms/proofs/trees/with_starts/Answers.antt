use Rattle.std.proofs.Common.{◌∙◌, ap, Some}
use Rattle.apply_ast.specs.Trees.{Step}
use Rattle.apply_ast.specs.Views.{pipe_of, hier_of}
use Rattle.apply_ast.proofs.ViewEquations.{step_of-Climb, climb_of-is}
use Rattle.rewrite_forms.proofs.trees.with_starts.Goals as goal

pub returns-in_ok-copy-in-Some-2 : goal.returns-in_ok-copy-in-Some-2
returns-in_ok-copy-in-Some-2 c =
    let k = c.args.climb.now in
    record {
      value = rw c.in-Some.is (ap Some (step_of-Climb _ ∙ climb_of-is _
          ∙ ap (λ h. Step.Climb k.up (hier_of h) c.in_ok-copy-in-Some-2.field-0 (pipe_of c.in-Some.pipe) k.distance k.keep) c.in_ok-copy-in-Some.ensures.value
          ∙ ap (λ p. Step.Climb k.up (hier_of k.hier) p (pipe_of c.in-Some.pipe) k.distance k.keep) c.in_ok-copy-in-Some-2.ensures.value));
    }
