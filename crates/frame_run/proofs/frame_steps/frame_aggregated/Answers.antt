use Rattle.std.proofs.Common.{◌≡◌, ◌∙◌, List, Some, sym, subst, map}
use Rattle.std.specs.Prelude.{IfOk}
use Rattle.apply_ast.specs.Trees as tree
use Rattle.apply_ast.specs.Views.{agg_of}
use Rattle.context_typing.specs.Readings.{readings}
use Rattle.apply_meaning.specs.Instances.{Instance}
use Rattle.apply_meaning.specs.Meaning.{step_mean}
use Rattle.step_run.specs.Conditions.{StepReadyFrom}
use Rattle.frame_run.proofs.frame_steps.frame_aggregated.Goals as goal

pub aggregated-requires-clause-ready : goal.aggregated-requires-clause-ready
aggregated-requires-clause-ready g c κs within =
    subst (StepReadyFrom c.args.context.now c.args.root.now (tree.Step.Aggregate (map agg_of c.args.items.now))) (sym (c.all-all.ensures.value ∙ c.of_frame-list.ensures.value)) c.requires

pub returns-clause-mean : goal.returns-clause-mean
returns-clause-mean g c = λ S h.
    let x = c.args.context.now in
    subst (λ (l : List Instance). IfOk c.aggregated.result (λ made. step_mean x.world (readings x.customs) S (tree.Step.Aggregate (map agg_of c.args.items.now)) l ≡ Some made.items)) (c.all-all.ensures.value ∙ c.of_frame-list.ensures.value) (c.aggregated.ensures.mean S h)
