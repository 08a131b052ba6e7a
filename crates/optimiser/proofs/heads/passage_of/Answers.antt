use Rattle.std.proofs.Common.{◌≡◌, sym, ◌∙◌, ap, map}
use Rattle.std.proofs.lemmas.Result.{IfOk-weaker}
use Rattle.apply_ast.specs.Views.{key_of, keys_from, step_of}
use Rattle.apply_ast.proofs.ViewEquations.{step_of-Join, step_of-Traverse}
use Rattle.optimiser.specs.HeadForms as form
use Rattle.optimiser.specs.HeldSegments as held
use Rattle.optimiser.specs.WalkRules.{rules_named}
use Rattle.walk_laws.specs.Walks as spec
use Rattle.optimiser.proofs.HeadLemmas.{grouped}
use Rattle.optimiser.proofs.heads.passage_of.Goals as goal

pub returns-in-Join : goal.returns-in-Join
returns-in-Join c = c.join_passage.ensures ∙ ap (spec.step_passed (rules_named c.args.rules)) (sym (ap step_of c.in-Join.is ∙ step_of-Join c.in-Join.join))

pub returns-in-Traverse : goal.returns-in-Traverse
returns-in-Traverse c = c.walk_passage.ensures ∙ ap (spec.step_passed (rules_named c.args.rules)) (sym (ap step_of c.in-Traverse.is ∙ step_of-Traverse c.in-Traverse.field-0))

pub returns-in-GroupBy : goal.returns-in-GroupBy
returns-in-GroupBy c =
    let r = rules_named c.args.rules in
    IfOk-weaker c.grouping_passage.result (λ p. held.passes p ≡ form.grouping_passes r (keys_from (map key_of c.as_slice-in-GroupBy.result.now))) (λ p. held.passes p ≡ spec.step_passed r (step_of c.args.step.now))
    (λ p h. h ∙ ap (spec.step_passed r) (sym (grouped c.args.step.now c.in-GroupBy.keys c.in-GroupBy.field-1 c.as_slice-in-GroupBy.result.now c.in-GroupBy.is c.as_slice-in-GroupBy.ensures.value)))
    c.grouping_passage.ensures
