-- A copy has the tree of its original: one answer for each variant.
use Rattle.std.proofs.Common.{ap, ◌∙◌, sym}
use Rattle.apply_ast.specs.Trees.{Step, Key}
use Rattle.std.specs.Prelude.{option_map}
use Rattle.apply_ast.specs.Views.{step_of, key_of, keys_of, pipe_of, inner_of}
use Rattle.apply_ast.proofs.ViewEquations.{key_of-Plain, key_of-Rollup, step_of-Filter, step_of-Compute, step_of-OrderBy, step_of-Aggregate, step_of-GroupBy, step_of-Concat, step_of-Join, step_of-TopBy, step_of-Climb, step_of-Traverse}
use Rattle.apply_ast.proofs.+copy.Goals as goal

pub steps::Step::copy-returns-in-Identity : goal.steps::Step::copy-returns-in-Identity
steps::Step::copy-returns-in-Identity t c = record { value = ap step_of (sym c.in-Identity.is) }

pub steps::Step::copy-returns-in-Skip : goal.steps::Step::copy-returns-in-Skip
steps::Step::copy-returns-in-Skip t c = record { value = ap step_of (sym c.in-Skip.is) }

pub steps::Step::copy-returns-in-Top : goal.steps::Step::copy-returns-in-Top
steps::Step::copy-returns-in-Top t c = record { value = ap step_of (sym c.in-Top.is) }

pub steps::Step::copy-returns-in_ok-copy-in-Filter : goal.steps::Step::copy-returns-in_ok-copy-in-Filter
steps::Step::copy-returns-in_ok-copy-in-Filter t c = record { value = step_of-Filter _ ∙ (ap Step.Filter c.in_ok-copy-in-Filter.ensures.value ∙ (sym (step_of-Filter _) ∙ ap step_of (sym c.in-Filter.is))) }

pub steps::Step::copy-returns-in_ok-copy-in-Compute : goal.steps::Step::copy-returns-in_ok-copy-in-Compute
steps::Step::copy-returns-in_ok-copy-in-Compute t c = record { value = step_of-Compute _ ∙ (ap Step.Compute c.in_ok-copy-in-Compute.ensures.value ∙ (sym (step_of-Compute _) ∙ ap step_of (sym c.in-Compute.is))) }

pub steps::Step::copy-returns-in_ok-copy-in-OrderBy : goal.steps::Step::copy-returns-in_ok-copy-in-OrderBy
steps::Step::copy-returns-in_ok-copy-in-OrderBy t c = record { value = step_of-OrderBy _ ∙ (ap Step.OrderBy c.in_ok-copy-in-OrderBy.ensures.value ∙ (sym (step_of-OrderBy _) ∙ ap step_of (sym c.in-OrderBy.is))) }

pub steps::Step::copy-returns-in_ok-copy-in-Aggregate : goal.steps::Step::copy-returns-in_ok-copy-in-Aggregate
steps::Step::copy-returns-in_ok-copy-in-Aggregate t c = record { value = step_of-Aggregate _ ∙ (ap Step.Aggregate c.in_ok-copy-in-Aggregate.ensures.value ∙ (sym (step_of-Aggregate _) ∙ ap step_of (sym c.in-Aggregate.is))) }

pub steps::Step::copy-returns-in_ok-copy-in-Concat : goal.steps::Step::copy-returns-in_ok-copy-in-Concat
steps::Step::copy-returns-in_ok-copy-in-Concat t c = record { value = step_of-Concat _ ∙ (ap Step.Concat c.in_ok-copy-in-Concat.ensures.value ∙ (sym (step_of-Concat _) ∙ ap step_of (sym c.in-Concat.is))) }

pub steps::Step::copy-returns-in_ok-copy-in-TopBy : goal.steps::Step::copy-returns-in_ok-copy-in-TopBy
steps::Step::copy-returns-in_ok-copy-in-TopBy t c = record { value = step_of-TopBy _ ∙ (ap Step.TopBy c.in_ok-copy-in-TopBy.ensures.value ∙ (sym (step_of-TopBy _) ∙ ap step_of (sym c.in-TopBy.is))) }

pub steps::Step::copy-returns-in_ok-copy-in-Traverse : goal.steps::Step::copy-returns-in_ok-copy-in-Traverse
steps::Step::copy-returns-in_ok-copy-in-Traverse t c = record { value = step_of-Traverse _ ∙ (ap Step.Traverse c.in_ok-copy-in-Traverse.ensures.value ∙ (sym (step_of-Traverse _) ∙ ap step_of (sym c.in-Traverse.is))) }

pub steps::Step::copy-returns-in_ok-copy-in-Join : goal.steps::Step::copy-returns-in_ok-copy-in-Join
steps::Step::copy-returns-in_ok-copy-in-Join t c = record { value = step_of-Join _ ∙ (c.in_ok-copy-in-Join.ensures.value ∙ (sym (step_of-Join _) ∙ ap step_of (sym c.in-Join.is))) }

pub steps::Step::copy-returns-in_ok-copy-in-Climb : goal.steps::Step::copy-returns-in_ok-copy-in-Climb
steps::Step::copy-returns-in_ok-copy-in-Climb t c = record { value = step_of-Climb _ ∙ (c.in_ok-copy-in-Climb.ensures.value ∙ (sym (step_of-Climb _) ∙ ap step_of (sym c.in-Climb.is))) }

pub steps::Step::copy-returns-in_ok-copy_inner-in-GroupBy : goal.steps::Step::copy-returns-in_ok-copy_inner-in-GroupBy
steps::Step::copy-returns-in_ok-copy_inner-in-GroupBy t c = record {
  value =
      step_of-GroupBy _ _
      ∙ (ap (λ k. Step.GroupBy k (inner_of (option_map pipe_of c.in_ok-copy_inner-in-GroupBy.field-0))) c.in_ok-keys-in-GroupBy.ensures.value
      ∙ (ap (λ o. Step.GroupBy (keys_of c.in-GroupBy.keys) (inner_of o)) c.in_ok-copy_inner-in-GroupBy.ensures
      ∙ (sym (step_of-GroupBy _ _) ∙ ap step_of (sym c.in-GroupBy.is))));
}

pub steps::KeyItem::copy-returns-in_ok-copy-in-Plain : goal.steps::KeyItem::copy-returns-in_ok-copy-in-Plain
steps::KeyItem::copy-returns-in_ok-copy-in-Plain t c = record { value = key_of-Plain _ ∙ (ap Key.Plain c.in_ok-copy-in-Plain.ensures.value ∙ (sym (key_of-Plain _) ∙ ap key_of (sym c.in-Plain.is))) }

pub steps::KeyItem::copy-returns-in_ok-copy-in-Rollup : goal.steps::KeyItem::copy-returns-in_ok-copy-in-Rollup
steps::KeyItem::copy-returns-in_ok-copy-in-Rollup t c = record { value = key_of-Rollup _ _ ∙ (ap (Key.Rollup c.in-Rollup.all) c.in_ok-copy-in-Rollup.ensures.value ∙ (sym (key_of-Rollup _ _) ∙ ap key_of (sym c.in-Rollup.is))) }
