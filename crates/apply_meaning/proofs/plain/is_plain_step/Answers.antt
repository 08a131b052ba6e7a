use Rattle.std.proofs.Common.{sym, ◌∙◌, ap}
use Rattle.std.specs.List.{list_all}
use Rattle.std.proofs.lemmas.List.Folds.{list_all-map}
use Rattle.apply_ast.specs.Views.{agg_of, step_of}
use Rattle.apply_ast.proofs.ViewEquations.{step_of-Aggregate}
use Rattle.apply_meaning.specs.Running.{is_plain_step, is_standard}
use Rattle.apply_meaning.proofs.plain.is_plain_step.Goals as goal

pub returns-in-Aggregate : goal.returns-in-Aggregate
returns-in-Aggregate c =
    record {
      value = c.are_standard.ensures ∙ ap (list_all (λ i. is_standard (agg_of i))) c.as_slice.ensures.value ∙ sym (list_all-map is_standard agg_of c.in-Aggregate.items)
          ∙ sym (ap is_plain_step (ap step_of c.in-Aggregate.is ∙ step_of-Aggregate c.in-Aggregate.items));
    }
