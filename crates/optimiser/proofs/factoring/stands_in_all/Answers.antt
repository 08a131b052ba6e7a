use Rattle.std.proofs.Common.{◌∙◌, sym, drop, map}
use Rattle.std.specs.Prelude.{slice_get}
use Rattle.std.proofs.lemmas.List.Folds.{list_all-map}
use Rattle.edm_values.specs.Lists.{is_some_and}
use Rattle.apply_ast.specs.Views.{step_of}
use Rattle.rewrite_laws.specs.TreeEquality.{step_same}
use Rattle.optimiser.specs.RestForms.{lists_of, stands_at}
use Rattle.optimiser.proofs.factoring.stands_in_all.Goals as goal

pub returns : goal.returns
returns c =
    let x = step_of c.args.step.now in
    c.stands_in_each.ensures
    ∙ sym (list_all-map (λ l. is_some_and (step_same x) (slice_get l 0)) (drop c.args.at) (lists_of c.args.lists.now) ∙ list_all-map (stands_at x c.args.at) (λ l. map step_of l.items) c.args.lists.now)
