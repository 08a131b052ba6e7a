use Rattle.std.proofs.Common.{◌≡◌, ap, subst, map}
use Rattle.std.specs.Prelude.{IfOk}
use Rattle.edm_values.specs.Lists.{at_places, places}
use Rattle.edm_data.specs.Worlds.{World}
use Rattle.apply_ast.specs.Views.{expr_of}
use Rattle.apply_meaning.specs.Aggregates.{aggregate}
use Rattle.apply_meaning.specs.Meaning.{values}
use Rattle.numbered_groups.specs.Numbered.{places_with}
use Rattle.step_run.specs.Contexts.{Context}
use Rattle.step_run.proofs.contexts.Context.aggregates_by.Goals as goal

pub returns : goal.returns
returns g c =
    subst (λ (w : World). IfOk c.aggregates_by.result (λ vs. vs.items ≡ map (λ j. aggregate c.args.method (at_places (values w (expr_of c.args.e.now) c.args.rows.now) (places_with c.args.numbers.now j))) (places c.args.count)))
    (ap (λ (x : Context). x.world) c.self.view_is) c.aggregates_by.ensures.value
