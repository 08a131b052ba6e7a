use Rattle.std.proofs.Common.{◌≡◌, ◌∙◌, map, subst}
use Rattle.std.specs.Prelude.{IfOk}
use Rattle.edm_values.specs.Lists.{at_places, places}
use Rattle.apply_meaning.specs.Aggregates.{aggregate}
use Rattle.numbered_groups.specs.Numbered.{places_with}
use Rattle.row_values.proofs.numbered.list_aggregates.Goals as goal

pub returns : goal.returns
returns g c =
    subst (λ vs. IfOk c.aggregates_listed.result (λ r. r.items ≡ map (λ j. aggregate c.args.method (at_places vs (places_with c.args.numbers.now j))) (places c.args.count)))
    (c.as_slice-all.ensures.value ∙ c.in_ok-all.ensures.value) c.aggregates_listed.ensures
