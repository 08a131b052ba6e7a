use Rattle.std.proofs.Common.{◌∙◌, ap}
use Rattle.std.specs.Prelude.{position}
use Rattle.edm_values.specs.Lists.{same_text}
use Rattle.edm_model.specs.LookUps.{type_at, customs_of_type}
use Rattle.edm_model.proofs.FoundByName.{no_found_place}
use Rattle.edm_model.proofs.model.Model.custom_named.Goals as goal

pub returns-in-None : goal.returns-in-None
returns-in-None c =
    let there = c.customs_in.ensures.value ∙ ap (customs_of_type c.args.self.now) c.place-of.ensures.value in
    record { value = no_found_place (λ e. e.customs) (λ x. x.name) _ c.args.t (type_at c.args.self.now c.args.t) (c.in-None.ensures.value ∙ ap (position (λ x. same_text x.name _)) there); there = tt }
