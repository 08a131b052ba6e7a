use Rattle.std.proofs.Common.{◌∙◌, ap}
use Rattle.std.specs.Prelude.{position}
use Rattle.edm_values.specs.Lists.{same_text}
use Rattle.edm_model.specs.LookUps.{type_at, set_type, hierarchies_of_type}
use Rattle.edm_model.proofs.FoundByName.{no_found_place}
use Rattle.edm_model.proofs.model.Model.hier_named.Goals as goal

pub returns-in-None : goal.returns-in-None
returns-in-None c =
    let there = c.hierarchies_in.ensures.value ∙ ap (hierarchies_of_type c.args.self.now) (c.place-of.ensures.value ∙ c.set_type.ensures.value) in
    record { value = no_found_place (λ e. e.hierarchies) (λ x. x.qualifier) _ (set_type c.args.self.now c.args.s) (type_at c.args.self.now (set_type c.args.self.now c.args.s)) (c.in-None.ensures.value ∙ ap (position (λ x. same_text x.qualifier _)) there); there = tt }
