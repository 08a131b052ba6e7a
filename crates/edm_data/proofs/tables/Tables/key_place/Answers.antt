use Rattle.std.proofs.Common.{ap, ◌∙◌}
use Rattle.edm_model.specs.LookUps.{key_of, set_type}
use Rattle.edm_data.proofs.TableLemmas.{key_place}
use Rattle.edm_data.proofs.tables.Tables.key_place.Goals as goal

pub returns : goal.returns
returns c =
    let m = c.model-model.result.now in
    let s = c.args.s in
    c.place.ensures.value ∙ ap (λ p. p.at) c.key_of.ensures.value ∙ ap (λ t. (key_of m t).at) c.set_type.ensures.value ∙ ap (λ x. (key_of x (set_type x s)).at) c.model-model.ensures.value ∙ key_place c.args.self.now.model s c.requires
