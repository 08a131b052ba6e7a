use Rattle.std.proofs.Common.{◌∙◌, ap, sym}
use Rattle.edm_model.specs.LookUps.{key_of, set_type}
use Rattle.edm_model.specs.Models.{Model}
use Rattle.hier_rows.proofs.KeptLaws.{source-linked, source-own}
use Rattle.hier_rows.proofs.sources.source_of.Goals as goal

pub returns-then-place-2 : goal.returns-then-place-2
returns-then-place-2 c =
    source-own c.args.store.now c.args.of c.args.set c.args.by.at c.count.result c.data_is_loaded.ensures.value c.model-model.ensures.distinct c.requires.set
    (sym c.place.ensures.value ∙ c.if-place.true ∙ c.place-2.ensures.value)
    (sym c.place-then-place.ensures.value ∙ c.if-place-2.true ∙ c.place-then-place-2.ensures.value ∙ ap (λ p. p.at) c.key_of.ensures.value
    ∙ ap (λ t. (key_of c.model-model.result.now t).at) c.set_type.ensures.value ∙ ap (λ (m : Model). (key_of m (set_type m c.args.set)).at) c.model-model.ensures.value)
    c.count.ensures.value

pub returns-in-Some : goal.returns-in-Some
returns-in-Some c =
    source-linked c.args.store.now c.args.of c.args.set c.args.by.at c.in-Some.nav c.linked_places.result c.data_is_loaded.ensures.value c.requires.set c.linked_places.ensures.value c.in-Some.ensures
