use Rattle.std.proofs.Common.{◌∙◌, subst, sym}
use Rattle.edm_model.specs.LookUps.{IsSet}
use Rattle.frame_run.proofs.FrontLemmas.{key-path}
use Rattle.frame_run.proofs.front.key_type.Goals as goal

pub returns-clause-key : goal.returns-clause-key
returns-clause-key c =
    let same = sym c.place.ensures.value ∙ c.if-place.false ∙ c.place-2.ensures.value in
    key-path c.args.store.now c.args.path.now c.args.set _ _ c.prop_type.result c.model-model.result.now c.set_type.result c.key_of-key.result
    c.data_is_loaded.ensures.value (subst (IsSet c.args.store.now.model) same c.in-Some.ensures.set) c.in-Some.ensures.value
    c.model-model.ensures.value c.set_type.ensures.value c.key_of-key.ensures.value
    (sym c.place-3.ensures.value ∙ c.if-place-2.false ∙ c.place-4.ensures.value) c.prop_type.ensures.value
