use Rattle.std.proofs.Common.{◌≡◌, ◌∙◌, ap, sym, subst, Some}
use Rattle.std.specs.Prelude.{IfOk, is_some}
use Rattle.edm_data.specs.Worlds.{World}
use Rattle.context_typing.specs.Readings.{typed_at}
use Rattle.custom_agg.specs.CustomValues.{value_by_id}
use Rattle.step_run.specs.Conditions.{named_custom, named_value}
use Rattle.step_run.proofs.CustomLemmas.{found, if-ok, named-found, part-found}
use Rattle.step_run.proofs.aggregations.custom_value.Goals as goal

pub custom-requires-clause-read : goal.custom-requires-clause-read
custom-requires-clause-read g c κs within =
    let x = c.args.context.now in
    let n = c.args.name.now in
    let t = c.in-Some.of in
    let f = found x.world.model x.customs t n c.custom_ready.ensures.typed (ap (λ r. is_some (named_custom x r n)) (sym c.in-Some.is) ∙ c.requires.there) in
    let same = part-found x.world.model c.model.result.now x.customs t n c.text.result.now f c.in-Some-custom_named.id (sym c.custom_named.ensures.value ∙ c.in-Some-custom_named.is) (c.model.ensures.value ∙ ap (λ (w : World). w.model) c.store.ensures.value) c.text.ensures.value in
    ap (λ p. is_some (typed_at x.customs p)) same ∙ ap is_some f.at

pub returns-in-Some-custom_named : goal.returns-in-Some-custom_named
returns-in-Some-custom_named g c =
    let x = c.args.context.now in
    let n = c.args.name.now in
    let l = c.args.rows.now in
    let t = c.in-Some.of in
    let f = found x.world.model x.customs t n c.custom_ready.ensures.typed (ap (λ r. is_some (named_custom x r n)) (sym c.in-Some.is) ∙ c.requires.there) in
    let same = part-found x.world.model c.model.result.now x.customs t n c.text.result.now f c.in-Some-custom_named.id (sym c.custom_named.ensures.value ∙ c.in-Some-custom_named.is) (c.model.ensures.value ∙ ap (λ (w : World). w.model) c.store.ensures.value) c.text.ensures.value in
    subst (λ r. IfOk c.custom.result (λ v. v ≡ named_value x r n l)) (sym c.in-Some.is)
    (if-ok (λ v. Some v ≡ value_by_id x.world x.customs c.in-Some-custom_named.id l) (λ v. v ≡ named_value x (Some t) n l) (λ v e. named-found x t n f l v (e ∙ ap (λ p. value_by_id x.world x.customs p l) same)) c.custom.result c.custom.ensures)
