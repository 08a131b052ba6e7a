use Rattle.std.proofs.Common.{◌≡◌, ◌∙◌, ap, map}
use Rattle.std.specs.Prelude.{get_or}
use Rattle.std.proofs.lemmas.Result.{IfOk-weaker}
use Rattle.apply_meaning.specs.Instances.{entity_instance, no_instance}
use Rattle.apply_meaning.specs.Meaning as meaning
use Rattle.edm_model.specs.LookUps.{navigation_on}
use Rattle.edm_data.specs.Worlds.{World}
use Rattle.row_frames.specs.Related.{related_to}
use Rattle.frame_run.proofs.JoinLemmas.{related-instances}
use Rattle.frame_run.proofs.joins.related_frame.Goals as goal

pub returns : goal.returns
returns g c = λ v h.
    let w = c.args.context.now.world in
    let i = get_or c.args.frame.now c.args.k no_instance in
    let world = c.store.ensures.value in
    IfOk-weaker c.of_related.result (λ f. f ≡ map entity_instance (related_to c.store.result.now v c.root.result)) (λ f. f ≡ meaning.related_rows w v i)
    (λ f e. e ∙ ap (λ (x : World). map entity_instance (related_to x v c.root.result)) world ∙ related-instances w v i c.root.result (c.requires.many v h) c.root.ensures.value)
    (c.of_related.ensures.value v (ap (λ (x : World). navigation_on x.model c.args.nav) world ∙ h))
