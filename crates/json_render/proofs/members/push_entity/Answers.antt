use Rattle.std.proofs.Common.{◌∙◌, ap, sym, subst}
use Rattle.edm_model.specs.LookUps.{IsSet}
use Rattle.json_render.proofs.SlotLemmas.{set-of_bound}
use Rattle.json_render.proofs.members.push_entity.Goals as goal

pub push_properties-requires : goal.push_properties-requires
push_properties-requires c =
    subst (λ m. IsSet m c.entity.inside.set) (sym c.model.ensures.value)
    (subst (IsSet c.args.store.now.model) (sym (ap (λ e. e.set) c.entity.view_is)) (set-of_bound c.args.store.now c.args.row.now c.args.k c.in-Some.entity c.requires (sym c.bound.ensures ∙ c.in-Some.is)))
