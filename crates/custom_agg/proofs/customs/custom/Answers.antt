use Rattle.std.proofs.Common.{◌∙◌, subst, sym}
use Rattle.custom_agg.specs.CustomValues.{HaveRoot}
use Rattle.custom_agg.proofs.customs.custom.Goals as goal

pub custom_at-requires-clause-fit : goal.custom_at-requires-clause-fit
custom_at-requires-clause-fit g c κs within = subst (HaveRoot c.args.store.now c.args.id.of) (sym (c.all-rows.ensures.value ∙ c.of_rows-list.ensures.value)) c.requires.fit
