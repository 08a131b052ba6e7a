use Rattle.std.proofs.Common.{◌∙◌, sym}
use Rattle.json_render.proofs.SlotLemmas.{set-of_bound}
use Rattle.json_render.proofs.templates.push_at.Goals as goal

pub push_property-requires : goal.push_property-requires
push_property-requires c = set-of_bound c.args.store.now c.args.row.now c.in-Property.k c.in-Some.entity c.requires.entities (sym c.bound.ensures ∙ c.in-Some.is)
