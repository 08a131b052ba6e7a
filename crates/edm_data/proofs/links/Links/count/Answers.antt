use Rattle.std.proofs.Common.{length, sym, ap, ◌∙◌}
use Rattle.edm_data.proofs.ColumnLemmas.{length-kept}
use Rattle.edm_data.proofs.links.Links.count.Goals as goal

pub returns : goal.returns
returns c = sym (length-kept c.self.inside.places c.self.inside.targets.items c.self.inside.count) ∙ ap length c.self.view_is
