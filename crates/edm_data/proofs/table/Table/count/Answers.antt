use Rattle.std.proofs.Common.{length, sym, ap, ◌∙◌}
use Rattle.edm_data.proofs.GridLemmas.{grid_count}
use Rattle.edm_data.proofs.table.Table.count.Goals as goal

pub returns : goal.returns
returns c = sym (grid_count c.self.inside.columns.items c.self.inside.count) ∙ ap (λ g. length g.rows) c.self.view_is
