use Rattle.std.proofs.Common.{sym, ap, ◌∙◌}
use Rattle.edm_values.specs.Values.{value_in}
use Rattle.edm_data.proofs.ColumnLemmas.{column_found, column_empty}
use Rattle.edm_data.proofs.columns.Column.get.Goals as goal

pub returns-in-Some : goal.returns-in-Some
returns-in-Some c = c.get.ensures ∙ sym (column_found c.self.inside.places c.self.inside.values c.self.inside.count c.args.place c.in-Some.at c.self.invariant.below (sym c.find.ensures ∙ c.in-Some.is)) ∙ ap (λ vs. value_in vs c.args.place) c.self.view_is

pub returns-in-None : goal.returns-in-None
returns-in-None c = sym (sym (ap (λ vs. value_in vs c.args.place) c.self.view_is) ∙ column_empty c.self.inside.places c.self.inside.values c.self.inside.count c.args.place c.self.invariant.below (sym c.find.ensures ∙ c.in-None.is))
