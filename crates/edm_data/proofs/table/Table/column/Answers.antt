use Rattle.std.proofs.Common.{◌<◌, ◌≤◌, [], length, sym, ap, ◌∙◌, arith}
use Rattle.std.specs.List.{slice_get}
use Rattle.std.specs.Option.{unwrap_or}
use Rattle.edm_values.specs.Values.{value_in}
use Rattle.edm_data.proofs.GridLemmas.{grid_value_there, grid_value_past}
use Rattle.edm_data.proofs.table.Table.column.Goals as goal

pub returns-then-place-len : goal.returns-then-place-len
returns-then-place-len c = λ k.
    let cs = c.self.inside.columns.items in
    let within : c.args.place < length cs = omega (arith, c.self.inside.columns.ok.0) in
    sym (grid_value_there cs c.self.inside.count k c.args.place c.index.result.now c.self.invariant within c.index.ensures) ∙ ap (λ g. value_in (unwrap_or (slice_get g.rows k) []) c.args.place) c.self.view_is

pub returns-else-place-len : goal.returns-else-place-len
returns-else-place-len c = λ k.
    let cs = c.self.inside.columns.items in
    let past : length cs ≤ c.args.place = omega (arith, c.self.inside.columns.ok.0) in
    sym (sym (ap (λ g. value_in (unwrap_or (slice_get g.rows k) []) c.args.place) c.self.view_is) ∙ grid_value_past cs c.self.inside.count k c.args.place c.self.invariant past)
