use Rattle.std.proofs.Common.{◌≡◌}
use Rattle.std.specs.List.{All}
use Rattle.std.proofs.lemmas.Result.{IfOk-weaker}
use Rattle.row_frames.specs.Columned.{given, row_across}
use Rattle.row_frames.specs.Frames as spec
use Rattle.row_frames.proofs.ColumnedLemmas.{HasColumns, given-rows, given-tables}
use Rattle.row_frames.proofs.columned.columned_tables.Goals as goal

pub returns-clause-tables : goal.returns-clause-tables
returns-clause-tables c =
    let t = c.columned_table.result in
    let H : HasColumns t c.in_ok-columns.columns.items = record { roots = c.columned_table.ensures.roots; prefixes = c.columned_table.ensures.prefixes; columns = c.columned_table.ensures.columns } in
    IfOk-weaker c.one_table.result _ (λ ts. All spec.IsTable ts.items) (λ ts e. given-tables t c.in_ok-columns.columns.items H (given c.args.columns.items) c.in_ok-columns.ensures c.requires ts.items e) c.one_table.ensures

pub returns-clause-rows : goal.returns-clause-rows
returns-clause-rows c = λ k.
    let t = c.columned_table.result in
    let H : HasColumns t c.in_ok-columns.columns.items = record { roots = c.columned_table.ensures.roots; prefixes = c.columned_table.ensures.prefixes; columns = c.columned_table.ensures.columns } in
    IfOk-weaker c.one_table.result _ (λ ts. spec.picked ts.items (spec.first_pick k) ≡ row_across (given c.args.columns.items) k) (λ ts e. given-rows t c.in_ok-columns.columns.items H (given c.args.columns.items) c.in_ok-columns.ensures ts.items e k) c.one_table.ensures
