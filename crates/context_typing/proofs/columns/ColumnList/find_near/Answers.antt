use Rattle.std.proofs.Common.{◌∙◌, ap, sym, get_or, length, arith}
use Rattle.context_typing.specs.Paths.{same_path}
use Rattle.context_typing.proofs.PathOrders.{found-near}
use Rattle.context_typing.proofs.columns.ColumnList.find_near.Goals as goal

pub returns-then-same_path : goal.returns-then-same_path
returns-then-same_path c =
    found-near c.args.self.now c.args.place c.args.path.now c.index-column.result.now (c.is_known_to_differ.ensures c.if-is_known_to_differ.true) (omega (arith, ap length c.self.view_is)) (c.index-column.ensures ∙ ap (λ l. get_or l c.args.place c.index-column.result.now) c.self.view_is)
    (ap (λ q. same_path q c.args.path.now) (sym (c.names.ensures.names ∙ ap (λ x. x.path) c.column.view_is)) ∙ sym c.same_path.ensures.value ∙ c.if-same_path.true)
