use Rattle.std.proofs.Common.{◌∙◌, ap, sym, arith}
use Rattle.context_typing.specs.Paths.{same_path}
use Rattle.context_typing.proofs.PathOrders.{found-near}
use Rattle.json_render.proofs.members.column_near.Goals as goal

pub returns-then-same_path : goal.returns-then-same_path
returns-then-same_path c =
    found-near c.args.columns.now c.args.place c.args.path.now c.index-columns-place.result c.requires (omega arith) c.index-columns-place.is
    (ap (λ q. same_path q c.args.path.now) (sym (c.names.ensures.names ∙ ap (λ x. x.path) c.column.view_is)) ∙ sym c.same_path.ensures.value ∙ c.if-same_path.true)
