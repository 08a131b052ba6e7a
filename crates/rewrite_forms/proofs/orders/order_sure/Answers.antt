use Rattle.std.proofs.Common.{◌∙◌, sym}
use Rattle.std.proofs.lemmas.List.Folds.{list_all-map}
use Rattle.apply_ast.specs.Views.{item_of}
use Rattle.context_typing.specs.Typing.{is_sure}
use Rattle.rewrite_forms.proofs.orders.order_sure.Goals as goal

pub returns : goal.returns
returns c = record { value = c.each_sure.ensures ∙ sym (list_all-map (λ x. is_sure c.args.m.now c.args.shape.now x.expr) item_of c.args.items.now) }
