use Rattle.std.proofs.Common.{◌∙◌, ap, sym}
use Rattle.std.specs.Ordering.{is_eq}
use Rattle.context_typing.proofs.PathOrders.{same-by}
use Rattle.context_typing.proofs.paths.same_path.Goals as goal

pub returns-then-a-b : goal.returns-then-a-b
returns-then-a-b c = record { value = c.is_eq.ensures ∙ ap is_eq c.compare.ensures ∙ sym (same-by c.args.a.now c.args.b.now) }
