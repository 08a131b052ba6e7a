use Rattle.std.proofs.Common.{◌∙◌, sym, length, arith}
use Rattle.std.proofs.lemmas.Bool.{lt-leb}
use Rattle.context_typing.proofs.PathOrders.{prefix-front, prefix-long}
use Rattle.context_typing.proofs.paths.is_prefix.Goals as goal

pub returns-then-a-b : goal.returns-then-a-b
returns-then-a-b c = c.same_path.ensures.value ∙ prefix-front c.args.a.now c.args.b.now (omega arith)

pub returns-else-a-b : goal.returns-else-a-b
returns-else-a-b c = lt-leb (length c.args.a.now) (length c.args.b.now) (omega arith) ∙ sym (prefix-long c.args.a.now c.args.b.now (omega arith))
