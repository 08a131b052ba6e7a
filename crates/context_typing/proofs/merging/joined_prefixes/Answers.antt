use Rattle.std.proofs.Common.{◌∙◌, ap, sym, arith, Some}
use Rattle.context_typing.specs.Merging.{joined_prefix}
use Rattle.context_typing.proofs.Collected.{all_some-next, all_some-missing}
use Rattle.context_typing.proofs.merging.joined_prefixes.Goals as goal

pub returns-in-None : goal.returns-in-None
returns-in-None c =
    all_some-missing (joined_prefix c.args.shapes.now) c.args.table.now c.loop-prefix.prefix-index c.prefix-item.result (omega arith)
    (sym c.in-None.is ∙ c.in_ok-prefix.ensures ∙ ap (joined_prefix c.args.shapes.now) c.prefix-item.is)

pub loop-prefix-preserved : goal.loop-prefix-preserved
loop-prefix-preserved c =
    all_some-next (joined_prefix c.args.shapes.now) c.args.table.now c.loop-prefix.prefix-index c.prefix-item.result c.loop-prefix.prefixes.items c.in-Some.prefix (omega arith) c.loop-prefix.invariant
    (sym (sym c.in-Some.is ∙ c.in_ok-prefix.ensures ∙ ap (joined_prefix c.args.shapes.now) c.prefix-item.is)) ∙ ap Some (sym c.in_ok-push-in-Some.ensures.items)
