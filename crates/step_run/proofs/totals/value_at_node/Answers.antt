use Rattle.std.proofs.Common.{ap}
use Rattle.apply_ast.specs.Views.{agg_of}
use Rattle.step_run.specs.Totals.{item_outcome}
use Rattle.step_run.proofs.totals.value_at_node.Goals as goal

pub unreachable-requires : goal.unreachable-requires
unreachable-requires g c =
    let known = c.requires.known in
    let none = ap (λ i. item_outcome c.args.context.now.world c.args.rows.now (agg_of i)) c.in-Count.is in
    cc

pub unreachable-requires-in-Custom : goal.unreachable-requires-in-Custom
unreachable-requires-in-Custom g c =
    let known = c.requires.known in
    let none = ap (λ i. item_outcome c.args.context.now.world c.args.rows.now (agg_of i)) c.in-Custom.is in
    cc
