use Rattle.std.proofs.Common.{arith}
use Rattle.rollup_rec.proofs.NodeFoldLaws.{next-kind, next-room, runs-begun, runs-merged}
use Rattle.rollup_rec.proofs.node_folds.with_runs.Goals as goal

pub loop-next-init : goal.loop-next-init
loop-next-init g c = λ vs has behind. runs-begun g.P.Partial.kind g.P.Partial.stands_for (g.P.Partial.kind c.args.own) vs c.args.rows.now.numbers.now c.args.rows.now.lasts.now c.args.rows.now.nodes.now c.args.first c.args.last c.args.own c.args.runs.now.items has behind

pub merge-requires-clause-room : goal.merge-requires-clause-room
merge-requires-clause-room g c =
    let kept = c.requires.kept in
    let few = next-room g.P.Partial.kind g.P.Partial.stands_for (g.P.Partial.kind c.args.own) kept.0 c.args.rows.now.numbers.now c.args.rows.now.lasts.now c.args.rows.now.nodes.now g.P.Partial.count (g.met.P.Partial g.world.𝓛 g.world.𝓜 g.world.𝓡 ((λ s x. x), (λ x. x), (λ x. x), λ x. x)).counted c.args.first c.args.last c.in-Some.ensures.0 c.loop-next.all c.in-Some.next c.loop-next.runs.items c.next_run.new.runs.items (c.loop-next.invariant kept.0 kept.1 kept.2) c.in-Some.ensures.2 in
    omega (arith, few, c.requires.few)

pub merge-requires-clause-kind : goal.merge-requires-clause-kind
merge-requires-clause-kind g c =
    let kept = c.requires.kept in
    next-kind g.P.Partial.kind g.P.Partial.stands_for (g.P.Partial.kind c.args.own) kept.0 c.args.rows.now.numbers.now c.args.rows.now.lasts.now c.args.rows.now.nodes.now c.args.first c.args.last c.in-Some.ensures.0 c.loop-next.all c.in-Some.next c.loop-next.runs.items c.next_run.new.runs.items (c.loop-next.invariant kept.0 kept.1 kept.2) c.in-Some.ensures.2

pub loop-next-preserved : goal.loop-next-preserved
loop-next-preserved g c = λ vs has behind.
    runs-merged g.P.Partial.kind g.P.Partial.stands_for (g.P.Partial.kind c.args.own) vs c.args.rows.now.numbers.now c.args.rows.now.lasts.now c.args.rows.now.nodes.now c.args.first c.args.last c.in-Some.ensures.0 c.loop-next.all c.in-Some.next c.merge.new.self c.loop-next.runs.items c.next_run.new.runs.items c.requires.nests c.requires.last c.in-Some.ensures.1 (c.loop-next.invariant vs has behind) c.in-Some.ensures.2 c.in_ok-merge.ensures.kind c.in_ok-merge.ensures.merged
