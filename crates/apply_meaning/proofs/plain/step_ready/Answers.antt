use Rattle.std.proofs.Common.{map, drop, ◌+◌}
use Rattle.apply_ast.specs.Trees.{pipe}
use Rattle.apply_ast.specs.Views.{step_of}
use Rattle.apply_meaning.proofs.RunLemmas.{turn, next-step}
use Rattle.apply_meaning.proofs.plain.step_ready.Goals as goal

pub returns : goal.returns
returns c =
    let ss = c.args.steps.now in
    let r = c.requires.ready in
    let e = next-step ss c.args.i c.args.step.now c.requires.within c.requires.step in
    let u = turn c.args.store.now r.0 r.1 r.2 _ (step_of c.args.step.now) (pipe (map step_of (drop (c.args.i + 1) ss))) c.args.rows.now.items e r.3 in
    (r.0, r.1, u.between, u.first)
