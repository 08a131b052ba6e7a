use Rattle.std.proofs.Common.{◌≡◌, ◌∙◌, ◌+◌, ap, drop, length, map, sym, subst, arith, IsTrue}
use Rattle.std.specs.Prelude.{option_and_then}
use Rattle.std.proofs.lemmas.Result.{err_from_is_err_and}
use Rattle.std.proofs.Math.ListN.{drop_of_length-le}
use Rattle.edm_data.specs.References.{count}
use Rattle.apply_ast.specs.Trees as tree
use Rattle.apply_ast.specs.Trees.{pipe}
use Rattle.apply_ast.specs.Views.{pipe_of, step_of}
use Rattle.context_typing.specs.Readings.{readings}
use Rattle.context_typing.specs.Typing.{shape_of_set}
use Rattle.apply_meaning.specs.Counts.{pipe_made}
use Rattle.apply_meaning.specs.Instances.{rows}
use Rattle.apply_meaning.specs.Meaning.{mean, step_mean}
use Rattle.apply_meaning.specs.Running.{Runs, is_plain, is_plain_step}
use Rattle.apply_meaning.proofs.MeaningEquations.{mean-End}
use Rattle.apply_meaning.proofs.CountLemmas.{made-least, turn-made}
use Rattle.apply_meaning.proofs.SetLemmas.{rows-length}
use Rattle.apply_meaning.proofs.RunLemmas.{turn, gives-err, next-step, steps-here, steps-next}
use Rattle.apply_meaning.proofs.plain.run_plain.Goals as goal

pub loop-i-init : goal.loop-i-init
loop-i-init g c =
    let w = c.args.store.now in
    let cs = readings c.args.c.now in
    let t = c.args.t.now in
    let S = shape_of_set w.model t.set in
    let own = c.in_ok-rows.ensures.rows in
    let tree = c.steps-all.ensures.tree in
    let long : length c.in_ok-rows.rows.items ≡ count w t.set = ap length own ∙ rows-length w t.set in
    let same : pipe_made w cs S (pipe_of t.pipe) (rows w t.set) ≡ pipe_made w cs S (pipe (map step_of c.steps-all.result.now)) c.in_ok-rows.rows.items = λ i. pipe_made w cs S (tree i) (sym own i) in (
      S,
      subst (λ p. Runs w cs S t.shape p c.in_ok-rows.rows.items) tree c.typed_ready.ensures,
      λ i. mean w cs S (tree i) (sym own i),
      subst (λ p. IsTrue (is_plain p)) tree c.requires.plain,
      omega (arith, long, same, c.in_ok-rows.ensures.each),
      c.set_rows.ensures.grown,
    )

pub step_ready-requires-clause-ready : goal.step_ready-requires-clause-ready
step_ready-requires-clause-ready g c = let i = c.loop-i.invariant in (readings c.args.c.now, i.0, c.args.t.now.shape, i.1)

pub plain_step-requires-clause-plain : goal.plain_step-requires-clause-plain
plain_step-requires-clause-plain g c = steps-here is_plain_step c.steps-all.result.now c.loop-i.i c.index-all-i.result c.loop-i-test.true c.index-all-i.is c.loop-i.invariant.3

pub returns-in_err-rows-2-clause-mean : goal.returns-in_err-rows-2-clause-mean
returns-in_err-rows-2-clause-mean g c =
    let w = c.args.store.now in
    let cs = readings c.args.c.now in
    let ss = c.steps-all.result.now in
    let rest = tree.pipe (map step_of (drop (c.loop-i.i + 1) ss)) in
    let e = next-step ss c.loop-i.i c.index-all-i.result c.loop-i-test.true c.index-all-i.is in
    let i = c.loop-i.invariant in
    let u = turn w cs i.0 c.args.t.now.shape _ (step_of c.index-all-i.result) rest c.loop-i.rows.items e i.1 in
    let p = err_from_is_err_and c.from_residual-in_err-rows-2.result c.from_residual-in_err-rows-2.ensures.1 in
    rw (p.1, p.2) (gives-err c.in_err-rows-2.field-0.0 (step_mean w cs i.0 (step_of c.index-all-i.result) c.loop-i.rows.items) _ (c.in_err-rows-2.ensures.mean cs i.0 u.between u.first)
    (λ n. i.2 ∙ u.meaning ∙ ap (option_and_then (mean w cs u.between rest)) n))

pub loop-i-preserved : goal.loop-i-preserved
loop-i-preserved g c =
    let w = c.args.store.now in
    let cs = readings c.args.c.now in
    let ss = c.steps-all.result.now in
    let rest = tree.pipe (map step_of (drop (c.loop-i.i + 1) ss)) in
    let e = next-step ss c.loop-i.i c.index-all-i.result c.loop-i-test.true c.index-all-i.is in
    let i = c.loop-i.invariant in
    let u = turn w cs i.0 c.args.t.now.shape _ (step_of c.index-all-i.result) rest c.loop-i.rows.items e i.1 in
    let m = c.in_ok-rows-2.ensures.mean cs i.0 u.between u.first in
    let made = turn-made w cs i.0 c.args.t.now.shape _ (step_of c.index-all-i.result) rest c.loop-i.rows.items c.in_ok-rows-2.rows.items e u m in
    let spent = c.in_ok-rows-2.ensures.each in
    let left = i.4 in (
      u.between,
      u.next c.in_ok-rows-2.rows.items c.data_is_loaded.ensures.value m,
      i.2 ∙ u.meaning ∙ ap (option_and_then (mean w cs u.between rest)) m,
      steps-next is_plain_step ss c.loop-i.i c.index-all-i.result c.loop-i-test.true c.index-all-i.is i.3,
      omega (arith, left, made, spent),
      omega (arith, i.5, c.plain_step.ensures.grown),
    )

pub returns-clause-mean : goal.returns-clause-mean
returns-clause-mean g c =
    let w = c.args.store.now in
    let cs = readings c.args.c.now in
    let i = c.loop-i.invariant in
    i.2 ∙ ap (λ ss. mean w cs i.0 (tree.pipe (map step_of ss)) c.loop-i.rows.items) (drop_of_length-le c.steps-all.result.now (omega (arith, c.loop-i-test.false))) ∙ mean-End w cs i.0 c.loop-i.rows.items

pub returns-in_err-rows-2-clause-steps : goal.returns-in_err-rows-2-clause-steps
returns-in_err-rows-2-clause-steps g c =
    let ss = c.steps-all.result.now in
    let rest = tree.pipe (map step_of (drop (c.loop-i.i + 1) ss)) in
    let e = next-step ss c.loop-i.i c.index-all-i.result c.loop-i-test.true c.index-all-i.is in
    let i = c.loop-i.invariant in
    let spent = c.plain_step.ensures.steps in
    let least = made-least c.args.store.now (readings c.args.c.now) i.0 _ (step_of c.index-all-i.result) rest c.loop-i.rows.items e in
    let left = i.4 in
    omega (arith, spent, least, left)

pub returns-clause-each : goal.returns-clause-each
returns-clause-each g c =
    let i = c.loop-i.invariant in
    let none : pipe_made c.args.store.now (readings c.args.c.now) i.0 (tree.pipe (map step_of (drop c.loop-i.i c.steps-all.result.now))) c.loop-i.rows.items ≡ 0 =
    ap (λ ss. pipe_made c.args.store.now (readings c.args.c.now) i.0 (tree.pipe (map step_of ss)) c.loop-i.rows.items) (drop_of_length-le c.steps-all.result.now (omega (arith, c.loop-i-test.false))) in
    omega (arith, none, i.4)
