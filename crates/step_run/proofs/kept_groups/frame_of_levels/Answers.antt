use Rattle.std.proofs.Common.{◌+◌, ◌∙◌, ◌++◌, ap, sym, drop, map, arith}
use Rattle.std.specs.Prelude.{option_map}
use Rattle.std.proofs.lemmas.List.{length-map}
use Rattle.std.proofs.lemmas.Result.{err_from_is_err_and}
use Rattle.apply_ast.specs.Trees.{pipe}
use Rattle.apply_ast.specs.Views.{step_of}
use Rattle.context_typing.specs.Readings.{readings}
use Rattle.apply_meaning.specs.Meaning.{joined, level_paths, mean}
use Rattle.step_run.specs.Levels.{level_made, level_on, part_of}
use Rattle.step_run.proofs.GroupLemmas.{begun}
use Rattle.step_run.proofs.KeptLevels.{level-err, next-level}
use Rattle.step_run.proofs.RunLevels.{last-joined, next-joined, next-refused}
use Rattle.step_run.proofs.kept_groups.frame_of_levels.Goals as goal

pub loop-k-init : goal.loop-k-init
loop-k-init g c = λ S G R.
    let w = c.args.context.now.world in
    let l = c.args.frame.now in
    let F = mean w (readings c.args.context.now.customs) S (pipe (map step_of c.args.steps.now)) in
    let o = joined (map (level_made F l) (map (level_on w l) (level_paths c.args.keys.now.plain (part_of c.args.keys.now.rollup)))) in
    begun o ∙ ap (λ a. option_map (λ rest. a ++ rest) o) (sym c.none-all.ensures.value)

pub level_frame-requires-clause-numbered : goal.level_frame-requires-clause-numbered
level_frame-requires-clause-numbered g c κs within =
    let all = level_paths c.args.keys.now.plain (part_of c.args.keys.now.rollup) in
    (next-level c.args.context.now.world c.args.frame.now all c.args.levels.now c.loop-k.k c.paths_at-own.result.now c.index-levels-k.result c.requires.numbered c.loop-k-test.true c.index-levels-k.is c.paths_at-own.ensures.value).numbered

pub loop-k-preserved : goal.loop-k-preserved
loop-k-preserved g c = λ S G R.
    let w = c.args.context.now.world in
    let l = c.args.frame.now in
    let F = mean w (readings c.args.context.now.customs) S (pipe (map step_of c.args.steps.now)) in
    let all = level_paths c.args.keys.now.plain (part_of c.args.keys.now.rollup) in
    let lv = map (level_on w l) all in
    let k = c.loop-k.k in
    let d = level_on w l c.paths_at-own.result.now in
    let u = next-level w l all c.args.levels.now k c.paths_at-own.result.now c.index-levels-k.result c.requires.numbered c.loop-k-test.true c.index-levels-k.is c.paths_at-own.ensures.value in
    next-joined (level_made F l) lv k d c.loop-k.all _ c.in_ok-level_frame.field-0 u.within u.here (c.loop-k.invariant S G R) (c.in_ok-level_frame.ensures.mean S G (R k d u.at))
    ∙ ap (λ a. option_map (λ rest. a ++ rest) (joined (map (level_made F l) (drop (k + 1) lv)))) (sym c.in_ok-all.ensures.value)

pub returns-in_err-level_frame : goal.returns-in_err-level_frame
returns-in_err-level_frame g c = record {
  mean = λ S G R.
      let w = c.args.context.now.world in
      let l = c.args.frame.now in
      let F = mean w (readings c.args.context.now.customs) S (pipe (map step_of c.args.steps.now)) in
      let all = level_paths c.args.keys.now.plain (part_of c.args.keys.now.rollup) in
      let lv = map (level_on w l) all in
      let k = c.loop-k.k in
      let d = level_on w l c.paths_at-own.result.now in
      let u = next-level w l all c.args.levels.now k c.paths_at-own.result.now c.index-levels-k.result c.requires.numbered c.loop-k-test.true c.index-levels-k.is c.paths_at-own.ensures.value in
      let p = err_from_is_err_and c.from_residual.result c.from_residual.ensures.1 in
      rw (p.1, p.2) (level-err c.in_err-level_frame.field-0.0 (level_made F l d) _ (c.in_err-level_frame.ensures.mean S G (R k d u.at))
      (next-refused (level_made F l) lv k d c.loop-k.all _ u.within u.here (c.loop-k.invariant S G R)));
}

pub returns : goal.returns
returns g c = record {
  mean = λ S G R.
      let w = c.args.context.now.world in
      let l = c.args.frame.now in
      let F = mean w (readings c.args.context.now.customs) S (pipe (map step_of c.args.steps.now)) in
      let all = level_paths c.args.keys.now.plain (part_of c.args.keys.now.rollup) in
      let lv = map (level_on w l) all in
      let counted = c.requires.numbered.count in
      let size = length-map all (level_on w l) in
      last-joined (level_made F l) lv c.loop-k.k c.loop-k.all _ (omega (arith, counted, size, c.loop-k-test.false)) (c.loop-k.invariant S G R);
}
