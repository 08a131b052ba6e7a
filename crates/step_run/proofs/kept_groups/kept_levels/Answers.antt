use Rattle.std.proofs.Common.{◌∙◌, ◌++◌, ap, sym, subst, map}
use Rattle.apply_ast.specs.Trees.{pipe}
use Rattle.apply_ast.specs.Views.{keys_of, pipe_of, step_of}
use Rattle.context_typing.specs.Readings.{readings}
use Rattle.context_typing.specs.Typing.{rollup_paths}
use Rattle.apply_meaning.specs.Meaning.{joined, level_paths, mean}
use Rattle.step_run.proofs.KeptLevels.{levels-apart, made-gives}
use Rattle.step_run.proofs.LevelPlaces.{all-paths}
use Rattle.group_rollup.specs.Groupings.{has_beyond_key}
use Rattle.row_frames.specs.Frames.{GivesFrame}
use Rattle.step_run.specs.Conditions.{LevelsReady, LevelsRun}
use Rattle.step_run.specs.Levels.{level_made, level_on, part_of}
use Rattle.step_run.proofs.kept_groups.kept_levels.Goals as goal

pub frame_of_levels-requires-clause-ready : goal.frame_of_levels-requires-clause-ready
frame_of_levels-requires-clause-ready g c κs within =
    let x = c.args.context.now in
    let l = c.args.frame.now in
    let all = level_paths c.in_ok-keys.keys.plain (part_of c.in_ok-keys.keys.rollup) in
    let T = pipe (map step_of c.args.groups.now.steps.now) in
    subst (λ x. LevelsReady x c.args.root.now (map (level_on x.world l) all) T l) (sym c.alone-inner.ensures.value)
    (subst (λ p. LevelsReady x c.args.root.now (map (level_on x.world l) all) p l) c.requires.tree
    (subst (λ ps. LevelsReady x c.args.root.now (map (level_on x.world l) ps) (pipe_of c.args.groups.now.pipe.now) l) (sym (levels-apart (keys_of c.args.groups.now.keys.now) c.in_ok-keys.keys c.in_ok-keys.ensures)) c.requires.ready))

pub returns : goal.returns
returns g c = record {
  mean = λ S G R.
      let x = c.args.context.now in
      let w = x.world in
      let l = c.args.frame.now in
      let ks = keys_of c.args.groups.now.keys.now in
      let k = c.in_ok-keys.keys in
      let K = c.in_ok-keys.ensures in
      let all = level_paths k.plain (part_of k.rollup) in
      let T = pipe (map step_of c.args.groups.now.steps.now) in
      let root = c.args.root.now in
      let same = levels-apart ks k K in
      let tree = c.requires.tree in
      let run = subst (λ x. LevelsRun x root S G (map (level_on x.world l) all) T l) (sym c.alone-inner.ensures.value)
      (subst (λ p. LevelsRun x root S G (map (level_on w l) all) p l) tree (subst (λ ps. LevelsRun x root S G (map (level_on w l) ps) (pipe_of c.args.groups.now.pipe.now) l) (sym same) R)) in
      let m = c.frame_of_levels.ensures.mean S G run in
      made-gives c.frame_of_levels.result w ks (mean w (readings x.customs) S (pipe_of c.args.groups.now.pipe.now)) l
      (subst (λ ps. GivesFrame c.frame_of_levels.result (joined (map (level_made (mean w (readings x.customs) S (pipe_of c.args.groups.now.pipe.now)) l) (map (level_on w l) ps)))) same
      (subst (λ p. GivesFrame c.frame_of_levels.result (joined (map (level_made (mean w (readings x.customs) S p) l) (map (level_on w l) all)))) (sym tree)
      (subst (λ x. GivesFrame c.frame_of_levels.result (joined (map (level_made (mean x.world (readings x.customs) S T) l) (map (level_on x.world l) all)))) c.alone-inner.ensures.value m)))
      (ap (λ ps. has_beyond_key w ps l) (sym (all-paths ks k K)) ∙ ap (has_beyond_key w (k.plain ++ rollup_paths (part_of k.rollup))) (sym c.of_frame-rows.ensures.value) ∙ c.in_ok-levels.ensures.1);
}
