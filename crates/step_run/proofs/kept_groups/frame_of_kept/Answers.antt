use Rattle.std.proofs.Common.{subst}
use Rattle.apply_ast.specs.Views.{keys_of, pipe_of, step_of}
use Rattle.apply_meaning.proofs.RunLemmas.{all-fit-of}
use Rattle.apply_meaning.specs.MeaningLaws.{IsLoaded}
use Rattle.step_run.proofs.KeptRuns.{levels-give, levels-go, levels-ready}
use Rattle.step_run.proofs.kept_groups.frame_of_kept.Goals as goal

pub kept_levels-requires-clause-of : goal.kept_levels-requires-clause-of
kept_levels-requires-clause-of g c κs within =
    let r = c.requires.ready in
    all-fit-of c.args.context.now.world r.0 c.args.frame.now (r.2).runs.fit

pub kept_levels-requires-clause-ready : goal.kept_levels-requires-clause-ready
kept_levels-requires-clause-ready g c κs within =
    let r = c.requires.ready in
    levels-ready c.args.context.now c.args.root.now (keys_of c.args.groups.now.keys.now) (pipe_of c.args.groups.now.pipe.now) c.requires.flat c.args.frame.now (step_of c.args.step.now) c.requires.step r.0 r.1 r.2 (subst IsLoaded c.store.ensures.value c.data_is_loaded.ensures.value)

pub returns : goal.returns
returns g c = record {
  mean = λ S S' R.
      let ks = keys_of c.args.groups.now.keys.now in
      let T = pipe_of c.args.groups.now.pipe.now in
      let u = levels-go c.args.context.now c.args.root.now ks T c.requires.flat c.args.frame.now (step_of c.args.step.now) c.requires.step S S' R (subst IsLoaded c.store.ensures.value c.data_is_loaded.ensures.value) in
      levels-give c.args.context.now c.args.root.now ks T c.requires.flat c.args.frame.now (step_of c.args.step.now) c.requires.step S S' R c.kept_levels.result (c.kept_levels.ensures.mean S u.0 u.1);
}
