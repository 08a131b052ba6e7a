use Rattle.std.proofs.Common.{◌∙◌, ap, refl, sym, subst, map, Some, Err, IsTrue}
use Rattle.std.specs.List.{zip}
use Rattle.std.proofs.lemmas.Result.{err_from_is_err_and}
use Rattle.edm_values.specs.Lists.{at_places}
use Rattle.apply_ast.specs.Trees.{pipe}
use Rattle.apply_ast.specs.Views.{step_of}
use Rattle.context_typing.specs.Readings.{readings}
use Rattle.apply_meaning.specs.Meaning.{mean}
use Rattle.apply_meaning.specs.Running.{all_of}
use Rattle.row_frames.specs.Columned.{given}
use Rattle.row_frames.specs.Keys.{key_columns, seen_columns}
use Rattle.step_run.specs.Conditions.{GroupRuns}
use Rattle.step_run.specs.KeptGroups.{GivesKept}
use Rattle.step_run.specs.Levels.{level_made, level_on}
use Rattle.step_run.proofs.GroupTotalLaws.{first-of}
use Rattle.step_run.proofs.KeptLevels.{frame-err, frame-free, frame-rows}
use Rattle.step_run.proofs.kept_groups.level_frame.Goals as goal

pub returns-in_err-kept : goal.returns-in_err-kept
returns-in_err-kept g c = record {
  mean = λ S G R.
      let x = c.args.context.now in
      let w = x.world in
      let ks = c.args.paths.now in
      let T = pipe (map step_of c.args.steps.now) in
      let e = c.of_frame-rows.ensures.value in
      let F = mean w (readings x.customs) S T in
      let p = err_from_is_err_and c.from_residual.result c.from_residual.ensures.1 in
      let run = subst (λ l. GroupRuns x c.args.root.now S G (level_on w l ks) T l) (sym e) R in
      rw (p.1, p.2) (frame-err c.in_err-kept.field-0.0 w ks c.args.frame.now (level_made F c.args.frame.now (level_on w c.args.frame.now ks))
      (subst (λ l. GivesKept (Err c.in_err-kept.field-0.0) w ks l (level_made F l (level_on w l ks))) e (c.in_err-kept.ensures.mean S G run)));
}

pub key_columns_at-requires-clause-of : goal.key_columns_at-requires-clause-of
key_columns_at-requires-clause-of g c =
    let rows = c.of_frame-rows.result in
    let all = subst (λ l. IsTrue (all_of c.args.context.now.world l)) (sym c.of_frame-rows.ensures.value) c.requires.of in
    subst (λ w. IsTrue (all_of w (at_places rows c.as_slice.result.now))) (sym c.store.ensures.value) (first-of c.args.context.now.world rows c.as_slice.result.now all)

pub extend-requires : goal.extend-requires
extend-requires g c = record {
  free =
      let x = c.args.context.now in
      let w = x.world in
      let rows = c.of_frame-rows.result in
      let ks = c.args.paths.now in
      let r = c.requires.ready in
      let T = pipe (map step_of c.args.steps.now) in
      let run = subst (λ l. GroupRuns x c.args.root.now r.0 r.1 (level_on w l ks) T l) (sym c.of_frame-rows.ensures.value) r.2 in
      let o = c.in_ok-own.ensures.value ∙ (λ i. at_places ((c.in_ok-copy.ensures.value ∙ sym c.of_frame-rows.ensures.value) i) (c.as_slice-3.ensures.value i)) in
      let columns = c.in_ok-columns.ensures ∙ ap (zip ks) (ap seen_columns c.as_slice-2.ensures.value ∙ c.in_ok-keys.ensures.value ∙ (λ i. key_columns (c.store.ensures.value i) ks (at_places rows (c.as_slice.ensures.value i)))) in
      frame-free w ks rows c.in_ok-kept.kept c.in_ok-kept.ensures.even c.in_ok-kept.ensures.places c.in_ok-kept.ensures.heads c.in_ok-own.own (given c.in_ok-columns.columns.items) o columns x c.args.root.now r.0 r.1 T refl run (c.in_ok-kept.ensures.mean r.0 r.1 run);
}

pub returns : goal.returns
returns g c = record {
  mean = λ S G R.
      let x = c.args.context.now in
      let w = x.world in
      let rows = c.of_frame-rows.result in
      let ks = c.args.paths.now in
      let T = pipe (map step_of c.args.steps.now) in
      let e = c.of_frame-rows.ensures.value in
      let F = mean w (readings x.customs) S T in
      let run = subst (λ l. GroupRuns x c.args.root.now S G (level_on w l ks) T l) (sym e) R in
      let o = c.in_ok-own.ensures.value ∙ (λ i. at_places ((c.in_ok-copy.ensures.value ∙ sym c.of_frame-rows.ensures.value) i) (c.as_slice-3.ensures.value i)) in
      let columns = c.in_ok-columns.ensures ∙ ap (zip ks) (ap seen_columns c.as_slice-2.ensures.value ∙ c.in_ok-keys.ensures.value ∙ (λ i. key_columns (c.store.ensures.value i) ks (at_places rows (c.as_slice.ensures.value i)))) in
      let made = frame-rows w ks rows c.in_ok-kept.kept c.in_ok-kept.ensures.even c.in_ok-kept.ensures.places c.in_ok-kept.ensures.heads c.in_ok-own.own (given c.in_ok-columns.columns.items) o columns c.in_ok-extend.field-0 c.in_ok-extend.ensures.value in
      ap (λ l. level_made F l (level_on w l ks)) (sym e) ∙ c.in_ok-kept.ensures.mean S G run ∙ ap Some (sym made);
}
