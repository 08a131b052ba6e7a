use Rattle.std.proofs.Common.{◌≡◌, refl, sym, subst, Some}
use Rattle.std.specs.Prelude.{IfSome}
use Rattle.std.proofs.lemmas.Result.{err_from_is_err_and}
use Rattle.apply_ast.specs.Views.{step_of}
use Rattle.context_typing.specs.Readings.{readings}
use Rattle.apply_meaning.specs.Meaning.{step_mean}
use Rattle.step_run.proofs.RunLemmas.{runs-same}
use Rattle.step_run.specs.GroupTotals.{GivesFound}
use Rattle.frame_run.proofs.grouped.frame_of_groups.Goals as goal

pub returns-in_err-made : goal.returns-in_err-made
returns-in_err-made g c = record {
  mean = λ S S' R.
      let p = err_from_is_err_and c.from_residual.result c.from_residual.ensures.1 in
      rw (p.1, p.2) (c.in_err-made.ensures.mean S S' R);
}

pub returns-in-Some : goal.returns-in-Some
returns-in-Some g c = record {
  mean = λ S S' R.
      let x = c.args.context.now in
      let m = step_mean x.world (readings x.customs) S (step_of c.args.step.now) c.args.frame.now in
      subst (λ o. IfSome o (λ f. m ≡ Some f)) c.in-Some.is (c.in_ok-made.ensures.mean S S' R);
}

pub returns-in-None : goal.returns-in-None
returns-in-None g c = record {
  mean = λ S S' R.
      let x = c.args.context.now in
      let s = step_of c.args.step.now in
      let rows : c.args.frame.now ≡ c.of_frame-list.result = sym c.of_frame-list.ensures.value in
      subst (λ l. GivesFound c.grouped_frame.result (step_mean x.world (readings x.customs) S s l)) c.of_frame-list.ensures.value
      (c.grouped_frame.ensures.mean S S' (runs-same x c.args.root.now S S' s s c.args.frame.now c.of_frame-list.result refl rows R));
}
