use Rattle.std.proofs.Common.{◌≡◌, subst, sym}
use Rattle.std.specs.Prelude.{IfOk}
use Rattle.std.specs.List.{AllZip}
use Rattle.std.proofs.lemmas.Result.{IfOk-at_ok, IfOk-weaker}
use Rattle.apply_ast.specs.Views.{expr_of}
use Rattle.apply_meaning.specs.Instances.{Instance, val}
use Rattle.row_values.proofs.Zips.{zipped-ok}
use Rattle.row_values.proofs.values.values_in_parts.Goals as goal

pub returns : goal.returns
returns g c =
    let w = c.args.store.now in
    let rows = c.args.rows.now in
    let each = IfOk-at_ok _ c.in_ok-results.was c.value_results.ensures in
    IfOk-weaker c.all_ok.result _ _ (λ found e. zipped-ok _ (λ (i : Instance). val w i (expr_of c.args.e.now)) rows found.items (subst (λ rs. AllZip (λ i r. IfOk r (λ v. v ≡ val w i (expr_of c.args.e.now))) rows rs) (sym e) each)) c.all_ok.ensures
