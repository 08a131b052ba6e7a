use Rattle.std.proofs.Common.{◌≡◌, subst, sym}
use Rattle.std.specs.Prelude.{IfOk}
use Rattle.std.specs.List.{AllZip}
use Rattle.std.proofs.lemmas.Result.{IfOk-at_ok, IfOk-weaker}
use Rattle.apply_meaning.specs.Instances.{Instance}
use Rattle.apply_meaning.specs.Meaning.{key_list}
use Rattle.row_values.proofs.Zips.{zipped-shown}
use Rattle.row_values.proofs.keys.lists_in_parts.Goals as goal

pub returns : goal.returns
returns g c =
    let w = c.args.store.now in
    let rows = c.args.rows.now in
    let each = IfOk-at_ok _ c.in_ok-results.was c.list_results.ensures in
    IfOk-weaker c.all_ok.result _ _ (λ found e. zipped-shown _ (λ key. key.items) (λ (i : Instance). key_list w c.args.paths.now i) rows found.items (subst (λ rs. AllZip (λ i r. IfOk r (λ key. key.items ≡ key_list w c.args.paths.now i)) rows rs) (sym e) each)) c.all_ok.ensures
