use Rattle.std.proofs.Common.{◌≡◌, ◌∙◌, length, map, refl}
use Rattle.std.proofs.lemmas.Result.{IfOk-weaker}
use Rattle.edm_values.specs.Values.{seen_value}
use Rattle.apply_ast.specs.Views.{expr_of}
use Rattle.apply_meaning.specs.Instances.{Instance, val}
use Rattle.apply_meaning.specs.Meaning.{values}
use Rattle.row_values.proofs.ReaderLemmas.{by-number}
use Rattle.row_values.proofs.seen.seen_of.Goals as goal

pub returns : goal.returns
returns g c =
    let w = c.args.store.now in
    let rows = c.args.rows.now in
    IfOk-weaker c.seen_in_parts.result _ (λ vs. map (λ v. seen_value v) vs.items ≡ values w (expr_of c.args.e.now) c.args.rows.now)
    (λ vs h. h ∙ by-number (λ (i : Instance). val w i (expr_of c.args.e.now)) rows (length rows) refl) c.seen_in_parts.ensures
