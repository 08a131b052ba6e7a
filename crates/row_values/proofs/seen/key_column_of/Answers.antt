use Rattle.std.proofs.Common.{◌≡◌, ◌∙◌, length, map, refl}
use Rattle.std.proofs.lemmas.Result.{IfOk-weaker}
use Rattle.edm_values.specs.Values.{seen_value}
use Rattle.apply_meaning.specs.Instances.{Instance, lookup}
use Rattle.row_frames.specs.Keys.{key_column}
use Rattle.row_values.proofs.ReaderLemmas.{by-number}
use Rattle.row_values.proofs.seen.key_column_of.Goals as goal

pub returns : goal.returns
returns g c =
    let w = c.args.store.now in
    let rows = c.args.rows.now in
    IfOk-weaker c.seen_in_parts.result _ (λ vs. map (λ v. seen_value v) vs.items ≡ key_column w c.args.rows.now c.args.path.now)
    (λ vs h. h ∙ by-number (λ (i : Instance). lookup w i c.args.path.now) rows (length rows) refl) c.seen_in_parts.ensures
