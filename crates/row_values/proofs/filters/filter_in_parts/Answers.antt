use Rattle.std.proofs.Common.{subst}
use Rattle.apply_ast.specs.Views.{expr_of}
use Rattle.apply_meaning.specs.Instances.{Instance, val}
use Rattle.apply_meaning.specs.Running.{Gives}
use Rattle.row_values.proofs.KeptRows.{kept-answered}
use Rattle.row_values.proofs.filters.filter_in_parts.Goals as goal

pub kept_rows-requires : goal.kept_rows-requires
kept_rows-requires g c =
    let value = λ (i : Instance). val c.args.store.now i (expr_of c.args.e.now) in
    (kept-answered value c.args.rows.items c.as_slice.result.now c.in_ok-found.found.items c.as_slice-2.result.now c.as_slice.ensures.value c.in_ok-found.ensures c.as_slice-2.ensures.value).0

pub returns : goal.returns
returns g c =
    let value = λ (i : Instance). val c.args.store.now i (expr_of c.args.e.now) in
    let told = kept-answered value c.args.rows.items c.as_slice.result.now c.in_ok-found.found.items c.as_slice-2.result.now c.as_slice.ensures.value c.in_ok-found.ensures c.as_slice-2.ensures.value in
    subst (Gives c.kept_rows.result) told.1 c.kept_rows.ensures
