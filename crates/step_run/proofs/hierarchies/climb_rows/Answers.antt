use Rattle.std.proofs.Common.{◌≡◌, sym, subst, ◌∙◌, ap, Err, Some}
use Rattle.std.proofs.lemmas.Result.{err_from_is_err_and}
use Rattle.edm_values.specs.Lists.{at_places}
use Rattle.apply_ast.specs.Views.{hier_of}
use Rattle.row_orders.specs.Places.{GivesOrder}
use Rattle.step_run.specs.Hierarchies.{climb_from}
use Rattle.step_run.proofs.ClimbOutcomes.{order-err}
use Rattle.step_run.proofs.hierarchies.climb_rows.Goals as goal

pub returns-in_err-places : goal.returns-in_err-places
returns-in_err-places g c =
    let w = c.args.context.now.world in
    let k = c.args.climb.now in
    let l = c.args.rows.items in
    let r = c.args.starts.now in
    let e = c.in_err-places.field-0.0 in
    let given = subst (λ l. GivesOrder (Err e) l (climb_from w k.up (hier_of k.hier) k.path k.distance k.keep l r)) c.as_slice.ensures.value c.in_err-places.ensures.value in
    let p = err_from_is_err_and c.from_residual.result c.from_residual.ensures.1 in
    record { mean = rw (p.1, p.2) (order-err e l _ given) }

pub returns : goal.returns
returns g c =
    let w = c.args.context.now.world in
    let k = c.args.climb.now in
    let l = c.args.rows.items in
    let r = c.args.starts.now in
    let given = subst (λ l. climb_from w k.up (hier_of k.hier) k.path k.distance k.keep l r ≡ Some (at_places l c.in_ok-places.places.items)) c.as_slice.ensures.value c.in_ok-places.ensures.value in
    record { mean = given ∙ ap Some (ap (at_places l) (sym c.as_slice-2.ensures.value) ∙ sym c.in_ok-rows_at.ensures) }
