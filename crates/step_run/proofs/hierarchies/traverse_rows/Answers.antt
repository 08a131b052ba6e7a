use Rattle.std.proofs.Common.{◌≡◌, sym, subst, ◌∙◌, ap, Err, Some, arith}
use Rattle.std.proofs.lemmas.Result.{err_from_is_err_and}
use Rattle.edm_values.specs.Lists.{at_places}
use Rattle.apply_ast.specs.Views.{traverse_of}
use Rattle.row_orders.specs.Places.{GivesOrder}
use Rattle.step_run.specs.Costs.{result_length}
use Rattle.step_run.specs.Hierarchies.{traversal}
use Rattle.step_run.proofs.ClimbOutcomes.{order-err}
use Rattle.step_run.proofs.hierarchies.traverse_rows.Goals as goal

pub returns-in_err-places-clause-mean : goal.returns-in_err-places-clause-mean
returns-in_err-places-clause-mean g c =
    let w = c.args.context.now.world in
    let t = traverse_of c.args.walk.now in
    let e = c.in_err-places.field-0.0 in
    let given = subst (λ l. GivesOrder (Err e) l (traversal w t l)) c.of_rows-list.ensures.value c.in_err-places.ensures.value in
    let p = err_from_is_err_and c.from_residual.result c.from_residual.ensures.1 in
    rw (p.1, p.2) (order-err e c.args.rows.now (traversal w t c.args.rows.now) given)

pub returns-in_err-members-clause-steps : goal.returns-in_err-members-clause-steps
returns-in_err-members-clause-steps g c =
    let w = c.args.context.now.world in
    let t = traverse_of c.args.walk.now in
    let given = subst (λ l. traversal w t l ≡ Some (at_places l c.in_ok-places.places.items)) c.of_rows-list.ensures.value c.in_ok-places.ensures.value in
    let long = ap result_length given in
    let copied = c.members.ensures.steps in
    let same = ap (λ l. at_places l c.as_slice.result.now) c.of_rows-list.ensures.value ∙ ap (at_places c.args.rows.now) c.as_slice.ensures.value in
    let spent = c.traversed_places.ensures.steps in
    let size = ap (λ l. result_length (Some l)) same in
    omega (arith, long, copied, spent, size)

pub returns-clause-mean : goal.returns-clause-mean
returns-clause-mean g c =
    let w = c.args.context.now.world in
    let t = traverse_of c.args.walk.now in
    let given = subst (λ l. traversal w t l ≡ Some (at_places l c.in_ok-places.places.items)) c.of_rows-list.ensures.value c.in_ok-places.ensures.value in
    given ∙ ap Some (ap (at_places c.args.rows.now) (sym c.as_slice.ensures.value) ∙ ap (λ l. at_places l c.as_slice.result.now) (sym c.of_rows-list.ensures.value) ∙ sym c.in_ok-members.ensures.rows)

pub returns-clause-steps : goal.returns-clause-steps
returns-clause-steps g c =
    let w = c.args.context.now.world in
    let t = traverse_of c.args.walk.now in
    let given = subst (λ l. traversal w t l ≡ Some (at_places l c.in_ok-places.places.items)) c.of_rows-list.ensures.value c.in_ok-places.ensures.value in
    let long = ap result_length given in
    let copied = c.members.ensures.steps in
    let same = ap (λ l. at_places l c.as_slice.result.now) c.of_rows-list.ensures.value ∙ ap (at_places c.args.rows.now) c.as_slice.ensures.value in
    let spent = c.traversed_places.ensures.steps in
    let size = ap (λ l. result_length (Some l)) same in
    omega (arith, long, copied, spent, size)

pub returns-in_err-members-clause-grown : goal.returns-in_err-members-clause-grown
returns-in_err-members-clause-grown g c = omega (arith, c.traversed_places.ensures.grown, c.members.ensures.grown)

pub returns-clause-grown : goal.returns-clause-grown
returns-clause-grown g c = omega (arith, c.traversed_places.ensures.grown, c.members.ensures.grown)
