use Rattle.std.proofs.Common.{◌∙◌, ap, subst, sym, IsTrue}
use Rattle.std.specs.List.{list_all}
use Rattle.edm_values.specs.declared.Method.{Method as Method'}
use Rattle.edm_values.specs.Literals.{is_of_kind}
use Rattle.apply_ast.specs.Views.{expr_of}
use Rattle.aggregate_ops.specs.Partials.{AreFoldable}
use Rattle.apply_meaning.specs.Meaning.{values}
use Rattle.row_values.specs.Placed.{listed}
use Rattle.row_values.proofs.lists.RowList.kind.Goals as goal

-- the values on the rows are those on the list
pub returns-in-Rows-clause-typed : goal.returns-in-Rows-clause-typed
returns-in-Rows-clause-typed c =
    let same = sym (ap listed c.in-Rows.is) ∙ c.self.view_is in
    subst (λ l. (m : Method') → AreFoldable m (values c.args.store.now (expr_of c.args.e.now) l) → IsTrue (list_all (is_of_kind c.kind_on.result) (values c.args.store.now (expr_of c.args.e.now) l))) same c.kind_on.ensures.typed

-- and so are those that the reader has on the frame
pub returns-in_ok-reader-in-Frame-clause-typed : goal.returns-in_ok-reader-in-Frame-clause-typed
returns-in_ok-reader-in-Frame-clause-typed c =
    let same = sym (ap listed c.in-Frame.is) ∙ c.self.view_is in
    subst (λ vs. (m : Method') → AreFoldable m vs → IsTrue (list_all (is_of_kind c.kind_read-in-Frame.result) vs)) (c.in_ok-reader-in-Frame.ensures.value ∙ ap (values c.args.store.now (expr_of c.args.e.now)) same) c.kind_read-in-Frame.ensures.typed
