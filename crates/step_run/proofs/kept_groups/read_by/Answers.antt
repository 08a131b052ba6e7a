use Rattle.std.proofs.Common.{◌≡◌, ◌∙◌, ap, map, subst, sym, List}
use Rattle.std.specs.Prelude.{IfOk}
use Rattle.edm_values.specs.declared.Value.{Value}
use Rattle.apply_ast.specs.Views.{item_of, step_of}
use Rattle.apply_ast.specs.declared.items.OrderItem as code
use Rattle.apply_ast.proofs.ViewEquations.{step_of-OrderBy}
use Rattle.apply_meaning.specs.Meaning.{values}
use Rattle.row_frames.specs.Keys.{seen_columns}
use Rattle.step_run.proofs.KeptSteps.{read-order}
use Rattle.step_run.specs.KeptGroups.{read_of}
use Rattle.step_run.proofs.kept_groups.read_by.Goals as goal

pub returns-in-OrderBy : goal.returns-in-OrderBy
returns-in-OrderBy g c =
    let w = c.args.context.now.world in
    let l = c.args.rows.now in
    subst (λ (vs : List (List Value)). IfOk c.read_items.result (λ lists. seen_columns lists.items ≡ vs))
    (ap (map (λ (x : code.OrderItem). values w (item_of x).expr l)) c.as_slice.ensures.value
    ∙ read-order w l c.in-OrderBy.items
    ∙ sym (ap (read_of w l) (ap step_of c.in-OrderBy.is ∙ step_of-OrderBy c.in-OrderBy.items)))
    c.read_items.ensures
