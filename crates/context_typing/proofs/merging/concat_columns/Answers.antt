use Rattle.std.proofs.Common.{◌≡◌, ◌∙◌, IfOk, Option, List, ap, subst, sym, map}
use Rattle.std.specs.Prelude.{option_and_then}
use Rattle.edm_values.specs.Lists.{all_some}
use Rattle.context_typing.specs.Merging.{joined_column}
use Rattle.context_typing.specs.Shapes.{ColumnShape}
use Rattle.context_typing.proofs.MergeFacts.{columns-from}
use Rattle.context_typing.proofs.merging.concat_columns.Goals as goal

pub returns-in-Some : goal.returns-in-Some
returns-in-Some c =
    let f = λ (t : List ColumnShape). all_some (map (joined_column c.args.m.now c.args.shapes.now) t) in
    let P : Option (List ColumnShape) → Type 0 = λ r. IfOk c.joined_columns.result (λ o. o ≡ r) in
    subst P (ap f c.as_slice.ensures.value ∙ ap (option_and_then f) (sym c.in-Some.is ∙ c.in_ok-table.ensures) ∙ columns-from c.args.m.now c.args.shapes.now) c.joined_columns.ensures

pub returns-in-None : goal.returns-in-None
returns-in-None c =
    let f = λ (t : List ColumnShape). all_some (map (joined_column c.args.m.now c.args.shapes.now) t) in
    ap (option_and_then f) (sym c.in-None.is ∙ c.in_ok-table.ensures) ∙ columns-from c.args.m.now c.args.shapes.now
