use Rattle.std.proofs.Common.{◌∙◌, ap, sym, map}
use Rattle.std.specs.Prelude.{Some}
use Rattle.apply_ast.specs.Views.{named_of}
use Rattle.context_typing.specs.Typing.{compute_shape}
use Rattle.context_typing.proofs.StepFacts.{compute_none, compute_some}
use Rattle.context_typing.proofs.items.compute_shape.Goals as goal

pub returns-in_ok-with_more : goal.returns-in_ok-with_more
returns-in_ok-with_more c =
    let m = c.args.m.now in
    let items = c.as_slice-items.result.now in
    ap Some c.in_ok-with_more.ensures
    ∙ compute_some m c.args.shape (map named_of items) c.in-Some.columns (sym c.in-Some.is ∙ c.in_ok-columns.ensures) (sym c.may_stand.ensures ∙ c.if-may_stand.true)
    ∙ ap (λ l. compute_shape m c.args.shape (map named_of l)) c.as_slice-items.ensures.value

pub returns-else-may_stand : goal.returns-else-may_stand
returns-else-may_stand c =
    let m = c.args.m.now in
    let items = c.as_slice-items.result.now in
    compute_none m c.args.shape (map named_of items) c.in-Some.columns (sym c.in-Some.is ∙ c.in_ok-columns.ensures) (sym c.may_stand.ensures ∙ c.if-may_stand.false)
    ∙ ap (λ l. compute_shape m c.args.shape (map named_of l)) c.as_slice-items.ensures.value
