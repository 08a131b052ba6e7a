use Rattle.std.proofs.lemmas.Result.{err_from_is_err_and}
use Rattle.apply_grammar.specs.Limits.{served}
use Rattle.apply_grammar.proofs.Failing.{fails_on}
use Rattle.apply_grammar.proofs.ExprSteps.{whole_is, whole_left, whole_none, is_empty_list, is_some_list}
use Rattle.apply_grammar.proofs.expressions.whole_expr.Goals as goal

pub returns-in_err-e : goal.returns-in_err-e
returns-in_err-e c =
    let p = err_from_is_err_and c.from_residual.result c.from_residual.ensures.1 in
    rw (p.1, p.2) (fails_on c.in_err-e.field-0.0 c.in_err-e.ensures.exact (whole_none served 32 512 c.args.text.now))

pub returns-then-is_empty : goal.returns-then-is_empty
returns-then-is_empty c = whole_is served 32 512 c.args.text.now _ _ _ c.in_ok-e.ensures.exact (is_empty_list _ c.if-is_empty.ensures)

pub returns-else-is_empty : goal.returns-else-is_empty
returns-else-is_empty c = whole_left served 32 512 c.args.text.now _ _ _ c.in_ok-e.ensures.exact (is_some_list _ c.if-is_empty.ensures)
