use Rattle.std.proofs.Common.{subst, sym}
use Rattle.apply_ast.specs.Views.{expr_of}
use Rattle.apply_grammar.specs.Gives.{Gives}
use Rattle.apply_grammar.proofs.ExprWhole.{expr_gives, expr_text_read}
use Rattle.apply_grammar.proofs.expressions.read_expr.Goals as goal

pub returns-clause-found : goal.returns-clause-found
returns-clause-found c = expr_gives c.args.text.now c.whole_expr.result (rw (sym c.as_bytes.ensures.value) c.whole_expr.ensures)

pub returns-clause-only : goal.returns-clause-only
returns-clause-only c = λ e h. subst (λ f. Gives expr_of c.whole_expr.result f) (expr_text_read c.args.text.now e c.utf8.text h) (rw (sym c.as_bytes.ensures.value) c.whole_expr.ensures)
