use Rattle.apply_grammar.proofs.OneTree.{one_expr}
use Rattle.apply_grammar.proofs.expressions.one_expression.Goals as goal

pub returns : goal.returns
returns c = record { one = one_expr }
