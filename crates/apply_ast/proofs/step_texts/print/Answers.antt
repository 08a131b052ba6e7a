use Rattle.std.proofs.Common.{◌++◌, ap, ◌∙◌, subst, sym}
use Rattle.apply_ast.specs.Views.{pipe_of}
use Rattle.apply_ast.specs.Printing.{print}
use Rattle.apply_ast.specs.Grammar.{Text}
use Rattle.apply_ast.proofs.PrintedTexts.{prints_text}
use Rattle.apply_ast.proofs.step_texts.print.Goals as goal

pub returns-clause-grammar : goal.returns-clause-grammar
returns-clause-grammar c = λ h. subst (Text (pipe_of c.args.p.now)) (sym (c.in_ok-put_pipe.ensures ∙ ap (λ t. t ++ print (pipe_of c.args.p.now)) c.new-out.ensures.bytes)) (prints_text (pipe_of c.args.p.now) h)
