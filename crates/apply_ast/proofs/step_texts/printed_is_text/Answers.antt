use Rattle.apply_ast.proofs.PrintedTexts.{prints_text}
use Rattle.apply_ast.proofs.step_texts.printed_is_text.Goals as goal

pub returns : goal.returns
returns c = record { value = prints_text }
