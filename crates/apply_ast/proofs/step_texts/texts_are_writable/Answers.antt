use Rattle.apply_ast.proofs.TextsWritable.{texts_are_writable}
use Rattle.apply_ast.proofs.step_texts.texts_are_writable.Goals as goal

pub returns : goal.returns
returns c = record { value = texts_are_writable }
