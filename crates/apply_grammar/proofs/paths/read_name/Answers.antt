use Rattle.edm_values.specs.Names.{goes_on_name}
use Rattle.apply_grammar.proofs.ByteLoops.{run_passes}
use Rattle.apply_grammar.proofs.Characters.{word_is_text}
use Rattle.apply_grammar.proofs.paths.read_name.Goals as goal

pub returns-in-Err : goal.returns-in-Err
returns-in-Err c = absurd (c.in-Err.ensures.cases.0 (word_is_text c.word_run.result.0.now (run_passes goes_on_name c.args.text.now _ _ c.word_run.ensures)))
