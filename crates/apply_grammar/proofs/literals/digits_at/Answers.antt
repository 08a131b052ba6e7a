use Rattle.std.specs.Char.{is_ascii_digit}
use Rattle.apply_grammar.proofs.ByteLoops.{run_passes}
use Rattle.apply_grammar.proofs.literals.digits_at.Goals as goal

pub returns-then-digits-ge1-clause-digits : goal.returns-then-digits-ge1-clause-digits
returns-then-digits-ge1-clause-digits c = run_passes is_ascii_digit c.args.text.now _ _ c.digit_run.ensures
