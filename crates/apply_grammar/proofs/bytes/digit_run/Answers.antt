use Rattle.std.proofs.Common.{sym}
use Rattle.std.specs.Char.{is_ascii_digit}
use Rattle.apply_grammar.proofs.ByteLoops.{run_at, run_whole}
use Rattle.apply_grammar.proofs.bytes.digit_run.Goals as goal

pub returns : goal.returns
returns c = run_whole is_ascii_digit c.args.text.now c.loop-i.i c.loop-i-test.false c.loop-i.invariant

pub returns-then-not-is_ascii_digit : goal.returns-then-not-is_ascii_digit
returns-then-not-is_ascii_digit c = rw (c.split_at.ensures.front, c.split_at.ensures.back) (run_at is_ascii_digit c.args.text.now c.loop-i.i c.loop-i-test.true c.loop-i.invariant (sym c.if-not-is_ascii_digit.ensures.value))
