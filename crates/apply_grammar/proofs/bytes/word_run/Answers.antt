use Rattle.std.proofs.Common.{sym}
use Rattle.edm_values.specs.Names.{goes_on_name}
use Rattle.apply_grammar.proofs.ByteLoops.{run_at, run_whole}
use Rattle.apply_grammar.proofs.bytes.word_run.Goals as goal

pub returns : goal.returns
returns c = run_whole goes_on_name c.args.text.now c.loop-i.i c.loop-i-test.false c.loop-i.invariant

pub returns-then-not-goes_on : goal.returns-then-not-goes_on
returns-then-not-goes_on c = rw (c.split_at.ensures.front, c.split_at.ensures.back) (run_at goes_on_name c.args.text.now c.loop-i.i c.loop-i-test.true c.loop-i.invariant (sym c.if-not-goes_on.ensures))
