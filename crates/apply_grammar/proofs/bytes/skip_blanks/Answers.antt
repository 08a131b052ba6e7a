use Rattle.std.proofs.Common.{ℕ, List, sym, ap}
use Rattle.apply_ast.specs.Grammar.{is_blank}
use Rattle.apply_grammar.proofs.ByteLoops.{run_at, run_whole}
use Rattle.apply_grammar.proofs.bytes.skip_blanks.Goals as goal

pub returns : goal.returns
returns c = ap (λ (x : List ℕ × List ℕ). x.1) (sym (run_whole is_blank c.args.text.now c.loop-i.i c.loop-i-test.false c.loop-i.invariant))

pub returns-then-not-is_blank : goal.returns-then-not-is_blank
returns-then-not-is_blank c = rw c.split_at.ensures.back (ap (λ (x : List ℕ × List ℕ). x.1) (sym (run_at is_blank c.args.text.now c.loop-i.i c.loop-i-test.true c.loop-i.invariant (sym c.if-not-is_blank.ensures))))
