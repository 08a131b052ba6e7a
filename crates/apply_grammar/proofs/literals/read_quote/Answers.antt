use Rattle.std.proofs.Common.{arith}
use Rattle.apply_grammar.proofs.QuoteLoop.{quote_byte, quote_pair, quote_last, quote_empty, after_shorter}
use Rattle.apply_grammar.proofs.literals.read_quote.Goals as goal

pub loop-first-preserved-then-first-ne39 : goal.loop-first-preserved-then-first-ne39
loop-first-preserved-then-first-ne39 c = rw c.in_ok-push.ensures.items (quote_byte _ _ _ _ _ c.in-Some.ensures.cases.0 c.if-first-ne39.true c.loop-first.invariant)

pub loop-first-preserved : goal.loop-first-preserved
loop-first-preserved c = rw c.in_ok-push-2.ensures.items (quote_pair _ _ _ _ _ _ c.in-Some.ensures.cases.0 c.if-first-ne39.false c.in-Some-after.ensures c.loop-first.invariant)

pub returns-in_default-after : goal.returns-in_default-after
returns-in_default-after c = quote_last _ _ _ _ _ c.in-Some.ensures.cases.0 c.if-first-ne39.false c.in_default-after.ensures c.loop-first.invariant

pub returns : goal.returns
returns c = quote_empty _ _ _ c.in_default.ensures.cases c.loop-first.invariant

pub loop-first-smaller : goal.loop-first-smaller
loop-first-smaller c = omega (arith, after_shorter 39 _ _ c.in-Some-after.ensures, c.in-Some.ensures.cases.1)
