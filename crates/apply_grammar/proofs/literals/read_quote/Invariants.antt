use Rattle.std.proofs.Common.{◌≡◌, length}
use Rattle.apply_grammar.specs.Reading.{quote_at}
use Rattle.apply_grammar.proofs.Lists.{with_front}
use Rattle.apply_grammar.proofs.literals.read_quote.Given as goal

abbrev pub invariant-loop-first : goal.invariant-loop-first
invariant-loop-first l = with_front l.out.items (quote_at l.rest) ≡ quote_at l.text

abbrev pub decreases-loop-first : goal.decreases-loop-first
decreases-loop-first l = length l.rest
