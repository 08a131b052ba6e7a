use Rattle.std.proofs.Common.{◌≡◌, ◌≤◌, take}
use Rattle.std.specs.Str.Parse.{digits_value_after}
use Rattle.apply_grammar.proofs.literals.value_behind.Given as goal

abbrev pub invariant-loop-byte : goal.invariant-loop-byte
invariant-loop-byte l = (l.n ≡ digits_value_after 10 l.start (take l.byte-index l.digits)) × (l.n ≤ l.most)
