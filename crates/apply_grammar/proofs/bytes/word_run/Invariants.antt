use Rattle.std.proofs.Common.{◌≡◌, take, true}
use Rattle.std.specs.List.{list_all}
use Rattle.edm_values.specs.Names.{goes_on_name}
use Rattle.apply_grammar.proofs.bytes.word_run.Given as goal

abbrev pub invariant-loop-i : goal.invariant-loop-i
invariant-loop-i l = list_all goes_on_name (take l.i l.text) ≡ true
