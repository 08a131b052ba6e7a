use Rattle.std.proofs.Common.{◌≡◌, ◌∷◌, take}
use Rattle.join_concat.proofs.paths.beneath.Given as goal

abbrev pub invariant-loop-name : goal.invariant-loop-name
invariant-loop-name l = l.all.items ≡ l.alias ∷ take l.name-index l.names
