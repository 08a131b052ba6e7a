use Rattle.std.specs.Prelude.{map, take}
use Rattle.edm_data.proofs.PoolLemmas.{Told}
use Rattle.edm_data.proofs.numbered_texts.NumberedTexts.of.Given as goal

-- the texts so far have their numbers
abbrev pub invariant-loop-place : goal.invariant-loop-place
invariant-loop-place l = Told (map (λ k. k.now) l.known.keys) l.numbers.items (take l.place l.texts)
