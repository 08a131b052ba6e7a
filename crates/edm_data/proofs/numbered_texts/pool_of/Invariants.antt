use Rattle.std.proofs.Common.{◌≡◌, map, take}
use Rattle.edm_data.proofs.numbered_texts.pool_of.Given as goal

-- the texts so far
abbrev pub invariant-loop-text : goal.invariant-loop-text
invariant-loop-text l = l.pool ≡ map (λ t. t.now) (take l.text-index l.texts)
