use Rattle.std.proofs.Common.{◌≡◌, ◌∷◌, map, take, string_bytes, codes}
use Rattle.run_support.proofs.runs.words.Given as goal

abbrev pub invariant-loop-word : goal.invariant-loop-word
invariant-loop-word l =
    map string_bytes l.words.items
    ≡ codes "--model" ∷ codes "m" ∷ codes "--data" ∷ codes "d" ∷ map (λ w. w.now) (take l.word-index l.case.words.now)
