use Rattle.std.proofs.Common.{◌≡◌, ◌∷◌, [], map, take}
use Rattle.row_values.proofs.computes.new_paths.Given as goal

-- the paths so far
abbrev pub invariant-loop-item : goal.invariant-loop-item
invariant-loop-item l = l.paths.items ≡ map (λ x. x.name ∷ []) (take l.item-index l.items)
