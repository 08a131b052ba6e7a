use Rattle.std.proofs.Common.{◌≡◌, ◌++◌}
use Rattle.std.specs.List.{flat_map}
use Rattle.std.specs.Vec.Iter.{into_iter_items}
use Rattle.top_family.proofs.parts.joined.Given as goal

-- the lists so far, and those that are left
abbrev pub invariant-loop-list : goal.invariant-loop-list
invariant-loop-list l = flat_map (λ x. x.items) l.fn.lists.items ≡ l.all.items ++ flat_map (λ x. x.items) (into_iter_items l.list-iterator)
