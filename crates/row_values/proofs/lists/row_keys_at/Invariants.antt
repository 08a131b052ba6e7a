use Rattle.std.proofs.Common.{◌≡◌, ◌++◌, drop, map}
use Rattle.edm_values.specs.Lists.{at_places}
use Rattle.apply_meaning.specs.Meaning.{key_list}
use Rattle.row_values.proofs.lists.row_keys_at.Given as goal

-- the key lists so far and those at the places that are left are all
abbrev pub invariant-loop-at : goal.invariant-loop-at
invariant-loop-at l =
    map (key_list l.store l.paths) (at_places l.rows l.places) ≡ map (λ k. k.items) l.lists.items ++ map (key_list l.store l.paths) (at_places l.rows (drop l.at-index l.places))
