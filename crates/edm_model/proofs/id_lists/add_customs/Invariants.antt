use Rattle.std.proofs.Common.{◌≡◌, ◌++◌, map, take}
use Rattle.std.specs.List.{enumerate_from}
use Rattle.edm_model.specs.IdLists.{custom_entry}
use Rattle.edm_model.proofs.id_lists.add_customs.Given as goal

abbrev pub invariant-loop-at : goal.invariant-loop-at
invariant-loop-at l =
    l.customs.items ≡ l.initial.customs.items ++ map (custom_entry l.of) (enumerate_from 0 (take l.at l.definitions))
