use Rattle.std.proofs.Common.{◌≡◌, drop}
use Rattle.std.specs.Prelude.{flat_map}
use Rattle.std.specs.List.{list_any}
use Rattle.edm_values.specs.Values.{is_beyond}
use Rattle.group_rollup.proofs.row_keys.have_beyond.Given as goal

-- what is past its range is left
abbrev pub invariant-loop-list : goal.invariant-loop-list
invariant-loop-list l = list_any is_beyond (flat_map (λ k. k.items) l.lists) ≡ list_any is_beyond (flat_map (λ k. k.items) (drop l.list-index l.lists))
