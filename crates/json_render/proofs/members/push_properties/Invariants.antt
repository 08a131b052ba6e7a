use Rattle.std.proofs.Common.{◌≡◌, ◌++◌, map, take}
use Rattle.std.specs.List.{enumerate_from}
use Rattle.edm_model.specs.LookUps.{properties_of, set_type}
use Rattle.json_render.specs.Places.{named_parts}
use Rattle.json_render.specs.RowTexts.{property_part}
use Rattle.json_render.proofs.members.push_properties.Given as goal

abbrev pub invariant-loop-at : goal.invariant-loop-at
invariant-loop-at l = named_parts l.entries.items ≡ named_parts l.initial.entries.items ++ map (property_part l.k) (take l.at (enumerate_from 0 (properties_of l.model (set_type l.model l.fn.set))))
