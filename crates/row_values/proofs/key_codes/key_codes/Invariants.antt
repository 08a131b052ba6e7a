use Rattle.std.proofs.Common.{◌≡◌, length, take}
use Rattle.std.specs.Prelude.{flat_map}
use Rattle.std.specs.List.{list_any}
use Rattle.edm_values.specs.Values.{is_beyond}
use Rattle.row_frames.specs.Keys.{key_column}
use Rattle.row_values.proofs.KeyCodeLemmas.{AreColumnCodes}
use Rattle.row_values.proofs.key_codes.key_codes.Given as goal

-- the paths so far have their numbers
abbrev pub invariant-loop-path : goal.invariant-loop-path
invariant-loop-path g l = record {
  size : length l.found.items ≡ l.path-index;
  codes : AreColumnCodes l.store l.paths l.list l.found.items;
  beyond : l.beyond ≡ list_any is_beyond (flat_map (key_column l.store l.list) (take l.path-index l.paths));
}
