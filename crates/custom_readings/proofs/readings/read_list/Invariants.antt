use Rattle.std.proofs.Common.{◌≡◌, length, take}
use Rattle.std.specs.List.{AllZip}
use Rattle.custom_readings.specs.Readings.{IsRead}
use Rattle.custom_readings.proofs.readings.read_list.Given as goal

abbrev pub invariant-loop-custom : goal.invariant-loop-custom
invariant-loop-custom l = record {
  count : length l.list.items ≡ l.custom-index;
  read : AllZip IsRead (take l.custom-index l.customs) l.list.items;
}
