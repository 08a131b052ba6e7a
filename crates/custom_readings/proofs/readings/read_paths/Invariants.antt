use Rattle.std.proofs.Common.{take}
use Rattle.custom_readings.specs.Readings.{ArePathsOf}
use Rattle.custom_readings.proofs.readings.read_paths.Given as goal

abbrev pub invariant-loop-text : goal.invariant-loop-text
invariant-loop-text l = ArePathsOf (take l.text-index l.texts) l.paths.items
