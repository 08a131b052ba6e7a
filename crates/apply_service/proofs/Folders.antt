-- A folder that is not touched keeps its files.
use Rattle.std.proofs.Common.{None, Some, refl}
use Rattle.std.specs.declared.option.Option.{Option}
use Rattle.apply_io.specs.Files.{Files, KeepsFiles}

pub KeepsFiles-same : (a : Option Files) → KeepsFiles a a
KeepsFiles-same None = tt
KeepsFiles-same (Some files) = refl

pub ruleset folders = (KeepsFiles-same)
