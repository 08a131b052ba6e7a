use Rattle.std.proofs.Common.{◌+◌, ◌-◌, ◌≤◌, ◌<◌, length, vec_len}
use Rattle.apply_io.specs.Files.{KeepsFiles}
use Rattle.apply_load.specs.Transfers.{IsFront}
use Rattle.apply_load.proofs.file.read_file.Given as goal

abbrev pub invariant-loop-bytes : goal.invariant-loop-bytes
invariant-loop-bytes g l = record {
  within : vec_len l.bytes ≤ l.limit + 1;
  room : 0 < length l.buffer;
  keeps : KeepsFiles (g.F.Folder.files l.initial.folder) (g.F.Folder.files l.folder);
  later : g.F.Folder.fault_count l.initial.folder ≤ g.F.Folder.fault_count l.folder;
  steady : g.F.Folder.is_steady l.initial.folder → g.F.Folder.is_steady l.folder;
  front : IsFront (g.F.Folder.files l.initial.folder) l.name l.bytes.items;
}

abbrev pub decreases-loop-bytes : goal.decreases-loop-bytes
decreases-loop-bytes g l = l.limit + 1 - vec_len l.bytes
