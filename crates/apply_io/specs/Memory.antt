-- What contracts see of the objects in memory.
use Rattle.std.specs.Prelude.{ℕ, List}
use Rattle.apply_io.specs.Files.{Files}

-- a source: the bytes that are left, the most that a call gives, the numbers of the calls that fail,
-- how many calls with room there were, and how many failed
pub record SourceState : Type 0 where
  pub left : List ℕ
  pub most : ℕ
  pub fails : List ℕ
  pub calls : ℕ
  pub faults : ℕ

-- a sink: the bytes that it holds, the room left, and the rest as of a source
pub record SinkState : Type 0 where
  pub held : List ℕ
  pub room : ℕ
  pub most : ℕ
  pub fails : List ℕ
  pub calls : ℕ
  pub faults : ℕ

-- a folder: its files, and the rest as of a source
pub record FolderState : Type 0 where
  pub files : Files
  pub fails : List ℕ
  pub calls : ℕ
  pub faults : ℕ
