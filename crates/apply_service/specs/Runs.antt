-- One run of the service, seen from outside.
use Rattle.std.specs.Prelude.{ℕ, List}
use Rattle.std.specs.declared.option.Option.{Option}
use Rattle.apply_io.specs.Files.{Files}
use Rattle.apply_service.specs.declared.status.Status.{Status}

-- what is seen of a folder: its files, none where it does not tell them, and its count of faults before and after
pub record FolderSeen : Type 0 where
  pub files : Option Files
  pub faults : ℕ
  pub faults_after : ℕ

-- what is seen of a source: the bytes that are left, none where it does not tell them, and its count of faults, before and after; and of two pieces of bytes, whether they were taken one after the other, the second by one read
pub record SourceSeen : Type 1 where
  pub left : Option (List ℕ)
  pub left_after : Option (List ℕ)
  pub faults : ℕ
  pub faults_after : ℕ
  pub ends_in_one_read : List ℕ → List ℕ → Type 0

-- what is seen of a sink: the bytes that it holds, none where it does not tell them, and its count of faults, before and after
pub record SinkSeen : Type 0 where
  pub held : Option (List ℕ)
  pub held_after : Option (List ℕ)
  pub faults : ℕ
  pub faults_after : ℕ

-- what is seen of the counter of steps: what it stood at before and after
pub record StepsSeen : Type 0 where
  pub count : ℕ
  pub count_after : ℕ

-- what is seen of a run: the words, the folder, the source, the sink, the counter of steps, and the status
pub record Run : Type 1 where
  pub words : List (List ℕ)
  pub folder : FolderSeen
  pub input : SourceSeen
  pub output : SinkSeen
  pub steps : StepsSeen
  pub status : Status
