-- What was written in each mode, and what each status says.
use Rattle.std.specs.Prelude.{◌≡◌, ℕ, ◌+◌, ◌≤◌, ◌⊎◌, Bool, List, length, take}
use Rattle.std.specs.Io.KnownBytes.{Appends, IsAtEnd}
use Rattle.apply_io.specs.Causes.{Rose}
use Rattle.edm_data.specs.Worlds.{World}
use Rattle.sample_data.specs.Generator.{generated_world}
use Rattle.context_typing.specs.Typing.{Customs}
use Rattle.line_stream.specs.Lines.{request_lines, ended_lines}
use Rattle.line_stream.specs.Costs.{Rises}
use Rattle.line_stream.specs.Outputs.{WritesFront}
use Rattle.line_stream.specs.Answers as stream
use Rattle.apply_load.specs.Loads.{FileNames, Outcome, Missing, RefusedModel, RefusedData, Loaded, FilesMake}
use Rattle.apply_store.specs.CustomReadings.{AreCustoms}
use Rattle.apply_load.specs.Checks.{check_text}
use Rattle.apply_replies.specs.Costs.{BoundsLine}
use Rattle.apply_replies.specs.Replies.{IsReply}
use Rattle.apply_service.specs.Runs.{FolderSeen, SourceSeen, SinkSeen, StepsSeen}
use Rattle.apply_service.specs.Samples.{sample_lines}
use Rattle.apply_service.specs.declared.status.Status.{Status}
use Rattle.apply_service.specs.declared.status.Status.TheVariants.{Served, Usage, ModelRefused, DataRefused, ReadFault, WriteFault, Memory, InputLimit}

-- one reply for each line, in order
abbrev pub IsOut : World → Customs → List (List ℕ) → List ℕ → Type 0
IsOut w c lines out = stream.IsOut (IsReply w c) lines out

-- how many bytes a read of the source gives at most
abbrev pub read_limit : ℕ
read_limit = 4096

-- the counter of steps stands still
abbrev pub StandsStill : StepsSeen → Type 0
StandsStill t = t.count_after ≡ t.count

-- ---- what was done

-- The files make a world, bytes that have P were taken from the source, and the replies to the lines of them were written, in order. The counter of steps rose by no more than what the lines cost where pipelines are rewritten before they run, or run as they were written.
pub record Answers (optimised : Bool) (f : FolderSeen) (i : SourceSeen) (o : SinkSeen) (t : StepsSeen) (names : FileNames) (lines : List ℕ → List (List ℕ)) (P : List ℕ → Type 0) : Type 0 where
  pub world : World
  pub customs : Customs
  pub loaded : FilesMake f.files names (Loaded world customs)
  pub answered : stream.Responds (IsReply world customs) (BoundsLine optimised world customs) lines P i.left i.left_after o.held o.held_after t.count t.count_after

-- a file is refused, and its line was written
pub record Refuses (f : FolderSeen) (o : SinkSeen) (names : FileNames) (refused : List ℕ → Outcome) : Type 0 where
  pub line : List ℕ
  pub judged : FilesMake f.files names (refused line)
  pub written : Appends o.held o.held_after line

-- the files make a world, and what is told of it was written
pub record Checks (f : FolderSeen) (o : SinkSeen) (names : FileNames) : Type 0 where
  pub world : World
  pub customs : Customs
  pub loaded : FilesMake f.files names (Loaded world customs)
  pub written : Appends o.held o.held_after (check_text world)

-- the replies to the sample requests over the generated world of so many sales were written, and the counter of steps rose by no more than what they cost
pub record Generates (optimised : Bool) (o : SinkSeen) (t : StepsSeen) (count : ℕ) : Type 0 where
  pub customs : Customs
  pub typed : AreCustoms (generated_world count).model customs
  pub answered : stream.Writes (IsReply (generated_world count) customs) sample_lines o.held o.held_after
  pub counted : Rises (BoundsLine optimised (generated_world count) customs) sample_lines t.count t.count_after

-- ---- where the writing broke off

-- in the line of a refused file
pub data BreaksOffInLine (f : FolderSeen) (o : SinkSeen) (names : FileNames) : Type 0 where
  in_model_line : {line : List ℕ} → FilesMake f.files names (RefusedModel line) → WritesFront line o.held o.held_after → BreaksOffInLine f o names
  in_data_line : {line : List ℕ} → FilesMake f.files names (RefusedData line) → WritesFront line o.held o.held_after → BreaksOffInLine f o names

-- in the replies: those to all lines that ended before the last read were written
pub record BreaksOffInReplies (optimised : Bool) (f : FolderSeen) (i : SourceSeen) (o : SinkSeen) (t : StepsSeen) (names : FileNames) (limit : ℕ) : Type 0 where
  pub world : World
  pub customs : Customs
  pub loaded : FilesMake f.files names (Loaded world customs)
  pub front : stream.RespondsInPart (IsReply world customs) (BoundsLine optimised world customs) i.ends_in_one_read read_limit limit i.left i.left_after o.held o.held_after t.count t.count_after

-- in what is told of a world
pub record BreaksOffInCheck (f : FolderSeen) (o : SinkSeen) (names : FileNames) : Type 0 where
  pub world : World
  pub customs : Customs
  pub loaded : FilesMake f.files names (Loaded world customs)
  pub front : WritesFront (check_text world) o.held o.held_after

-- in the replies to the sample requests
pub record BreaksOffInSamples (optimised : Bool) (o : SinkSeen) (t : StepsSeen) (count : ℕ) : Type 0 where
  pub customs : Customs
  pub typed : AreCustoms (generated_world count).model customs
  pub front : stream.WritesPart (IsReply (generated_world count) customs) sample_lines o.held o.held_after
  pub counted : Rises (BoundsLine optimised (generated_world count) customs) sample_lines t.count t.count_after

-- ---- what each status says, mode by mode

-- a read of the folder failed, which is to blame only where it lacks a file, if it is steady
abbrev pub FolderFailed : FolderSeen → FileNames → Type 0 → Type 0
FolderFailed f names is_steady = Rose f.faults f.faults_after × (is_steady → FilesMake f.files names Missing)

-- what each status says of files that were not loaded, where nothing but the line of a refused file was written; each other comes of nothing here
abbrev pub LoadSays : FolderSeen → SinkSeen → FileNames → Type 0 → Type 0 → Status → Type 0
LoadSays f o names is_steady same_output ModelRefused = Refuses f o names RefusedModel
LoadSays f o names is_steady same_output DataRefused = Refuses f o names RefusedData
LoadSays f o names is_steady same_output ReadFault = FolderFailed f names is_steady × same_output
LoadSays f o names is_steady same_output WriteFault = Rose o.faults o.faults_after × BreaksOffInLine f o names
LoadSays f o names is_steady same_output Memory = same_output
LoadSays f o names is_steady same_output _ = ⊥

-- What each status says of a run that answers requests over two files, up to so many bytes of the source, by plans or by the pipelines as they were written.
abbrev pub ServeSays : Bool → FolderSeen → SourceSeen → SinkSeen → StepsSeen → FileNames → ℕ → Type 0 → Type 0 → Type 0 → Status → Type 0
ServeSays optimised f i o t names limit is_steady same_input same_output Served = Answers optimised f i o t names request_lines (λ bytes. length bytes ≤ limit) × IsAtEnd i.left_after
ServeSays optimised f i o t names limit is_steady same_input same_output ModelRefused = Refuses f o names RefusedModel × same_input × StandsStill t
ServeSays optimised f i o t names limit is_steady same_input same_output DataRefused = Refuses f o names RefusedData × same_input × StandsStill t
ServeSays optimised f i o t names limit is_steady same_input same_output ReadFault =
    (Rose i.faults i.faults_after × Answers optimised f i o t names ended_lines (λ bytes. length bytes ≤ limit))
    ⊎ (FolderFailed f names is_steady × same_input × same_output × StandsStill t)
ServeSays optimised f i o t names limit is_steady same_input same_output WriteFault =
    Rose o.faults o.faults_after × (BreaksOffInReplies optimised f i o t names limit ⊎ (BreaksOffInLine f o names × same_input × StandsStill t))
ServeSays optimised f i o t names limit is_steady same_input same_output InputLimit = Answers optimised f i o t names (λ bytes. ended_lines (take limit bytes)) (λ bytes. length bytes ≡ limit + 1)
ServeSays optimised f i o t names limit is_steady same_input same_output Memory = same_input × same_output × StandsStill t
ServeSays optimised f i o t names limit is_steady same_input same_output Usage = ⊥

-- what each status says of a run that checks two files
abbrev pub CheckSays : FolderSeen → SinkSeen → FileNames → Type 0 → Type 0 → Status → Type 0
CheckSays f o names is_steady same_output Served = Checks f o names
CheckSays f o names is_steady same_output ModelRefused = Refuses f o names RefusedModel
CheckSays f o names is_steady same_output DataRefused = Refuses f o names RefusedData
CheckSays f o names is_steady same_output ReadFault = FolderFailed f names is_steady × same_output
CheckSays f o names is_steady same_output WriteFault = Rose o.faults o.faults_after × (BreaksOffInCheck f o names ⊎ BreaksOffInLine f o names)
CheckSays f o names is_steady same_output Memory = same_output
CheckSays f o names is_steady same_output _ = ⊥

-- what each status says of a run that answers the sample requests, by plans or by the pipelines as they were written
abbrev pub GenSays : Bool → SinkSeen → StepsSeen → ℕ → Type 0 → Status → Type 0
GenSays optimised o t count same_output Served = Generates optimised o t count
GenSays optimised o t count same_output WriteFault = Rose o.faults o.faults_after × BreaksOffInSamples optimised o t count
GenSays optimised o t count same_output Memory = same_output × StandsStill t
GenSays optimised o t count same_output _ = ⊥
