-- What the service promises of a run.
use Rattle.std.specs.Prelude.{◌≡◌, ℕ, ◌<◌, ◌≤◌, ◌⊎◌, Bool, List, [], ◌++◌, length, Some, None}
use Rattle.std.specs.Option.{ForSome}
use Rattle.apply_io.specs.Causes.{Rose}
use Rattle.apply_io.specs.Files.{Files}
use Rattle.edm_data.specs.Worlds.{World}
use Rattle.context_typing.specs.Typing.{Customs}
use Rattle.line_stream.specs.Lines.{request_lines}
use Rattle.serve_options.specs.Options.{Mode, Settings, Serve, Check, Gen}
use Rattle.serve_options.specs.Command.{settings_in}
use Rattle.apply_load.specs.Loads.{FileNames, Outcome, RefusedModel, RefusedData, Loaded, IsFilesOutcome}
use Rattle.apply_service.specs.Runs.{Run}
use Rattle.apply_service.specs.Outcomes.{IsOut, StandsStill, ServeSays, CheckSays, GenSays}
use Rattle.apply_service.specs.declared.status.Status.{Status}
use Rattle.apply_service.specs.declared.status.Status.TheVariants.{Served, Usage, ModelRefused, DataRefused, ReadFault, WriteFault, Memory, InputLimit}

-- ---- words on a run

-- the names of two files
abbrev pub names_of : List ℕ → List ℕ → FileNames
names_of model data_file = record { model = model; entities = data_file }

-- the words ask for these settings
abbrev pub Asks : Run → Settings → Type 0
Asks r s = settings_in r.words ≡ Some s

-- the words ask to answer requests over these files, within this limit
abbrev pub AsksServe : Run → ℕ → FileNames → Type 0
AsksServe r max_bytes names = (s : Settings) × Asks r s × (s.mode ≡ Serve names.model names.entities) × (s.max_bytes ≡ max_bytes)

-- the words ask to check these files
abbrev pub AsksCheck : Run → FileNames → Type 0
AsksCheck r names = (s : Settings) × Asks r s × (s.mode ≡ Check names.model names.entities)

-- the words ask for the sample requests over so many sales
abbrev pub AsksGen : Run → ℕ → Type 0
AsksGen r count = (s : Settings) × Asks r s × (s.mode ≡ Gen count)

-- the words ask for one of the modes that read both files
abbrev pub AsksFiles : Run → FileNames → Type 0
AsksFiles r names = ((max_bytes : ℕ) × AsksServe r max_bytes names) ⊎ AsksCheck r names

-- the folder tells its files, and the two of these names make this
abbrev pub Make : Run → FileNames → Outcome → Type 0
Make r names o = (files : Files) × (r.folder.files ≡ Some files) × IsFilesOutcome files names o

-- the bytes appended to the sink pass; nothing is said of a sink that does not tell its bytes
abbrev pub Writes : Run → (List ℕ → Type 0) → Type 0
Writes r P = ForSome r.output.held (λ before. (out : List ℕ) × (r.output.held_after ≡ Some (before ++ out)) × P out)

-- a fault of the outside, or want of memory, which may come in place of a status that is else exact
abbrev pub IsFault : Status → Type 0
IsFault status = (status ≡ ReadFault) ⊎ ((status ≡ WriteFault) ⊎ (status ≡ Memory))

-- ---- what each end says

-- what the status says of a run that was asked for this; the last three are that the folder, the source and the sink are as they were
abbrev pub ModeSays : Run → Bool → ℕ → Mode → Type 0 → Type 0 → Type 0 → Type 0 → Type 0
ModeSays r optimised max_bytes (Serve model data_file) is_steady same_folder same_input same_output = ServeSays optimised r.folder r.input r.output r.steps (names_of model data_file) max_bytes is_steady same_input same_output r.status
ModeSays r optimised max_bytes (Check model data_file) is_steady same_folder same_input same_output = CheckSays r.folder r.output (names_of model data_file) is_steady same_output r.status × same_input × StandsStill r.steps
ModeSays r optimised max_bytes (Gen count) is_steady same_folder same_input same_output = GenSays optimised r.output r.steps count same_output r.status × same_folder × same_input

-- What each status says of a run.
pub record Ends (r : Run) (is_steady same_folder same_input same_output : Type 0) : Type 0 where
  -- the words do not meet the command, or a value breaks a rule; nothing was touched, and no step counted
  pub usage : r.status ≡ Usage → (settings_in r.words ≡ None) × same_folder × same_input × same_output × StandsStill r.steps
  -- such words are told so, want of memory aside
  pub usage_comes : settings_in r.words ≡ None → (r.status ≡ Usage) ⊎ (r.status ≡ Memory)
  -- want of memory: nothing was read from the source and nothing written, and no step counted
  pub memory : r.status ≡ Memory → same_input × same_output × StandsStill r.steps
  -- what the words asked for was done, or was stopped by what the status says
  pub asked : (s : Settings) → Asks r s → ModeSays r s.is_optimised s.max_bytes s.mode is_steady same_folder same_input same_output

-- ---- where a status comes

-- Where a file is refused or the source has too many bytes, the status says so, but for a fault of the outside and want of memory.
pub record Comes (r : Run) : Type 0 where
  pub model : (names : FileNames) (line : List ℕ) → AsksFiles r names → Make r names (RefusedModel line) → (r.status ≡ ModelRefused) ⊎ IsFault r.status
  pub entities : (names : FileNames) (line : List ℕ) → AsksFiles r names → Make r names (RefusedData line) → (r.status ≡ DataRefused) ⊎ IsFault r.status
  pub limit : (max_bytes : ℕ) (names : FileNames) (w : World) (c : Customs) (bytes : List ℕ) → AsksServe r max_bytes names → Make r names (Loaded w c) → r.input.left ≡ Some bytes → max_bytes < length bytes → (r.status ≡ InputLimit) ⊎ IsFault r.status

-- ---- completeness, and the headline

-- the files make a world, and nothing fails: the folder is steady, no count of the source or the sink rose, and the input keeps its limit
pub record IsUndisturbed (r : Run) (is_steady : Type 0) (w : World) (c : Customs) (bytes : List ℕ) : Type 0 where
  pub max_bytes : ℕ
  pub names : FileNames
  pub asks : AsksServe r max_bytes names
  pub loads : Make r names (Loaded w c)
  pub steady : is_steady
  pub told : r.input.left ≡ Some bytes
  pub within : length bytes ≤ max_bytes
  pub no_read_failed : ¬ Rose r.input.faults r.input.faults_after
  pub no_write_failed : ¬ Rose r.output.faults r.output.faults_after

-- the bytes written are the replies to the request lines in order, or memory was wanting before the first line
abbrev pub Headline : Run → Type 0 → Type 0
Headline r is_steady = (w : World) (c : Customs) (bytes : List ℕ) → IsUndisturbed r is_steady w c bytes →
    ((r.status ≡ Served) × (r.input.left_after ≡ Some []) × Writes r (IsOut w c (request_lines bytes)))
    ⊎ ((r.status ≡ Memory) × (r.input.left_after ≡ r.input.left) × (r.output.held_after ≡ r.output.held))

-- a check ends in Served or Memory where nothing fails
abbrev pub ChecksAreComplete : Run → Type 0 → Type 0
ChecksAreComplete r is_steady = (names : FileNames) (w : World) (c : Customs) → AsksCheck r names → Make r names (Loaded w c) → is_steady → ¬ Rose r.output.faults r.output.faults_after → (r.status ≡ Served) ⊎ (r.status ≡ Memory)

-- the sample requests are answered where nothing fails
abbrev pub SamplesAreComplete : Run → Type 0
SamplesAreComplete r = (count : ℕ) → AsksGen r count → ¬ Rose r.output.faults r.output.faults_after → (r.status ≡ Served) ⊎ (r.status ≡ Memory)

-- What the service promises of a run.
pub record Says (r : Run) (is_steady same_folder same_input same_output : Type 0) : Type 0 where
  pub headline : Headline r is_steady
  pub ends : Ends r is_steady same_folder same_input same_output
  pub comes : Comes r
  pub checks : ChecksAreComplete r is_steady
  pub samples : SamplesAreComplete r
