-- What two files of a folder make.
use Rattle.std.specs.Prelude.{◌≡◌, ℕ, List, Some, None}
use Rattle.std.specs.declared.option.Option.{Option}
use Rattle.apply_io.specs.Files.{Files, content}
use Rattle.edm_model.specs.Models.{Custom, Model}
use Rattle.edm_model.specs.LookUps.{type_name}
use Rattle.edm_model.specs.ModelFile.{ModelReading, model_reading}
use Rattle.edm_data.specs.Worlds.{World}
use Rattle.edm_data.specs.DataFile.{DataReading, data_reading}
use Rattle.context_typing.specs.Typing.{Customs}
use Rattle.apply_store.specs.CustomReadings.{AreCustoms, IsFirstUntyped}
use Rattle.apply_load.specs.RefusedFiles.{model_line, custom_line, data_line}

-- the names of the model file and of the data file
pub record FileNames : Type 0 where
  pub model : List ℕ
  pub entities : List ℕ

-- a file that is to be read is missing; a file is refused, with its line; or there is a world, with the readings of its custom aggregates
pub data Outcome : Type 0 where
  Missing : Outcome
  RefusedModel : List ℕ → Outcome
  RefusedData : List ℕ → Outcome
  Loaded : World → Customs → Outcome

-- the outcome of a data file's reading
abbrev pub judged_data : Model → Customs → DataReading → Outcome
judged_data m c (DataReading.World' w) = Loaded w c
judged_data m c reading = RefusedData (data_line m reading)

-- the outcome of a data file
abbrev pub data_outcome : Model → Customs → Option (List ℕ) → Outcome
data_outcome m c None = Missing
data_outcome m c (Some file) = judged_data m c (data_reading m file)

-- the outcome of a model: its first custom aggregate without a typed reading, or else that of the data file
pub data IsModelOutcome (m : Model) (entities : Option (List ℕ)) : Outcome → Type 0 where
  untyped : (u : ℕ × Custom) → IsFirstUntyped m u → IsModelOutcome m entities (RefusedModel (custom_line (type_name m u.0) (u.1).name))
  typed : (c : Customs) → AreCustoms m c → IsModelOutcome m entities (data_outcome m c entities)

-- the outcome of a model file's reading, and of the data file
abbrev pub IsReadingOutcome : ModelReading → Option (List ℕ) → Outcome → Type 0
IsReadingOutcome (ModelReading.Model' m) entities o = IsModelOutcome m entities o
IsReadingOutcome reading entities o = o ≡ RefusedModel (model_line reading)

-- the outcome of a model file and a data file
abbrev pub IsPairOutcome : Option (List ℕ) → Option (List ℕ) → Outcome → Type 0
IsPairOutcome None entities o = o ≡ Missing
IsPairOutcome (Some file) entities o = IsReadingOutcome (model_reading file) entities o

-- the outcome of the two files of these names: the model file is judged first, then its custom aggregates, then the data file
abbrev pub IsFilesOutcome : Files → FileNames → Outcome → Type 0
IsFilesOutcome files names o = IsPairOutcome (content files names.model) (content files names.entities) o

-- this is the outcome of the two files of these names, where the folder tells its files
pub record FilesMake (told : Option Files) (names : FileNames) (o : Outcome) : Type 0 where
  pub make : (files : Files) → told ≡ Some files → IsFilesOutcome files names o

-- the named file is this model's
pub record MakesModel (told : Option Files) (name : List ℕ) (m : Model) : Type 0 where
  pub makes : (files : Files) → told ≡ Some files → (file : List ℕ) × (content files name ≡ Some file) × (model_reading file ≡ ModelReading.Model' m)

-- the named file is refused as a model file, with this line
pub record RefusesModel (told : Option Files) (name line : List ℕ) : Type 0 where
  pub refuses : (files : Files) (entities : Option (List ℕ)) → told ≡ Some files → (file : List ℕ) × (content files name ≡ Some file) × IsReadingOutcome (model_reading file) entities (RefusedModel line)

-- the model has a first custom aggregate without a typed reading, and this is its line
pub record RefusesCustom (m : Model) (line : List ℕ) : Type 0 where
  pub refused : ℕ × Custom
  pub first : IsFirstUntyped m refused
  pub told : line ≡ custom_line (type_name m refused.0) (refused.1).name

-- the named file is this world's over the model
pub record MakesWorld (told : Option Files) (name : List ℕ) (m : Model) (w : World) : Type 0 where
  pub makes : (files : Files) → told ≡ Some files → (file : List ℕ) × (content files name ≡ Some file) × (data_reading m file ≡ DataReading.World' w)

-- the named file is refused as a data file over the model, with this line, whatever the custom aggregates
pub record RefusesData (told : Option Files) (name : List ℕ) (m : Model) (line : List ℕ) : Type 0 where
  pub refuses : (files : Files) (c : Customs) → told ≡ Some files → (file : List ℕ) × (content files name ≡ Some file) × (judged_data m c (data_reading m file) ≡ RefusedData line)

-- the folder lacks the named file, where it tells its files
pub record Lacks (told : Option Files) (name : List ℕ) : Type 0 where
  pub lacks : (files : Files) → told ≡ Some files → content files name ≡ None
