-- What is known of the files where loading stopped.
use Rattle.std.specs.Prelude.{ℕ, List, ⊤}
use Rattle.std.specs.declared.option.Option.{Option}
use Rattle.apply_io.specs.Files.{Files}
use Rattle.edm_model.specs.Models.{Model}
use Rattle.apply_load.specs.Loads.{FileNames, RefusedModel, RefusedData, FilesMake, RefusesModel, RefusesCustom, RefusesData}
use Rattle.line_stream.specs.Outputs.{bytes_of}
use Rattle.apply_load.specs.declared.customs.CustomStop.{CustomStop}
use Rattle.apply_load.specs.declared.customs.CustomStop.TheVariants as stop
use Rattle.apply_load.specs.declared.loading.ModelStop.{ModelStop}
use Rattle.apply_load.specs.declared.loading.ModelStop.TheVariants as model_stop
use Rattle.apply_load.specs.declared.loading.DataStop.{DataStop}
use Rattle.apply_load.specs.declared.loading.DataStop.TheVariants as data_stop
use Rattle.apply_load.specs.declared.loading.LoadStop.{LoadStop}
use Rattle.apply_load.specs.declared.loading.LoadStop.TheVariants as load_stop

-- a refused model file has its line
abbrev pub ModelStopSays : Option Files → List ℕ → ModelStop → Type 0
ModelStopSays told name model_stop.Fault = ⊤
ModelStopSays told name model_stop.Memory = ⊤
ModelStopSays told name (model_stop.Refused line) = RefusesModel told name line.now

-- the fact holds of the line of a refusal, if it is one
abbrev pub IfRefused : CustomStop → (List ℕ → Type 0) → Type 0
IfRefused stop.Memory P = ⊤
IfRefused (stop.Refused line) P = P line.items

-- a refused custom aggregate has its line
abbrev pub CustomStopSays : Model → CustomStop → Type 0
CustomStopSays m s = IfRefused s (RefusesCustom m)

-- a refused data file has its line
abbrev pub DataStopSays : Option Files → List ℕ → Model → DataStop → Type 0
DataStopSays told name m data_stop.Fault = ⊤
DataStopSays told name m data_stop.Memory = ⊤
DataStopSays told name m (data_stop.Refused line) = RefusesData told name m line.items

-- a refused file has its line
abbrev pub LoadStopSays : Option Files → FileNames → LoadStop → Type 0
LoadStopSays told names load_stop.Fault = ⊤
LoadStopSays told names load_stop.Memory = ⊤
LoadStopSays told names (load_stop.Model line) = FilesMake told names (RefusedModel (bytes_of line))
LoadStopSays told names (load_stop.Data line) = FilesMake told names (RefusedData line.items)
