-- Which files a run takes, so that nothing is wrong with them.
use Rattle.std.specs.Prelude.{◌≡◌, ℕ, List}
use Rattle.edm_model.specs.Models.{Model}
use Rattle.edm_model.specs.ModelFile.{ModelReading, model_reading}
use Rattle.edm_data.specs.Worlds.{World}
use Rattle.edm_data.specs.DataFile.{DataReading, data_reading}
use Rattle.context_typing.specs.Typing.{Customs}
use Rattle.apply_store.specs.CustomReadings.{AreCustoms}

-- a model file: its custom aggregates have typed readings
abbrev pub IsModelFile : List ℕ → Type 0
IsModelFile bytes = (m : Model) × (c : Customs) × (model_reading bytes ≡ ModelReading.Model' m) × AreCustoms m c

-- a data file of a model file
abbrev pub IsDataFile : List ℕ → List ℕ → Type 0
IsDataFile model_bytes bytes = (m : Model) × (w : World) × (model_reading model_bytes ≡ ModelReading.Model' m) × (data_reading m bytes ≡ DataReading.World' w)
