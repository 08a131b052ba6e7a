-- The line of a refused file: this project's own form.
use Rattle.std.specs.Prelude.{ℕ, List, [], ◌++◌, codes, decimal}
use Rattle.serde_json.specs.Data.{string}
use Rattle.serde_json.specs.Written.{compact_text}
use Rattle.edm_model.specs.Models.{Model}
use Rattle.edm_model.specs.LookUps.{set_name}
use Rattle.edm_model.specs.ModelFile.{ModelReading}
use Rattle.edm_data.specs.Worlds.{Entity}
use Rattle.edm_data.specs.DataFile.{DataReading}

-- a name as a JSON string
abbrev pub json_string : List ℕ → List ℕ
json_string name = compact_text (string name)

-- the line of a refused model file, and nothing for a model
abbrev pub model_line : ModelReading → List ℕ
model_line (ModelReading.Model' m) = []
model_line ModelReading.TooLong = codes "model TooLong\n"
model_line ModelReading.NoJson = codes "model Json\n"
model_line ModelReading.NoModel = codes "model Model\n"

-- the line of a model file with a custom aggregate that has no reading or no typing: the name of its type, and its own
abbrev pub custom_line : List ℕ → List ℕ → List ℕ
custom_line type name = codes "model Custom " ++ json_string type ++ codes " " ++ json_string name ++ codes "\n"

-- the line of an entity at fault: what is wrong, the name of its set and its place
abbrev pub fault_line : List ℕ → List ℕ → ℕ → List ℕ
fault_line word name at = codes "data " ++ word ++ codes " " ++ json_string name ++ codes " " ++ decimal at ++ codes "\n"

-- the same, of an entity of a model's sets
abbrev pub entity_line : List ℕ → Model → Entity → List ℕ
entity_line word m e = fault_line word (set_name m e.set) e.at

-- the line of a refused data file, and nothing for a world
abbrev pub data_line : Model → DataReading → List ℕ
data_line m (DataReading.World' w) = []
data_line m DataReading.TooLong = codes "data TooLong\n"
data_line m DataReading.NoJson = codes "data Json\n"
data_line m (DataReading.Set name) = codes "data Set " ++ json_string name ++ codes "\n"
data_line m (DataReading.Shape e) = entity_line (codes "Shape") m e
data_line m (DataReading.TwiceKey e) = entity_line (codes "TwiceKey") m e
data_line m (DataReading.Dangling e) = entity_line (codes "Dangling") m e
