-- The line of a run, but for what is wrong with words or with a file.
use Rattle.std.specs.Prelude.{◌≡◌, ℕ, List, [], ◌++◌, Bool, Option, None, Some, codes, chars, if◌then◌else◌}
use Rattle.apply_service.specs.declared.status.Status.{Status}
use Rattle.serve_options.specs.Options.{Mode}
use Rattle.quoted_text.specs.Quoted.{quote, show_all}

-- the line of a text
abbrev pub run_line : List ℕ → List ℕ
run_line text = codes "apply_serve: " ++ show_all (chars text)

-- what is told of a read that failed: of which file, if that is known, or else whether it was the input
abbrev pub read_text : Option (List ℕ) → Bool → List ℕ
read_text (Some name) input = codes "file " ++ quote (chars name) ++ codes " could not be read: it is not there, is a directory, or may not be read"
read_text None input = if input then codes "standard input could not be read" else codes "a file could not be read"

-- the names of the model file and of the data file that a mode has
abbrev pub model_name : Mode → List ℕ
model_name (Mode.Serve model entities) = model
model_name (Mode.Check model entities) = model
model_name (Mode.Gen count) = []

abbrev pub entities_name : Mode → List ℕ
entities_name (Mode.Serve model entities) = entities
entities_name (Mode.Check model entities) = entities
entities_name (Mode.Gen count) = []

-- a file by its kind and its name
abbrev pub file_called : List ℕ → List ℕ → List ℕ
file_called kind name = kind ++ (codes " file " ++ quote (chars name))

-- the file that a status refuses
abbrev pub refused_file : Status → Mode → List ℕ
refused_file Status.ModelRefused mode = file_called (codes "model") (model_name mode)
refused_file other mode = file_called (codes "data") (entities_name mode)

-- the text begins so
abbrev pub BeginsWith : List ℕ → List ℕ → Type 0
BeginsWith front text = (rest : List ℕ) × (text ≡ front ++ rest)

-- the line of a text that begins so
abbrev pub IsLineThatBegins : List ℕ → List ℕ → Type 0
IsLineThatBegins front t = (text : List ℕ) × BeginsWith front text × (t ≡ run_line text)
