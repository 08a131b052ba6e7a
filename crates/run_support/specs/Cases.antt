-- What a run over objects in memory is given.
use Rattle.std.specs.Prelude.{ℕ, ◌==◌, if◌then◌else◌, max, List, [], ◌∷◌, map, codes}
use Rattle.apply_io.specs.Files.{Files}
use Rattle.apply_io.specs.Memory.{FolderState, SourceState, SinkState}
use Rattle.run_support.specs.declared.runs.Case.{Case}

-- the numbers of the calls that fail: this one alone, or none for 0
abbrev pub failing_calls : ℕ → List ℕ
failing_calls number = if number == 0 then [] else number ∷ []

-- the words that name the two files, and then those of the case
abbrev pub case_words : Case → List (List ℕ)
case_words case = codes "--model" ∷ codes "m" ∷ codes "--data" ∷ codes "d" ∷ map (λ w. w.now) case.words.now

-- the two files: the model's and the data's
abbrev pub case_files : Case → Files
case_files case = (codes "m", case.model.now) ∷ (codes "d", case.data.now) ∷ []

-- the folder with the two files, before its first call
abbrev pub case_folder : Case → FolderState
case_folder case = record { files = case_files case; fails = failing_calls case.folder_fails; calls = 0; faults = 0 }

-- the source of these bytes, before its first call
abbrev pub case_source : Case → List ℕ → SourceState
case_source case bytes = record { left = bytes; most = max case.most 1; fails = failing_calls case.input_fails; calls = 0; faults = 0 }

-- the sink, empty and with room for 16384 bytes, before its first call
abbrev pub case_sink : Case → SinkState
case_sink case = record { held = []; room = 16384; most = max case.most 1; fails = failing_calls case.output_fails; calls = 0; faults = 0 }
