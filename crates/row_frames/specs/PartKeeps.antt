-- The picks that a filter keeps of a part.
use Rattle.std.specs.Prelude.{◌≡◌, ◌++◌, ◌∷◌, Ok, Err, List, map}
use Rattle.std.specs.declared.result.Result as result
use Rattle.std.specs.Global.{Vec}
use Rattle.edm_values.specs.declared.refusals.Refused.{Refused}
use Rattle.edm_values.specs.declared.refusals.Refused.TheVariants as refused
use Rattle.row_frames.specs.Answers.{answer_of, Keeps}
use Rattle.row_frames.specs.Frames.{read_at}
use Rattle.row_frames.specs.Runs.{part_rows}
use Rattle.row_frames.specs.declared.picks.Part.{Part}
use Rattle.row_frames.specs.declared.readers.TableReader.{TableReader}
use Rattle.row_frames.specs.declared.tables.Pick.{Pick}

-- those rows of the list were kept in which what is bound is true, or it is refused
abbrev pub KeepsTrue : List TableReader → List Pick → result.Result (Vec Pick) Refused → Type 0
KeepsTrue rs xs r = Keeps (map (λ x. answer_of (read_at rs x)) xs) xs r

-- the same of a part
abbrev pub KeepsPart : List TableReader → Part → result.Result (Vec Pick) Refused → Type 0
KeepsPart rs p r = KeepsTrue rs (part_rows p) r

-- one of the results, and none before it, is not there, since a value is past its range
abbrev pub HasPast : List (result.Result (Vec Pick) Refused) → Type 0
HasPast rs = (ls : List (Vec Pick)) × (rest : List (result.Result (Vec Pick) Refused)) × (rs ≡ map Ok ls ++ Err refused.Range ∷ rest)
