-- The command line, as clap states the command that is read.
use Rattle.std.specs.Prelude.{ℕ, List, [], ◌∷◌, codes, Option, Some, None, true, String, string_bytes, map, option_and_then}
use Rattle.std.specs.declared.alloc.Global.{Global}
use Rattle.clap.specs.Walk.{Row, Rule, first_of}
use Rattle.clap.specs.Simple.{App, matches_of, new_app, new_rule, on_top, with_rule}
use Rattle.clap.specs.Kinds.{IsAmong, Kinds}
use Rattle.clap.specs.declared.error.kind.ErrorKind.TheVariants.{DisplayHelp}
use Rattle.clap.specs.Faults.{fault_of}
use Rattle.serve_options.specs.Options.{OptionValues, Settings, settings_of}

-- an option `--name` that takes one value, for which help has one word
abbrev pub option_rule : List ℕ → Rule
option_rule name = record (new_rule name) { long = Some name; value_names = 1 }

-- the command: its words are those after the program's name
unfoldable pub serve_app : App
serve_app =
    with_rule (with_rule (with_rule (with_rule (with_rule (with_rule (with_rule
    (on_top (λ s. record s { no_binary_name = true }) (new_app (codes "apply_serve")))
    (option_rule (codes "model")))
    (option_rule (codes "data")))
    (option_rule (codes "workers")))
    (option_rule (codes "max-bytes")))
    (option_rule (codes "plan")))
    (option_rule (codes "mode")))
    (option_rule (codes "count"))

-- the first value of each option
abbrev pub values_in : List Row → OptionValues
values_in rows = record {
  model = first_of (codes "model") rows;
  data_file = first_of (codes "data") rows;
  workers = first_of (codes "workers") rows;
  max_bytes = first_of (codes "max-bytes") rows;
  plan = first_of (codes "plan") rows;
  mode = first_of (codes "mode") rows;
  count = first_of (codes "count") rows;
}

-- the values, where nothing is wrong with the words
abbrev pub values_unless : Kinds → OptionValues → Option OptionValues
values_unless [] v = Some v
values_unless (k ∷ ks) v = None

-- the values of the options in the words after the program's name; none where the words do not meet the command: an option that it lacks, one given twice or without a value, a stray word, or a call for help
abbrev pub option_values : List (List ℕ) → Option OptionValues
option_values words = values_unless (fault_of serve_app words) (values_in (matches_of serve_app words))

-- what the words ask for; none where they do not meet the command, or a value breaks a rule
abbrev pub settings_in : List (List ℕ) → Option Settings
settings_in words = option_and_then settings_of (option_values words)

-- the words as texts
abbrev pub texts_of : List (String Global) → List (List ℕ)
texts_of words = map string_bytes words

-- whether the words ask for help, which is then what keeps them from naming a run
abbrev pub AsksHelp : List (List ℕ) → Type 0
AsksHelp words = IsAmong DisplayHelp (fault_of serve_app words)
