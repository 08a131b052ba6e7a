-- What the code's types hold, as values and settings.
use Rattle.std.specs.Prelude.{ℕ, List, option_map, string_bytes}
use Rattle.serve_options.specs.declared.Mode.{Mode}
use Rattle.serve_options.specs.declared.Mode.TheVariants as own
use Rattle.serve_options.specs.declared.Options.{Options}
use Rattle.serve_options.specs.declared.rules.Asked.{Asked}
use Rattle.serve_options.specs.declared.rules.AskedMode.{AskedMode}
use Rattle.serve_options.specs.declared.rules.AskedMode.TheVariants as lent
use Rattle.serve_options.specs.declared.rules.Names.{Names}
use Rattle.serve_options.specs.declared.rules.Problem.{Problem}
use Rattle.serve_options.specs.declared.rules.Problem.TheVariants as broken
use Rattle.serve_options.specs.declared.words.Given.{Given}
use Rattle.serve_options.specs.Options as asked
use Rattle.serve_options.specs.Usage.{files_told, mode_told, number_told, plan_told}

-- a mode
abbrev pub mode_seen : Mode → asked.Mode
mode_seen (own.Serve names) = asked.Serve (string_bytes names.model) (string_bytes names.entities)
mode_seen (own.Check names) = asked.Check (string_bytes names.model) (string_bytes names.entities)
mode_seen (own.Gen count) = asked.Gen count

-- the options, as settings
abbrev pub settings_seen : Options → asked.Settings
settings_seen o = record { mode = mode_seen o.mode; workers = o.workers; max_bytes = o.max_bytes; is_optimised = o.is_optimised }

-- the values of the options, as texts
abbrev pub values_seen : Given → asked.OptionValues
values_seen g = record {
  model = option_map (λ s. s.now) g.model;
  data_file = option_map (λ s. s.now) g.entities;
  workers = option_map (λ s. s.now) g.workers;
  max_bytes = option_map (λ s. s.now) g.max_bytes;
  plan = option_map (λ s. s.now) g.plan;
  mode = option_map (λ s. s.now) g.mode;
  count = option_map (λ s. s.now) g.count;
}

-- the names of the two files, as texts
abbrev pub names_seen : Names → List ℕ × List ℕ
names_seen n = (n.model.now, n.entities.now)

-- a mode with lent names
abbrev pub lent_mode_seen : AskedMode → asked.Mode
lent_mode_seen (lent.Serve names) = asked.Serve names.model.now names.entities.now
lent_mode_seen (lent.Check names) = asked.Check names.model.now names.entities.now
lent_mode_seen (lent.Gen count) = asked.Gen count

-- the options with lent names, as settings
abbrev pub lent_settings_seen : Asked → asked.Settings
lent_settings_seen a = record { mode = lent_mode_seen a.mode; workers = a.workers; max_bytes = a.max_bytes; is_optimised = a.is_optimised }

-- a rule that a value breaks, as it is told
abbrev pub problem_seen : Problem → List ℕ
problem_seen (broken.Number option low high given) = number_told option.now low high given.now
problem_seen (broken.Plan given) = plan_told given.now
problem_seen (broken.Mode given) = mode_told given.now
problem_seen (broken.Files mode) = files_told mode.now
