-- The program's options: the rules on their values, and what the values ask for. This project's own.
use Rattle.std.specs.Prelude.{ℕ, ◌-◌, ◌^◌, ◌&&◌, Bool, true, false, if◌then◌else◌, List, nat_le, codes, Option, Some, None, option_map, option_and_then, unwrap_or}
use Rattle.std.specs.Str.Parse.{digits_value}
use Rattle.edm_values.specs.Lists.{same_text}
use Rattle.edm_values.specs.Literals.{is_digits}

-- the values of the options as texts, each none where the option was not given
pub record OptionValues : Type 0 where
  pub model : Option (List ℕ)
  pub data_file : Option (List ℕ)
  pub workers : Option (List ℕ)
  pub max_bytes : Option (List ℕ)
  pub plan : Option (List ℕ)
  pub mode : Option (List ℕ)
  pub count : Option (List ℕ)

-- what a run is to do: answer requests over the model file and the data file, check the two files, or answer the sample requests over a generated world
pub data Mode : Type 0 where
  Serve : List ℕ → List ℕ → Mode
  Check : List ℕ → List ℕ → Mode
  Gen : ℕ → Mode

-- what the values ask for
pub record Settings : Type 0 where
  pub mode : Mode
  pub workers : ℕ
  pub max_bytes : ℕ
  pub is_optimised : Bool

-- a number of digits alone, within its limits
abbrev pub number_within : ℕ → ℕ → List ℕ → Option ℕ
number_within low high t = if is_digits t && nat_le low (digits_value 10 t) && nat_le (digits_value 10 t) high then Some (digits_value 10 t) else None

-- the number of an option, or its default where the option was not given
abbrev pub number_or : ℕ → ℕ → ℕ → Option (List ℕ) → Option ℕ
number_or default low high None = Some default
number_or default low high (Some t) = number_within low high t

-- the plan of this name: whether it is optimised
abbrev pub plan_named : List ℕ → Option Bool
plan_named t = if same_text t (codes "optimised") then Some true else (if same_text t (codes "written") then Some false else None)

-- the names of both files, where both are given
abbrev pub both_files : OptionValues → Option (List ℕ × List ℕ)
both_files v = option_and_then (λ m. option_map (λ d. (m, d)) v.data_file) v.model

-- a mode over both files, where both are given
abbrev pub over_files : (List ℕ → List ℕ → Mode) → OptionValues → Option Mode
over_files mode v = option_map (λ names. mode names.0 names.1) (both_files v)

-- the mode of this name; mode gen takes no files
abbrev pub mode_named : OptionValues → ℕ → List ℕ → Option Mode
mode_named v count t = if same_text t (codes "serve") then over_files Serve v else (if same_text t (codes "check") then over_files Check v else (if same_text t (codes "gen") then Some (Gen count) else None))

-- what the values ask for, none where one breaks a rule; a number is within its limits in every mode
abbrev pub settings_of : OptionValues → Option Settings
settings_of v =
    option_and_then (λ workers.
    option_and_then (λ max_bytes.
    option_and_then (λ count.
    option_and_then (λ is_optimised.
    option_map (λ mode. record { mode = mode; workers = workers; max_bytes = max_bytes; is_optimised = is_optimised })
    (mode_named v count (unwrap_or v.mode (codes "serve"))))
    (plan_named (unwrap_or v.plan (codes "optimised"))))
    (number_or 1000 1 200000 v.count))
    (number_or 1073741824 0 (2 ^ 63 - 1) v.max_bytes))
    (number_or 4 1 64 v.workers)
