-- What is told of words that name no run.
use Rattle.std.specs.Prelude.{◌≡◌, List, ℕ, ◌++◌, ◌-◌, ◌^◌, if◌then◌else◌, codes, chars, decimal, Option, Some, None, unwrap_or}
use Rattle.std.specs.Option.{option_or}
use Rattle.edm_values.specs.Lists.{same_text}
use Rattle.quoted_text.specs.Quoted.{quote, show_all}
use Rattle.serve_options.specs.Command.{option_values}
use Rattle.serve_options.specs.Options.{OptionValues, both_files, number_within, plan_named}

-- the line of a problem
abbrev pub usage_line : List ℕ → List ℕ
usage_line problem = codes "apply_serve: " ++ (show_all (chars problem) ++ codes "; see apply_serve --help")

-- the line of some problem
abbrev pub IsUsageLine : List ℕ → Type 0
IsUsageLine t = (problem : List ℕ) × (t ≡ usage_line problem)

-- the limits of a number, as they are told
abbrev pub limits_told : ℕ → ℕ → List ℕ
limits_told low high = decimal low ++ (codes " to " ++ decimal high)

-- what is told of a value that is no number within its option's limits
abbrev pub number_told : List ℕ → ℕ → ℕ → List ℕ → List ℕ
number_told option low high given = option ++ (codes " takes a whole number from " ++ (limits_told low high ++ (codes ", not " ++ quote (chars given))))

-- of one that is no plan
abbrev pub plan_told : List ℕ → List ℕ
plan_told given = codes "--plan takes written or optimised, not " ++ quote (chars given)

-- of one that is no mode
abbrev pub mode_told : List ℕ → List ℕ
mode_told given = codes "--mode takes serve, check or gen, not " ++ quote (chars given)

-- of a mode that lacks a file
abbrev pub files_told : List ℕ → List ℕ
files_told mode = codes "mode " ++ (mode ++ codes " wants --model FILE and --data FILE")

-- what is told where there is no value
abbrev pub told_unless : {T : Type 0} → Option T → List ℕ → Option (List ℕ)
told_unless (Some x) told = None
told_unless None told = Some told

-- what is wrong with the value of an option that takes a number
abbrev pub number_problem : List ℕ → ℕ → ℕ → Option (List ℕ) → Option (List ℕ)
number_problem option low high None = None
number_problem option low high (Some t) = told_unless (number_within low high t) (number_told option low high t)

-- what is wrong with the name of a plan
abbrev pub plan_problem : List ℕ → Option (List ℕ)
plan_problem t = told_unless (plan_named t) (plan_told t)

-- what is wrong with the name of a mode, or with the files that it needs
abbrev pub mode_problem : OptionValues → List ℕ → Option (List ℕ)
mode_problem v t = if same_text t (codes "serve") then told_unless (both_files v) (files_told (codes "serve")) else (if same_text t (codes "check") then told_unless (both_files v) (files_told (codes "check")) else (if same_text t (codes "gen") then None else Some (mode_told t)))

-- the first rule that a value breaks, as it is told: the numbers come first, then the plan, then the mode
abbrev pub problem_of : OptionValues → Option (List ℕ)
problem_of v =
    option_or (number_problem (codes "--workers") 1 64 v.workers)
    (option_or (number_problem (codes "--max-bytes") 0 (2 ^ 63 - 1) v.max_bytes)
    (option_or (number_problem (codes "--count") 1 200000 v.count)
    (option_or (plan_problem (unwrap_or v.plan (codes "optimised")))
    (mode_problem v (unwrap_or v.mode (codes "serve"))))))

-- what is told of words that name no run: the line of the first rule that a value breaks; where the words do not meet the command, the line of some problem
pub record IsUsageText (words : List (List ℕ)) (t : List ℕ) : Type 0 where
  pub line : IsUsageLine t
  pub rule : (v : OptionValues) (problem : List ℕ) → option_values words ≡ Some v → problem_of v ≡ Some problem → t ≡ usage_line problem
