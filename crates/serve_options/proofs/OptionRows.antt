-- Worked examples of words and of the options' values.
use Rattle.std.proofs.Common.{◌≡◌, List, [], ◌∷◌, ℕ, true, false, refl, codes}
use Rattle.std.specs.Prelude.{Some, None}
use Rattle.clap.proofs.OnLiterals.{clap_on_literals}
use Rattle.serve_options.specs.Command.{serve_app, settings_in}
use Rattle.serve_options.specs.Options.{OptionValues, Settings, Serve, Check, Gen, settings_of}

-- ---- values

abbrev over_two_files : OptionValues
over_two_files = record { model = Some (codes "m.json"); data_file = Some (codes "d.json"); workers = None; max_bytes = None; plan = None; mode = None; count = None }

abbrev defaults : Settings
defaults = record { mode = Serve (codes "m.json") (codes "d.json"); workers = 4; max_bytes = 1073741824; is_optimised = true }

files_alone : settings_of over_two_files ≡ Some defaults
files_alone = refl

no_workers : settings_of (record over_two_files { workers = Some (codes "0") }) ≡ None
no_workers = refl

most_workers : settings_of (record over_two_files { workers = Some (codes "64") }) ≡ Some (record defaults { workers = 64 })
most_workers = refl

signed_number : settings_of (record over_two_files { max_bytes = Some (codes "+5") }) ≡ None
signed_number = refl

no_digits : settings_of (record over_two_files { max_bytes = Some [] }) ≡ None
no_digits = refl

most_bytes : settings_of (record over_two_files { max_bytes = Some (codes "9223372036854775807") }) ≡ Some (record defaults { max_bytes = 9223372036854775807 })
most_bytes = refl

too_many_bytes : settings_of (record over_two_files { max_bytes = Some (codes "9223372036854775808") }) ≡ None
too_many_bytes = refl

unused_count : settings_of (record over_two_files { count = Some (codes "200001") }) ≡ None
unused_count = refl

no_data_file : settings_of (record over_two_files { data_file = None }) ≡ None
no_data_file = refl

check_files : settings_of (record over_two_files { mode = Some (codes "check") }) ≡ Some (record defaults { mode = Check (codes "m.json") (codes "d.json") })
check_files = refl

check_no_model : settings_of (record over_two_files { mode = Some (codes "check"); model = None }) ≡ None
check_no_model = refl

generate : settings_of (record over_two_files { model = None; data_file = None; mode = Some (codes "gen"); count = Some (codes "003"); plan = Some (codes "written") }) ≡ Some (record { mode = Gen 3; workers = 4; max_bytes = 1073741824; is_optimised = false })
generate = refl

other_mode : settings_of (record over_two_files { mode = Some (codes "Serve") }) ≡ None
other_mode = refl

other_plan : settings_of (record over_two_files { plan = Some (codes "optimized") }) ≡ None
other_plan = refl

-- ---- words

abbrev files : List (List ℕ)
files = codes "--model" ∷ codes "m.json" ∷ codes "--data" ∷ codes "d.json" ∷ []

files_read : settings_in files ≡ Some defaults
unfolding clap_on_literals serve_app
files_read = refl

joined_words : settings_in (codes "--data=d.json" ∷ codes "--model=m.json" ∷ codes "--workers=04" ∷ []) ≡ Some defaults
unfolding clap_on_literals serve_app
joined_words = refl

no_words : settings_in [] ≡ None
unfolding clap_on_literals serve_app
no_words = refl

generate_alone : settings_in (codes "--mode" ∷ codes "gen" ∷ []) ≡ Some (record defaults { mode = Gen 1000 })
unfolding clap_on_literals serve_app
generate_alone = refl

no_workers_given : settings_in (codes "--workers" ∷ codes "0" ∷ files) ≡ None
unfolding clap_on_literals serve_app
no_workers_given = refl

given_twice : settings_in (codes "--mode" ∷ codes "serve" ∷ codes "--mode" ∷ codes "serve" ∷ files) ≡ None
unfolding clap_on_literals serve_app
given_twice = refl

no_value : settings_in (codes "--mode" ∷ files) ≡ None
unfolding clap_on_literals serve_app
no_value = refl

call_for_help : settings_in (codes "--help" ∷ files) ≡ None
unfolding clap_on_literals serve_app
call_for_help = refl

unknown_option : settings_in (codes "--world" ∷ codes "w" ∷ files) ≡ None
unfolding clap_on_literals serve_app
unknown_option = refl

stray_word : settings_in (codes "serve" ∷ files) ≡ None
unfolding clap_on_literals serve_app
stray_word = refl
