-- The number of sales that mode gen is asked for is within its limits.
use Rattle.std.proofs.Common.{◌≡◌, ◌∙◌, ℕ, ◌≤◌, ◌-◌, ◌^◌, ◌&&◌, Bool, true, false, List, None, Some, ap, arith, codes}
use Rattle.std.specs.Prelude.{if◌then◌else◌, Option, nat_le, option_map, unwrap_or}
use Rattle.std.specs.Str.Parse.{digits_value}
use Rattle.std.proofs.lemmas.Bool.Decides.{nat_tests}
use Rattle.edm_values.specs.Lists.{same_text}
use Rattle.edm_values.proofs.OptionFacts.{and_3, chained, if_else-parts, mapped, some_value}
use Rattle.edm_values.specs.Literals.{is_digits}
use Rattle.serve_options.specs.Options.{OptionValues, Settings, Serve, Check, Gen, number_or, number_within, plan_named, settings_of, mode_named, both_files, over_files}
use Rattle.serve_options.specs.Command.{settings_in, option_values}

-- ---- the number

abbrev Within : ℕ → ℕ → ℕ → Type 0
Within low high n = (low ≤ n) × (n ≤ high)

number_within-some : (low high : ℕ) (t : List ℕ) (n : ℕ) → number_within low high t ≡ Some n → Within low high n
number_within-some low high t n e =
    let d = digits_value 10 t in
    let tests = if_else-parts (is_digits t && nat_le low d && nat_le d high) (Some d) n e in
    let parts = and_3 (is_digits t) (nat_le low d) (nat_le d high) tests.0 in
    let same : d ≡ n = some_value tests.1 in
    (grind (arith, nat_tests, parts.1, same), grind (arith, nat_tests, parts.2, same))

number_or-some : (default low high : ℕ) (o : Option (List ℕ)) (n : ℕ) → low ≤ default → default ≤ high → number_or default low high o ≡ Some n → Within low high n
number_or-some default low high None n a b e = let same : default ≡ n = cc in (omega (arith, a, same), omega (arith, b, same))
number_or-some default low high (Some t) n a b e = number_within-some low high t n e

-- ---- the mode

files-other : (o : Option (List ℕ × List ℕ)) (n : ℕ) → option_map (λ names. Serve names.0 names.1) o ≡ Some (Gen n) → ⊥
files-other None n e = cc
files-other (Some names) n e = cc

check-other : (o : Option (List ℕ × List ℕ)) (n : ℕ) → option_map (λ names. Check names.0 names.1) o ≡ Some (Gen n) → ⊥
check-other None n e = cc
check-other (Some names) n e = cc

gen-by : (v : OptionValues) (count n : ℕ) (a b c : Bool) → (if a then over_files Serve v else (if b then over_files Check v else (if c then Some (Gen count) else None))) ≡ Some (Gen n) → count ≡ n
gen-by v count n true b c e = absurd (files-other (both_files v) n e)
gen-by v count n false true c e = absurd (check-other (both_files v) n e)
gen-by v count n false false true e = cc
gen-by v count n false false false e = absurd cc

gen-named : (v : OptionValues) (count n : ℕ) (t : List ℕ) → mode_named v count t ≡ Some (Gen n) → count ≡ n
gen-named v count n t e = gen-by v count n (same_text t (codes "serve")) (same_text t (codes "check")) (same_text t (codes "gen")) e

-- the number of sales that the words ask for
pub gen-within : (words : List (List ℕ)) (s : Settings) (n : ℕ) → settings_in words ≡ Some s → s.mode ≡ Gen n → (1 ≤ n) × (n ≤ 200000)
gen-within words s n asks mode =
    let values = chained settings_of (option_values words) s asks in
    let workers = chained _ (number_or 4 1 64 (values.0).workers) s values.2 in
    let bytes = chained _ (number_or 1073741824 0 (2 ^ 63 - 1) (values.0).max_bytes) s workers.2 in
    let count = chained _ (number_or 1000 1 200000 (values.0).count) s bytes.2 in
    let plan = chained _ (plan_named (unwrap_or (values.0).plan (codes "optimised"))) s count.2 in
    let made = mapped _ (mode_named values.0 count.0 (unwrap_or (values.0).mode (codes "serve"))) s plan.2 in
    let is : made.0 ≡ Gen n = ap (λ (x : Settings). x.mode) made.2 ∙ mode in
    let same : count.0 ≡ n = gen-named values.0 count.0 n (unwrap_or (values.0).mode (codes "serve")) (made.1 ∙ ap Some is) in
    let within = number_or-some 1000 1 200000 (values.0).count count.0 (omega arith) (omega arith) count.1 in
    (omega (arith, within.0, same), omega (arith, within.1, same))
