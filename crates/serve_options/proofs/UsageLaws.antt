-- What is told of wrong words, and that it can be shown.
use Rattle.std.proofs.Common.{◌≡◌, List, [], ℕ, None, Some, IsUtf8, codes, chars, refl, ap, sym, ◌∙◌}
use Rattle.std.proofs.lemmas.Str.{chars-nil}
use Rattle.edm_values.proofs.OptionFacts.{some_value}
use Rattle.quoted_text.specs.Quoted.{IsPrintable}
use Rattle.quoted_text.proofs.PrintableLaws.{framed_printable}
use Rattle.serve_options.specs.Command.{option_values}
use Rattle.serve_options.specs.Options.{OptionValues}
use Rattle.serve_options.specs.Usage.{IsUsageLine, IsUsageText, problem_of, usage_line}

-- no text has none
pub none_printable : IsPrintable []
none_printable = rw chars-nil refl

-- the line of a problem has no unprintable character
pub usage_printable : (t : List ℕ) → IsUtf8 t → IsUsageLine t → IsPrintable t
usage_printable t u line = framed_printable (codes "apply_serve: ") (codes "; see apply_serve --help") (chars line.0) t refl refl u line.1

-- the line of the first rule that a value breaks
pub rule_told : (words : List (List ℕ)) (v : OptionValues) (problem t : List ℕ) → option_values words ≡ Some v → problem_of v ≡ Some problem → t ≡ usage_line problem
    → IsUsageText words t
rule_told words v problem t found broken told = record {
  line = (problem, told);
  rule = λ w p values first. told ∙ ap usage_line (some_value (sym broken ∙ ap problem_of (some_value (sym found ∙ values)) ∙ first));
}

-- a line of words that do not meet the command
pub command_told : (words : List (List ℕ)) (t : List ℕ) → option_values words ≡ None → IsUsageLine t → IsUsageText words t
command_told words t none line = record { line = line; rule = λ w p values first. cc }
