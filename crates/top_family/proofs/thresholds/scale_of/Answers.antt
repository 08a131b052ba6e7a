use Rattle.std.proofs.Common.{◌∙◌, ap, sym}
use Rattle.std.specs.Prelude.{Option}
use Rattle.std.specs.Option.{option_map, unwrap_or}
use Rattle.edm_values.specs.declared.Seen.{Seen}
use Rattle.edm_values.specs.Values.{number_part, seen_value}
use Rattle.top_family.proofs.Totals.{seen-scale}
use Rattle.top_family.proofs.thresholds.scale_of.Goals as goal

pub returns-in-Some-clause-value : goal.returns-in-Some-clause-value
returns-in-Some-clause-value c = c.scale.ensures.value ∙ sym (seen-scale c.args.values.now ∙ ap (λ (o : Option Seen). unwrap_or (option_map (λ v. (number_part (seen_value v)).1) o) 0) (sym c.in-Some.ensures))

pub returns-in-None-clause-value : goal.returns-in-None-clause-value
returns-in-None-clause-value c = sym (seen-scale c.args.values.now ∙ ap (λ (o : Option Seen). unwrap_or (option_map (λ v. (number_part (seen_value v)).1) o) 0) (sym c.in-None.ensures))
