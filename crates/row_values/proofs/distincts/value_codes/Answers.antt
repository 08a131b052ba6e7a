use Rattle.std.proofs.Common.{◌≡◌, ◌∙◌, IfSome, ap, false, map, subst}
use Rattle.std.specs.Prelude.{IfOk}
use Rattle.std.specs.List.{list_any}
use Rattle.edm_values.specs.Values.{is_beyond, seen_value}
use Rattle.row_values.proofs.distincts.value_codes.Goals as goal

pub returns-clause-within : goal.returns-clause-within
returns-clause-within g c =
    subst (λ vs. IfOk c.any_codes.result (λ o. IfSome o (λ _. list_any is_beyond vs ≡ false))) (ap (map (λ v. seen_value v)) c.as_slice.ensures.value ∙ c.in_ok-seen.ensures.value) c.any_codes.ensures.within
