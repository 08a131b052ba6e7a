use Rattle.std.proofs.Common.{◌≡◌, ◌∙◌, ap, sym, subst, length, Some}
use Rattle.std.specs.Prelude.{option_map}
use Rattle.row_values.specs.Placed.{are_within}
use Rattle.row_values.proofs.PlacedLemmas.{length-places, placed-some}
use Rattle.row_values.proofs.placed.PlacedRows.len.Goals as goal

pub returns-in-Some : goal.returns-in-Some
returns-in-Some c =
    let s = c.self.inside in
    let ks = c.in-Some.places.now in
    let e : option_map (λ p. p.now) s.places ≡ Some ks = ap (option_map (λ p. p.now)) c.in-Some.is in
    record { value = sym (length-places s.list.now ks (subst (are_within s.list.now) e c.self.invariant)) ∙ ap length (sym (placed-some s.list.now (option_map (λ p. p.now) s.places) ks e) ∙ c.self.view_is) }
