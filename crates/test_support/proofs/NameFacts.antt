-- Names that texts are.
use Rattle.std.proofs.Common.{◌≡◌, ℕ, ap, Bool, true, false, List, Some, None}
use Rattle.std.specs.Prelude.{if◌then◌else◌, unwrap_or}

-- the name that a text is has the text's bytes
pub named-text : (b : Bool) (t n : List ℕ) → Some n ≡ (if b then Some t else None) → n ≡ t
named-text true t n e = ap (λ o. unwrap_or o t) e
named-text false t n e = ap (λ o. unwrap_or o t) e
