-- The least sums of mantissas that are enough.
use Rattle.std.specs.Prelude.{◌≡◌, ℕ, ◌+ℤ◌, Bool, List, ℤ, pos, int_le, find, fold, option_map, unwrap_or}
use Rattle.edm_values.specs.declared.Value.{Value}
use Rattle.edm_values.specs.Lists.{at_places}
use Rattle.edm_values.specs.Values.{is_number, number_part}

-- the sum of the mantissas of a list, an integer being its own
abbrev pub mantissas : List Value → ℤ
mantissas vs = fold (λ a v. a +ℤ (number_part v).0) (pos 0) vs

-- the mantissas sum up to at least this
abbrev pub is_reached : ℤ → List Value → Bool
is_reached least vs = int_le least (mantissas vs)

-- of values taken from a list, those that are enough are those whose mantissas sum up to at least this
abbrev pub IsLeast : (List Value → Bool) → List Value → ℤ → Type 0
IsLeast reaches vs least = (ks : List ℕ) → reaches (at_places vs ks) ≡ is_reached least (at_places vs ks)

-- the scale of the first number, and 0 where there is none
abbrev pub scale_in : List Value → ℕ
scale_in vs = unwrap_or (option_map (λ v. (number_part v).1) (find is_number vs)) 0
