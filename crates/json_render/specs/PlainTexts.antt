-- Texts of which a JSON string has every byte as it is (RFC 8259, section 7).
use Rattle.std.specs.Prelude.{ℕ, ◌==◌, ◌&&◌, Bool, true, false, not, nat_le}
use Rattle.edm_values.specs.declared.Value.{Value}

-- the byte stands in a JSON string as itself
abbrev pub is_plain : ℕ → Bool
is_plain b = nat_le 32 b && not (b == 34) && not (b == 92)

-- numbers and days stand in quotes
abbrev pub is_quoted_kind : Value → Bool
is_quoted_kind (Value.Int z) = true
is_quoted_kind (Value.Dec d) = true
is_quoted_kind (Value.Day d) = true
is_quoted_kind _ = false
