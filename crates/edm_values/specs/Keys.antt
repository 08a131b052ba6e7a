-- What values give a hash function, as keys of maps.
use Rattle.std.specs.Prelude.{List, ℕ, ◌++◌}
use Rattle.std.specs.Hash as fed
use Rattle.edm_values.specs.declared.Value.{Value}

-- the place of the variant, and then what it holds
abbrev pub hash_writes : Value → List (List ℕ)
hash_writes Value.Null = fed.u8 0
hash_writes (Value.Bool b) = fed.u8 1 ++ fed.bool b
hash_writes (Value.Int z) = fed.u8 2 ++ fed.i64 z
hash_writes (Value.Dec d) = fed.u8 3 ++ (fed.i64 d.mantissa ++ fed.u8 d.scale)
hash_writes (Value.Text t) = fed.u8 4 ++ fed.str t
hash_writes (Value.Day d) = fed.u8 5 ++ (fed.u16 d.year ++ (fed.u8 d.month ++ fed.u8 d.day))
hash_writes Value.Beyond = fed.u8 6
