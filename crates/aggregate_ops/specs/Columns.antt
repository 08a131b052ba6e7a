-- Key lists whose values stand in lists or in columns: a column has one value of each key list.
use Rattle.std.specs.Prelude.{◌<◌, ℕ, List, length, map, slice_index_or}
use Rattle.std.specs.Global.{Vec}
use Rattle.std.specs.List.{All}
use Rattle.edm_values.specs.declared.Seen.{Seen}
use Rattle.edm_values.specs.declared.Value.{Value}
use Rattle.edm_values.specs.Lists.{places}
use Rattle.edm_values.specs.Values.{seen_value}
use Rattle.aggregate_ops.specs.declared.hashed.KeptValue.{KeptValue}
use Rattle.aggregate_ops.specs.declared.hashed.KeptValue.TheVariants as kept
use Rattle.aggregate_ops.specs.declared.hashed.KeyValues.{KeyValues}
use Rattle.aggregate_ops.specs.declared.hashed.KeyValues.TheVariants as values

-- the values of a column
abbrev pub column_values : Vec Seen → List Value
column_values c = map seen_value c.items

-- the columns' values at a place
abbrev pub key_at : List (Vec Seen) → ℕ → List Value
key_at columns at = map (λ c. slice_index_or (column_values c) at Value.Null) columns

-- the key lists at the first `count` places of the columns
abbrev pub key_rows : List (Vec Seen) → ℕ → List (List Value)
key_rows columns count = map (key_at columns) (places count)

-- the values of a key list
abbrev pub key_values : KeyValues → List Value
key_values (values.Listed list) = list.now
key_values (values.Owned list) = list.items
key_values (values.Placed columns at) = key_at columns.now at

-- each column has a value at the place
abbrev pub are_there : KeyValues → Type 0
are_there (values.Placed columns at) = All (λ c. at < length c.items) columns.now
are_there _ = Unit {0}

-- the value that is borrowed, or owned
abbrev pub kept_value : KeptValue → Value
kept_value (kept.Seen v) = seen_value v
kept_value (kept.Owned v) = v
