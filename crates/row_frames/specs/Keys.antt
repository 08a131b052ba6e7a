-- The values of key paths on instances: a column for each path, and the key lists that stand across the columns.
use Rattle.std.specs.Prelude.{ℕ, List, get_or, map}
use Rattle.std.specs.Global.{Vec}
use Rattle.edm_values.specs.declared.Value.{Value}
use Rattle.edm_values.specs.declared.Seen.{Seen}
use Rattle.edm_values.specs.Lists.{places}
use Rattle.edm_values.specs.Names.{Path}
use Rattle.edm_values.specs.Values.{seen_value}
use Rattle.edm_data.specs.Worlds.{World}
use Rattle.apply_meaning.specs.Instances.{Instance, lookup}

-- the value of a path on each instance
abbrev pub key_column : World → List Instance → Path → List Value
key_column w l p = map (λ i. lookup w i p) l

-- the same of each path
abbrev pub key_columns : World → List Path → List Instance → List (List Value)
key_columns w ps l = map (key_column w l) ps

-- the values of columns that borrow their texts
abbrev pub seen_columns : List (Vec Seen) → List (List Value)
seen_columns cs = map (λ c. map (λ v. seen_value v) c.items) cs

-- the key list at a place: the value of each column there
abbrev pub key_at : List (List Value) → ℕ → List Value
key_at cs k = map (λ c. get_or c k Value.Null) cs

-- the key lists at the first n places
abbrev pub keys_of : List (List Value) → ℕ → List (List Value)
keys_of cs n = map (key_at cs) (places n)
