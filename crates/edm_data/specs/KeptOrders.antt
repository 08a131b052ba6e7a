-- The kept order of the keys of each set.
use Rattle.std.specs.Prelude.{ℕ, ◌≡◌, List, [], Vec, slice_get, option_map, unwrap_or}
use Rattle.std.specs.declared.alloc.Global.{Global}
use Rattle.edm_values.specs.Values.{value_cmp}
use Rattle.edm_data.specs.Worlds.{World}
use Rattle.edm_data.specs.References.{keys_of}
use Rattle.edm_data.specs.DataFile.{World', keys_reading}
use Rattle.edm_data.specs.KeyOrders.{IsKeyOrder}

-- the list at a place of lists that are kept in vectors
abbrev pub list_at : {X : Type 0} → Vec (Vec X Global) Global → ℕ → List X
list_at xss s = unwrap_or (option_map (λ xs. xs.items) (slice_get xss.items s)) []

-- there is an order of the keys for each set
pub record HasKeyOrders (w : World) (orders : Vec (Vec ℕ Global) Global) : Type 0 where
  pub each : (s : ℕ) → IsKeyOrder value_cmp (keys_of w s) (list_at orders s)

-- what is kept beside the tables: the orders of the keys; and the keys of each set differ
pub record HasDistinctKeys (w : World) (orders : Vec (Vec ℕ Global) Global) : Type 0 where
  pub ordered : HasKeyOrders w orders
  pub distinct : keys_reading w ≡ World' w
