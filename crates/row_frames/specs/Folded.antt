-- Values that stand in a list by the places of rows, where these are folded.
use Rattle.std.specs.Prelude.{◌≡◌, ◌-◌, ◌≤◌, ℕ, ℤ, List, drop, length, map, take}
use Rattle.edm_values.specs.declared.Value.{Value}
use Rattle.edm_values.specs.declared.Dec.{Dec}
use Rattle.edm_values.specs.Values.{value_in}
use Rattle.row_frames.specs.declared.tables.Pick.{Pick}

-- the integer at the place of the row that is picked
abbrev pub int_of : List ℤ → Pick → Value
int_of list x = value_in (map Value.Int list) x.row

-- the decimal there
abbrev pub dec_of : List Dec → Pick → Value
dec_of list x = value_in (map Value.Dec list) x.row

-- integers at places, as values at these places
abbrev pub own_ints : List (ℤ × ℕ) → List (Value × ℕ)
own_ints xs = map (λ x. (Value.Int x.0, x.1)) xs

-- decimals
abbrev pub own_decs : List (Dec × ℕ) → List (Value × ℕ)
own_decs xs = map (λ x. (Value.Dec x.0, x.1)) xs

-- the integers at rows that are picked, which stand at places, with these places
abbrev pub ints_read : List ℤ → List (Pick × ℕ) → List (Value × ℕ)
ints_read list xs = map (λ x. (int_of list x.0, x.1)) xs

-- the decimals there
abbrev pub decs_read : List Dec → List (Pick × ℕ) → List (Value × ℕ)
decs_read list xs = map (λ x. (dec_of list x.0, x.1)) xs

-- these are the elements from one place to before another, which are all there
pub record IsSlice {A : Type 0} (list : List A) (from to : ℕ) (part : List A) : Type 0 where
  pub order : from ≤ to
  pub within : to ≤ length list
  pub elements : part ≡ take (to - from) (drop from list)
