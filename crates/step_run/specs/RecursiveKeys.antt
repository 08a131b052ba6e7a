-- Recursive rollups among the keys of a grouping (Data Aggregation 4.0, section 6.3).
use Rattle.std.specs.Prelude.{◌≡◌, ◌&&◌, ◌⊎◌, Bool, true, false}
use Rattle.apply_ast.specs.Trees.{Key, Keys}

-- a plain key or a rollup
abbrev pub is_flat_key : Key → Bool
is_flat_key (Key.Recursive h p T) = false
is_flat_key k = true

-- no key is a recursive rollup
abbrev pub are_flat_keys : Keys → Bool
are_flat_keys Keys.NoKeys = true
are_flat_keys (Keys.MoreKeys k ks) = is_flat_key k && are_flat_keys ks

-- the key is one of these
abbrev pub HasKey : Key → Keys → Type 0
HasKey k Keys.NoKeys = ⊥
HasKey k (Keys.MoreKeys x ks) = (k ≡ x) ⊎ HasKey k ks
