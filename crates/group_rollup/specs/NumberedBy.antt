-- Groups of instances by key paths that are told by numbers.
use Rattle.std.specs.Prelude.{◌≡◌, ℕ, List, Some, length, map, slice_get}
use Rattle.edm_values.specs.Names.{Path}
use Rattle.edm_data.specs.Worlds.{World}
use Rattle.apply_meaning.specs.Instances.{Instance}
use Rattle.apply_meaning.specs.Meaning.{key_list}
use Rattle.numbered_groups.specs.Numbered.{AreNumbered, Numbering}

-- these are the groups of a list by these paths
abbrev pub AreNumberedBy : World → List Path → List Instance → Numbering → Type 0
AreNumberedBy w ks l n = AreNumbered (map (key_list w ks) l) n

-- these are the groups of a list by each of these lists of paths, in their order
pub record AreNumberedByEach (w : World) (levels : List (List Path)) (l : List Instance) (ns : List Numbering) : Type 0 where
  pub count : length ns ≡ length levels
  pub each : (k : ℕ) (ks : List Path) (n : Numbering) → slice_get levels k ≡ Some ks → slice_get ns k ≡ Some n → AreNumberedBy w ks l n
