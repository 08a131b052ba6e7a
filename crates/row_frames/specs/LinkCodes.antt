-- Numbers in place of the values of a property by which entities refer to others (CSDL JSON 4.01, section 8.5).
use Rattle.std.specs.Prelude.{◌≡◌, ℕ, suc, ◌<◌, false, nat_eq, List, Option, Some, None, IfSome, length}
use Rattle.edm_values.specs.Values.{same_value}
use Rattle.edm_model.specs.LookUps.{navigation_on}
use Rattle.edm_model.specs.Models.{Model, Navigation, Part}
use Rattle.edm_data.specs.LinkLists.{LinkList, link_in}
use Rattle.edm_data.specs.References.{property}
use Rattle.edm_data.specs.Worlds.{World, entity_at}
use Rattle.apply_meaning.specs.Instances.{root_of}
use Rattle.row_frames.specs.Frames.{picked}
use Rattle.row_frames.specs.declared.tables.Pick.{Pick}
use Rattle.row_frames.specs.declared.tables.Table.{Table}

-- by this navigation entities refer to one entity through the property at this place
pub record IsBy (m : Model) (n : Part) (q : ℕ) : Type 0 where
  pub navigation : Navigation
  pub is : navigation_on m n ≡ Some navigation
  pub one : navigation.many ≡ false
  pub dependent : navigation.dependent ≡ q

-- a number for what an entity refers to: 0 where it refers to nothing, and else one more than its place
abbrev pub link_code : Option ℕ → ℕ
link_code None = 0
link_code (Some k) = suc k

-- two entities of a set have the same value of a property exactly where what they refer to has the same number
abbrev pub AreTold : World → ℕ → ℕ → (ℕ → Option ℕ) → Type 0
AreTold w s q link = (j k : ℕ) → same_value (property w (entity_at s j) q) (property w (entity_at s k) q) ≡ nat_eq (link_code (link j)) (link_code (link k))

-- the number of what the entity of a row that is picked refers to
pub record IsLinkCode (ts : List Table) (links : LinkList) (x : Pick) (c : ℕ) : Type 0 where
  pub within : x.table < length ts
  pub code : IfSome (root_of (picked ts x)) (λ e. c ≡ link_code (link_in links e.at))
