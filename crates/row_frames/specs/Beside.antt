-- Rows beside entities of one set, under an alias (Data Aggregation 4.0, section 3.5).
use Rattle.std.specs.Prelude.{◌≡◌, ◌&&◌, ℕ, Bool, List, [], ◌∷◌, ◌++◌, Option, Some, None, flat_map, if◌then◌else◌, map, not, option_map, zip}
use Rattle.edm_values.specs.Lists.{is_nonempty}
use Rattle.edm_values.specs.Names.{Name, Path}
use Rattle.edm_data.specs.Worlds.{entity_at}
use Rattle.context_typing.specs.Paths.{at_path}
use Rattle.apply_meaning.specs.Instances.{Instance}
use Rattle.row_frames.specs.declared.tables.Prefix.{Prefix}
use Rattle.row_frames.specs.declared.tables.Table.{Table}
use Rattle.row_frames.specs.declared.tables.Pick.{Pick}
use Rattle.row_frames.specs.Frames.{IsTable, columns_at, prefix_at, prefixes_at, root_at}

-- what a row stands beside: each of the places, or once none, in an outer join without a place
abbrev pub beside_places : Bool → List ℕ → List (Option ℕ)
beside_places outer ks = if outer && not (is_nonempty ks) then None ∷ [] else map (λ k. Some k) ks

-- the same of all rows
abbrev pub all_beside : Bool → List (List ℕ) → List (Option ℕ)
all_beside outer lists = flat_map (beside_places outer) lists

-- each pick as often as its row stands beside something
abbrev pub repeated : Bool → List Pick → List (List ℕ) → List Pick
repeated outer xs lists = flat_map (λ x. map (λ o. x.0) (beside_places outer x.1)) (zip xs lists)

-- an instance with an entity of the set, or none, under the alias
abbrev pub with_alias : Name → ℕ → Instance → Option ℕ → Instance
with_alias a s i o = record i { prefixes = i.prefixes ++ (a ∷ [], option_map (entity_at s) o) ∷ [] }

-- the second table has the prefix behind those of the first, where the first has none of its path
pub record IsBeside (p : Prefix) (t u : Table) : Type 0 where
  pub roots : (k : ℕ) → root_at u.roots k ≡ root_at t.roots k
  pub columns : (k : ℕ) → columns_at u k ≡ columns_at t k
  pub prefixes : (k : ℕ) → at_path (λ x. x.0) (prefixes_at t k) p.path ≡ None → prefixes_at u k ≡ prefixes_at t k ++ prefix_at k p ∷ []
  pub table : IsTable t → IsTable u
