-- Navigation properties, one after the other, from the entities of a set (URL Conventions 4.01, section 5.1.1.15).
use Rattle.std.specs.Prelude.{◌≡◌, ℕ, List, [], ◌∷◌, ◌++◌, Option, Some, None, IfSome, option_and_then, unwrap_or}
use Rattle.edm_values.specs.declared.Value.{Value}
use Rattle.edm_values.specs.Names.{Name, Path}
use Rattle.edm_model.specs.Models.{Part}
use Rattle.edm_data.specs.Worlds.{World, Entity}
use Rattle.edm_data.specs.References.{follow, property}
use Rattle.apply_meaning.specs.Instances.{named_reference, value_behind}
use Rattle.row_frames.specs.declared.hops.Behind.{Behind}

-- the value of a property of an entity that may be there
abbrev pub property_in : World → Option Entity → ℕ → Value
property_in w None p = Value.Null
property_in w (Some e) p = property w e p

-- what an entity that may be there refers to by a navigation
abbrev pub one_hop : World → Part → Option Entity → Option Entity
one_hop w n o = option_and_then (λ e. follow w e n.at) o

-- the entity that navigations lead to, one after the other
abbrev pub reached : World → Option Entity → List Part → Option Entity
reached w o [] = o
reached w o (n ∷ ns) = reached w (one_hop w n o) ns

-- from each entity of the set the name leads where the navigation does, to one of the second set
pub record IsHop (w : World) (s : ℕ) (name : Name) (n : Part) (s' : ℕ) : Type 0 where
  pub same : (e : Entity) → e.set ≡ s → named_reference w name e ≡ follow w e n.at
  pub set : (e : Entity) → e.set ≡ s → IfSome (follow w e n.at) (λ y. y.set ≡ s')

-- from each entity of the set the names lead where what is left of them does behind the navigations, which lead to one of the second set
pub record Lead (w : World) (s : ℕ) (names : Path) (rest : Path) (ns : List Part) (s' : ℕ) : Type 0 where
  pub same : (e : Entity) → e.set ≡ s → (n : Name) → value_behind w (names ++ n ∷ []) e ≡ option_and_then (value_behind w (rest ++ n ∷ [])) (reached w (Some e) ns)
  pub set : (e : Entity) → e.set ≡ s → IfSome (reached w (Some e) ns) (λ y. y.set ≡ s')

-- from each entity of the set the names lead to the property of what the navigations lead to, which is of their target
pub record IsBehind (w : World) (s : ℕ) (names : Path) (b : Behind) : Type 0 where
  pub value : (e : Entity) → e.set ≡ s → unwrap_or (value_behind w names e) Value.Null ≡ property_in w (reached w (Some e) b.hops.items) b.property.at
  pub target : (e : Entity) → e.set ≡ s → IfSome (reached w (Some e) b.hops.items) (λ y. y.set ≡ b.target)
