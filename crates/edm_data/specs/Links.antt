-- Kept references: for each property by whose value the entities of a set refer to others, what each refers to.
use Rattle.std.specs.Prelude.{ℕ, ◌≡◌, ◌<◌, ◌&&◌, Bool, true, false, not, if◌then◌else◌, List, [], filter, map, slice_get, length, min, Option, Some, None, option_map, option_and_then, unwrap_or, is_none}
use Rattle.edm_values.specs.Lists.{places, is_some_and}
use Rattle.edm_values.specs.Values.{is_null}
use Rattle.edm_data.specs.Worlds.{World, Entity, entity_at}
use Rattle.edm_model.specs.Models.{Model}
use Rattle.edm_model.specs.LookUps.{navigation_at, set_of_type}
use Rattle.edm_data.specs.References.{same_entity, property, by_key, count, related}
use Rattle.edm_data.specs.DataFile.{World', dangles, is_dangling, references_reading}
use Rattle.edm_data.specs.LinkLists.{LinkList, link_in}

-- ---- references by the value of a property

-- what an entity refers to by the value of a property, as a key of a set
abbrev pub reached : World → Entity → ℕ → ℕ → Option Entity
reached w e p t = if is_null (property w e p) then None else by_key w t (property w e p)

-- the entity refers by the value of a property to a key of a set that is not there
abbrev pub misses : World → ℕ → ℕ → ℕ → ℕ → Bool
misses w s p t k = not (is_null (property w (entity_at s k) p)) && is_none (reached w (entity_at s k) p t)

-- a property by whose value the entities of a set refer to those of another, the other set, and what each refers to
pub record KeptRelation : Type 0 where
  pub property : ℕ
  pub target : ℕ
  pub links : LinkList

-- the relation has the links of a set's entities by its property, and each is found
pub record IsRelation (w : World) (s : ℕ) (r : KeptRelation) : Type 0 where
  pub links : (k : ℕ) → option_map (entity_at r.target) (link_in r.links k) ≡ reached w (entity_at s k) r.property r.target
  pub counted : length r.links ≡ count w s
  pub sound : (k : ℕ) → k < count w s → misses w s r.property r.target k ≡ false

-- ---- the first of the entities of a set

-- this is the first place, among the first n, at which a test passes
pub record IsFirstOf (p : ℕ → Bool) (n k : ℕ) : Type 0 where
  pub within : k < n
  pub here : p k ≡ true
  pub before : (q : ℕ) → q < k → p q ≡ false

-- this is the first place, among the first n, at which a test passes, or none where it passes at none
pub record IsLeast (p : ℕ → Bool) (n : ℕ) (o : Option ℕ) : Type 0 where
  pub none : o ≡ None → (k : ℕ) → k < n → p k ≡ false
  pub some : (k : ℕ) → o ≡ Some k → IsFirstOf p n k

-- the lesser of two places
abbrev pub earlier : Option ℕ → Option ℕ → Option ℕ
earlier (Some a) (Some b) = Some (min a b)
earlier (Some a) None = Some a
earlier None b = b

-- this is the first entity of the set that refers to a key that is not there
abbrev pub IsFirstDangling : World → ℕ → ℕ → Type 0
IsFirstDangling w s k = IsFirstOf (λ q. is_dangling w (entity_at s q)) (count w s) k

-- by the navigation at place n the entity at a place refers to a key that is not there
abbrev pub nav_dangles : World → ℕ → ℕ → ℕ → Bool
nav_dangles w s n k = is_some_and (dangles w (entity_at s k)) (navigation_at w.model s n)

-- ---- the navigations of a set's type

-- the relation of each navigation, where it is single-valued
abbrev pub NavRelations : Type 0
NavRelations = List (Option KeptRelation)

-- the relation of the navigation at place n
abbrev pub relation_in : NavRelations → ℕ → Option KeptRelation
relation_in os n = unwrap_or (slice_get os n) None

-- each relation is one of the set
abbrev pub AreRelations : World → ℕ → NavRelations → Type 0
AreRelations w s os = (n : ℕ) (r : KeptRelation) → relation_in os n ≡ Some r → IsRelation w s r

-- the property by whose value a single-valued navigation refers, and the set to which it does
abbrev pub pair_of : Model → ℕ → ℕ → Option (ℕ × ℕ)
pair_of m s n = option_and_then (λ v. if v.many then None else Some (v.dependent, set_of_type m v.target)) (navigation_at m s n)

-- the property and the other set of a relation
abbrev pub pair_in : Option KeptRelation → Option (ℕ × ℕ)
pair_in o = option_map (λ r. (r.property, r.target)) o

-- the relation is by the property and to the set of the navigation at place n
abbrev pub IsOfNav : Model → ℕ → ℕ → Option KeptRelation → Type 0
IsOfNav m s n o = pair_in o ≡ pair_of m s n

-- the relations of a set are those of the world
pub record HasRelations (w : World) (s : ℕ) (os : NavRelations) : Type 0 where
  pub kept : AreRelations w s os
  pub of : (n : ℕ) → IsOfNav w.model s n (relation_in os n)

-- ---- all sets

-- the relation of a set's navigation at place n
abbrev pub kept_relation : List NavRelations → ℕ → ℕ → Option KeptRelation
kept_relation sets s n = relation_in (unwrap_or (slice_get sets s) []) n

-- what the entity at place k refers to by a relation
abbrev pub followed : Option KeptRelation → ℕ → Option Entity
followed o k = option_and_then (λ r. option_map (entity_at r.target) (link_in r.links k)) o

-- what is kept beside the keys: the relations of each set; and every reference is found
pub record HasReferences (w : World) (sets : List NavRelations) : Type 0 where
  pub each : (s : ℕ) → HasRelations w s (unwrap_or (slice_get sets s) [])
  pub sound : references_reading w ≡ World' w

-- ---- the entities that refer to one

-- the reference is one to this entity
abbrev pub is_link_to : Entity → Option Entity → Bool
is_link_to e link = unwrap_or (option_map (same_entity e) link) false

-- the places, among the first m, at which there is a reference to this entity
abbrev pub linking : (ℕ → Option Entity) → Entity → ℕ → List ℕ
linking link e m = filter (λ k. is_link_to e (link k)) (places m)

-- the set in which the navigation at this place of a set's type finds entities
abbrev pub found_set : Model → ℕ → ℕ → ℕ
found_set m s n = unwrap_or (option_map (λ v. set_of_type m v.target) (navigation_at m s n)) 0

-- these are the places of the entities that the navigation at place n relates the entity at place k to
abbrev pub IsGroup : World → ℕ → ℕ → ℕ → List ℕ → Type 0
IsGroup w s n k ks = map (entity_at (found_set w.model s n)) ks ≡ related w (entity_at s k) n
