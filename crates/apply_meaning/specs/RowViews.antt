-- Rows of the program as instances.
use Rattle.std.specs.Prelude.{Bool, IsTrue, List, [], ◌∷◌, Option, Some, None, map, is_some}
use Rattle.std.specs.List.{list_all}
use Rattle.edm_values.specs.declared.Value.{Value}
use Rattle.edm_values.specs.Lists.{is_nonempty, are_distinct}
use Rattle.edm_values.specs.Names.{Path}
use Rattle.edm_data.specs.Worlds.{World, Entity}
use Rattle.edm_data.specs.References.{entity_type}
use Rattle.context_typing.specs.Paths.{is_none_or, same_path}
use Rattle.apply_meaning.specs.Instances.{Instance}

-- the prefixes with the entity at the empty one before them, where there is one
abbrev pub with_root : Option Entity → List (Path × Option Entity) → List (Path × Option Entity)
with_root None ps = ps
with_root (Some e) ps = ([], Some e) ∷ ps

-- the instance of a row's parts
abbrev pub row_instance : Option Entity → List (Path × Option Entity) → List (Path × Value) → Instance
row_instance root ps cs = record { prefixes = with_root root ps; columns = cs }

-- no prefix is empty
abbrev pub have_paths : List (Path × Option Entity) → Bool
have_paths ps = list_all (λ x. is_nonempty x.0) ps

-- prefixes differ from one another
abbrev pub prefixes_differ : List (Path × Option Entity) → Bool
prefixes_differ ps = are_distinct same_path (map (λ x. x.0) ps)

-- and so do columns
abbrev pub columns_differ : List (Path × Value) → Bool
columns_differ cs = are_distinct same_path (map (λ c. c.0) cs)

-- what every row meets
pub record IsRow (ps : List (Path × Option Entity)) (cs : List (Path × Value)) : Type 0 where
  pub paths : IsTrue (have_paths ps)
  pub prefixes : IsTrue (prefixes_differ ps)
  pub columns : IsTrue (columns_differ cs)

-- the entities of an instance are of the world: the set of each has a type
abbrev pub is_of : World → Instance → Bool
is_of w i = list_all (λ x. is_none_or (λ e. is_some (entity_type w e)) x.1) i.prefixes
