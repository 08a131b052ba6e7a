-- Lists of instances beside lists of their results (Data Aggregation 4.0, section 3.5).
use Rattle.std.specs.Prelude.{ℕ, ◌==◌, ◌&&◌, Bool, not, List, flat_map, zip}
use Rattle.std.specs.List.{list_any}
use Rattle.edm_values.specs.Lists.{is_some_and}
use Rattle.edm_values.specs.Names.{Name}
use Rattle.edm_data.specs.Worlds.{World}
use Rattle.edm_data.specs.References.{entity_type}
use Rattle.context_typing.specs.Paths.{begins, is_none_or}
use Rattle.apply_meaning.specs.Instances.{Instance, root_of}
use Rattle.apply_meaning.specs.Meaning.{bound_to}

-- each instance beside each of its results, or once beside none in an outer join without a result
abbrev pub bound_rows : Bool → Name → List Instance → List (List Instance) → List Instance
bound_rows outer a l results = flat_map (λ x. bound_to outer a x.0 x.1) (zip l results)

-- the alias begins no prefix and no column of an instance
abbrev pub is_free_of : Name → Instance → Bool
is_free_of a i = not (list_any (λ x. begins a x.0) i.prefixes) && not (list_any (λ c. begins a c.0) i.columns)

-- the entity at the empty prefix, where there is one, is of this type
abbrev pub has_root_of : World → ℕ → Instance → Bool
has_root_of w t i = is_none_or (λ e. is_some_and (λ t'. t' == t) (entity_type w e)) (root_of i)
