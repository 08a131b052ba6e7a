-- Names in byte order.
use Rattle.std.specs.Prelude.{ℕ, ◌<◌, length, List, map}
use Rattle.std.specs.List.Sorted.{IsStrictlySortedBy}
use Rattle.std.specs.Cmp.Lexicographic.{slice_cmp}
use Rattle.std.specs.Ordering.{nat_cmp}
use Rattle.serde_json.specs.Data.{Data}
use Rattle.edm_values.specs.Names.{Name}
use Rattle.edm_schema.specs.JsonTrees.{members_in}
use Rattle.edm_schema.specs.ModelTrees.{schema, container, type_tree, type_members}

-- names in byte order, each once
abbrev pub AreOrdered : List Name → Type 0
AreOrdered = IsStrictlySortedBy (slice_cmp nat_cmp)

-- a tree whose schema, container and entity types have their members in byte order of names
pub record InOrder (d : Data) : Type 0 where
  pub of_schema : AreOrdered (map (λ m. m.0) (members_in (schema d)))
  pub of_container : AreOrdered (map (λ m. m.0) (members_in (container d)))
  pub of_types : (t : ℕ) → t < length (type_members d) → AreOrdered (map (λ m. m.0) (members_in (type_tree d t)))
