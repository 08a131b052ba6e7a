-- Relations that several navigations share.
use Rattle.std.specs.Prelude.{ℕ, ◌<◌, List, length, map, slice_get, Option, option_and_then, IfSome}
use Rattle.std.specs.List.{AllByRecursion}
use Rattle.edm_data.specs.Links.{KeptRelation, NavRelations}

-- the relation of each navigation, by its place among the relations
abbrev pub relations_of : List KeptRelation → List (Option ℕ) → NavRelations
relations_of kept navs = map (option_and_then (slice_get kept)) navs

-- each place is one of the relations
abbrev pub AreWithin : List KeptRelation → List (Option ℕ) → Type 0
AreWithin kept navs = AllByRecursion (λ o. IfSome o (λ k. k < length kept)) navs
