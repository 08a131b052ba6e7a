-- Lists of instances that are read where they stand, and instances that are told by their places in a list.
use Rattle.std.specs.Prelude.{ℕ, List, length, nat_lt, Option, Some, None, IsTrue}
use Rattle.std.specs.List.{list_all}
use Rattle.edm_values.specs.Lists.{at_places}
use Rattle.apply_meaning.specs.Instances.{Instance}
use Rattle.row_values.specs.declared.lists.Source.{Source}
use Rattle.row_values.specs.declared.lists.Source.TheVariants as source

-- the instances of rows, or of a frame
abbrev pub listed : Source → List Instance
listed (source.Rows rows) = rows.now
listed (source.Frame frame) = frame.now

-- all of the list, or those at the places
abbrev pub placed_in : List Instance → Option (List ℕ) → List Instance
placed_in l None = l
placed_in l (Some ks) = at_places l ks

-- the places, where there are some, are places of the list
abbrev pub are_within : List Instance → Option (List ℕ) → Type 0
are_within l None = Unit {0}
are_within l (Some ks) = IsTrue (list_all (λ k. nat_lt k (length l)) ks)
