-- Values of a property, and links of a navigation property, that are read of many entities.
use Rattle.std.specs.Prelude.{[], Option, option_map, unwrap_or}
use Rattle.edm_data.specs.Columns.{ValueList}
use Rattle.edm_data.specs.LinkLists.{LinkList}
use Rattle.edm_data.specs.Links.{KeptRelation}

-- the values of a column that may be there
abbrev pub seen_column : Option ValueList → ValueList
seen_column o = unwrap_or o []

-- the links of a relation that may be there
abbrev pub seen_links : Option KeptRelation → LinkList
seen_links o = unwrap_or (option_map (λ r. r.links) o) []
