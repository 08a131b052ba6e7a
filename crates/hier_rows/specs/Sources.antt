-- Nodes that the data keeps: of an entity itself, or of what it refers to.
use Rattle.std.specs.Prelude.{ℕ, nat_lt, if◌then◌else◌, Option, Some, None}
use Rattle.edm_values.specs.declared.Value.{Value}
use Rattle.edm_values.specs.Values.{is_null}
use Rattle.edm_data.specs.LinkLists.{link_in}
use Rattle.edm_data.specs.References.{by_key}
use Rattle.edm_data.specs.Worlds.{World, Entity}
use Rattle.hier_rows.specs.declared.sources.Source.{Source}
use Rattle.hier_rows.specs.declared.sources.Source.TheVariants as source

-- the entity of a set that a value refers to: none where it is null
abbrev pub referred_by : World → ℕ → Value → Option Entity
referred_by w s v = if is_null v then None else by_key w s v

-- the node of the entity at a place, where each of this many is its own
abbrev pub own_at : ℕ → ℕ → Option ℕ
own_at count k = if nat_lt k count then Some k else None

-- the node of the entity at a place
abbrev pub node_at : Source → ℕ → Option ℕ
node_at (source.Own count) k = own_at count k
node_at (source.Linked links) k = link_in links k
