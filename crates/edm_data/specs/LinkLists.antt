-- What each entity of a set refers to, as places of another set, and what refers to each.
use Rattle.std.specs.Prelude.{ℕ, List, [], length, filter, slice_get, nat_eq, Vec, Option, None, option_map, unwrap_or}
use Rattle.std.specs.declared.alloc.Global.{Global}
use Rattle.std.specs.Ordering.{nat_cmp}
use Rattle.std.specs.BTreeMap.{BTreeMap, get}
use Rattle.edm_values.specs.Lists.{places, is_some_and}

-- for each entity, the place of the one that it refers to
abbrev pub LinkList : Type 0
LinkList = List (Option ℕ)

-- what the entity at a place refers to
abbrev pub link_in : LinkList → ℕ → Option ℕ
link_in links k = unwrap_or (slice_get links k) None

-- the places, among the first n, of the entities that refer to the one at place t
abbrev pub linking_before : ℕ → LinkList → ℕ → List ℕ
linking_before t links n = filter (λ k. is_some_and (nat_eq t) (link_in links k)) (places n)

-- the places of the entities that refer to the one at place t
abbrev pub linking_to : ℕ → LinkList → List ℕ
linking_to t links = linking_before t links (length links)

-- the places that are kept for the entity at place t
abbrev pub group_in : BTreeMap ℕ (Vec ℕ Global) → ℕ → List ℕ
group_in groups t = unwrap_or (option_map (λ g. g.items) (get nat_cmp groups t)) []
