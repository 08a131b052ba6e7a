-- The places of numbers by rank, each beside its mantissa.
use Rattle.std.specs.Prelude.{◌≡◌, ℕ, Bool, true, false, List, map, length, if◌then◌else◌, ◌||◌}
use Rattle.std.specs.declared.cmp.Ordering.{Ordering}
use Rattle.std.specs.declared.result.Result as result
use Rattle.std.specs.Global.{Vec}
use Rattle.std.specs.List.{list_any}
use Rattle.std.specs.Ordering.{bool_cmp, int_cmp}
use Rattle.edm_values.specs.declared.Value.{Value}
use Rattle.edm_values.specs.declared.refusals.Refused.{Refused}
use Rattle.edm_values.specs.Lists.{places}
use Rattle.edm_values.specs.Values.{is_beyond, is_null, number_part, value_in}
use Rattle.edm_values.specs.Refusals.{Returns}
use Rattle.top_family.specs.declared.numbers.Ranked.{Ranked}

-- a place with what tells the rank of its number
abbrev pub ranked_of : Value → ℕ → Ranked
ranked_of v k = record { is_null = is_null v; mantissa = (number_part v).0; place = k }

-- the same of a place of a list
abbrev pub ranked_at : List Value → ℕ → Ranked
ranked_at vs k = ranked_of (value_in vs k) k

-- the order of two places by rank: null last, and else the greater first, or for `bottom` the lesser
abbrev pub ranked_cmp : Bool → Ranked → Ranked → Ordering
ranked_cmp bottom a b = if a.is_null || b.is_null then bool_cmp a.is_null b.is_null else if bottom then int_cmp a.mantissa b.mantissa else int_cmp b.mantissa a.mantissa

-- what all places returned: each with what tells its rank where no value is Beyond, and a refusal where one is; `Memory` says nothing
abbrev pub GivesRanked : List Value → result.Result (Vec Ranked) Refused → Type 0
GivesRanked vs r = Returns (λ (v : Vec Ranked). (v.items ≡ map (ranked_at vs) (places (length vs))) × (list_any is_beyond vs ≡ false)) (list_any is_beyond vs ≡ true) r
