use Rattle.std.proofs.Common.{◌≡◌, ℕ, ◌<◌, false, length}
use Rattle.std.specs.Option.{option_map}
use Rattle.edm_data.specs.LinkLists.{link_in}
use Rattle.edm_data.specs.Links.{misses, reached}
use Rattle.edm_data.specs.Worlds.{entity_at}
use Rattle.edm_data.proofs.references.property_links.Given as goal

abbrev pub invariant-loop-at : goal.invariant-loop-at
invariant-loop-at l = record {
  len : length l.links ≡ l.at;
  links : (k : ℕ) → k < l.at → option_map (entity_at l.target) (link_in l.links k) ≡ reached l.keyed (entity_at l.s k) l.property l.target;
  sound : (k : ℕ) → k < l.at → misses l.keyed l.s l.property l.target k ≡ false;
}
