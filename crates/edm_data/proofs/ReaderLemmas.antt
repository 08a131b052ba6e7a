-- What is read of many entities.
use Rattle.std.proofs.Common.{◌≡◌, ◌∙◌, ℕ, Some, None, ap, refl}
use Rattle.std.specs.Prelude.{Option, option_map}
use Rattle.edm_data.specs.Worlds.{World, Entity, entity_at}
use Rattle.edm_data.specs.References.{follow}
use Rattle.edm_data.specs.LinkLists.{link_in}
use Rattle.edm_data.specs.Links.{KeptRelation, NavRelations, HasRelations, followed, relation_in}
use Rattle.edm_data.specs.Readers.{seen_links}
use Rattle.edm_data.proofs.RelationLemmas.{follow_is}

linked : (t : ℕ) (o : Option ℕ) → o ≡ option_map (λ (e : Entity). e.at) (option_map (entity_at t) o)
linked t None = refl
linked t (Some k) = refl

seen-link : (o : Option KeptRelation) (k : ℕ) → link_in (seen_links o) k ≡ option_map (λ (e : Entity). e.at) (followed o k)
seen-link None k = refl
seen-link (Some r) k = linked r.target (link_in r.links k)

-- the places of what a set's entities refer to
pub links-seen : (w : World) (s n k : ℕ) (os : NavRelations) → HasRelations w s os → link_in (seen_links (relation_in os n)) k ≡ option_map (λ (e : Entity). e.at) (follow w (entity_at s k) n)
links-seen w s n k os has = seen-link (relation_in os n) k ∙ ap (option_map (λ (e : Entity). e.at)) (follow_is w s n k os has)
