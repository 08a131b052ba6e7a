use Rattle.std.proofs.Common.{ℕ, [], ap, ◌∙◌}
use Rattle.std.specs.List.{slice_get}
use Rattle.std.specs.Option.{option_map, unwrap_or}
use Rattle.edm_data.specs.Worlds.{Entity, World, entity_at}
use Rattle.edm_data.specs.References.{follow}
use Rattle.edm_data.specs.LinkLists.{link_in}
use Rattle.edm_data.specs.Links.{kept_relation}
use Rattle.edm_data.specs.Readers.{seen_links}
use Rattle.edm_data.proofs.ReaderLemmas.{links-seen}
use Rattle.edm_data.proofs.data.Data.linked_places.Goals as goal

pub returns : goal.returns
returns c =
    record {
      value = λ k.
          let w = c.self.inside.keyed in
          let sets = c.self.inside.relations.items in
          let s = c.args.s in
          ap (λ l. link_in l k) c.of.ensures
          ∙ ap (λ o. link_in (seen_links o) k) c.relation_of.ensures
          ∙ ap (λ (n : ℕ). link_in (seen_links (kept_relation sets s n)) k) c.place.ensures.value
          ∙ links-seen w s c.args.n.at k (unwrap_or (slice_get sets s) []) (c.self.invariant.each s)
          ∙ ap (λ (x : World). option_map (λ (e : Entity). e.at) (follow x (entity_at s k) c.args.n.at)) c.self.view_is;
    }
