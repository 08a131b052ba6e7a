use Rattle.std.proofs.Common.{◌≡◌, ℕ, [], None, Some, sym, ap, ◌∙◌}
use Rattle.std.specs.List.{slice_get}
use Rattle.std.specs.Option.{option_map, unwrap_or}
use Rattle.edm_data.specs.Worlds.{World, Entity}
use Rattle.edm_data.specs.References.{follow}
use Rattle.edm_data.specs.Links.{followed, kept_relation}
use Rattle.edm_data.proofs.RelationLemmas.{follow_is}
use Rattle.edm_data.proofs.data.Data.follow.Goals as goal

pub returns-in-Some : goal.returns-in-Some
returns-in-Some c =
    record {
      value = let w = c.self.inside.keyed in
          let sets = c.self.inside.relations.items in
          let s = c.e.inside.set in
          let k = c.e.inside.at in
          let kept : Some c.in-Some.relation.now ≡ kept_relation sets s c.place.result = sym (ap (option_map (λ r. r.now)) c.in-Some.is) ∙ c.relation_of.ensures in
          c.follow.ensures ∙ ap (λ o. followed o k) kept ∙ ap (λ (n : ℕ). followed (kept_relation sets s n) k) c.place.ensures.value ∙ follow_is w s c.args.n.at k (unwrap_or (slice_get sets s) []) (c.self.invariant.each s) ∙ ap (λ (e : Entity). follow w e c.args.n.at) c.e.view_is ∙ ap (λ (x : World). follow x c.args.e c.args.n.at) c.self.view_is;
    }

pub returns-in-None : goal.returns-in-None
returns-in-None c =
    record {
      value = let w = c.self.inside.keyed in
          let sets = c.self.inside.relations.items in
          let s = c.e.inside.set in
          let k = c.e.inside.at in
          let kept : None ≡ kept_relation sets s c.place.result = sym (ap (option_map (λ r. r.now)) c.in-None.is) ∙ c.relation_of.ensures in
          ap (λ o. followed o k) kept ∙ ap (λ (n : ℕ). followed (kept_relation sets s n) k) c.place.ensures.value ∙ follow_is w s c.args.n.at k (unwrap_or (slice_get sets s) []) (c.self.invariant.each s) ∙ ap (λ (e : Entity). follow w e c.args.n.at) c.e.view_is ∙ ap (λ (x : World). follow x c.args.e c.args.n.at) c.self.view_is;
    }
