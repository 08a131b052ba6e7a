use Rattle.std.proofs.Common.{◌≡◌, ◌+◌, false, length, ap, ◌∙◌, below_more}
use Rattle.edm_data.specs.Links.{misses, reached}
use Rattle.edm_data.specs.Worlds.{entity_at}
use Rattle.std.proofs.lemmas.List.{length_push}
use Rattle.edm_data.proofs.RelationLemmas.{links-more}
use Rattle.edm_data.proofs.references.property_links.Goals as goal

pub loop-at-preserved : goal.loop-at-preserved
loop-at-preserved c =
    let w = c.args.keyed.now in
    let grown = c.in_ok-push-in-Ok.ensures.ok in
    record {
      len = ap length grown ∙ length_push c.loop-at.links c.in-Ok.to ∙ ap (λ n. n + 1) c.loop-at.invariant.len;
      links = links-more (λ k. reached w (entity_at c.args.s k) c.args.property c.args.target) c.args.target c.loop-at.at c.loop-at.links c.push.new.self c.in-Ok.to grown c.loop-at.invariant.len c.in-Ok.ensures.ok c.loop-at.invariant.links;
      sound = below_more (λ k. misses w c.args.s c.args.property c.args.target k ≡ false) c.loop-at.at c.loop-at.invariant.sound c.in-Ok.ensures.found;
    }
