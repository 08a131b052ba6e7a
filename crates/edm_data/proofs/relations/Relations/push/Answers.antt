use Rattle.std.proofs.Common.{◌≡◌, ◌∷◌, [], ◌++◌, length, ap, ◌∙◌, arith, Some}
use Rattle.edm_data.specs.Links.{NavRelations}
use Rattle.edm_data.proofs.SharedLemmas.{AreWithin-push, relations_of-push}
use Rattle.edm_data.proofs.relations.Relations.push.Goals as goal

pub invariant_of-self-2 : goal.invariant_of-self-2
invariant_of-self-2 c =
    let last : c.len-place.result ≡ length c.self.inside.kept.items = omega (arith, c.self.inside.kept.ok.0) in
    rw (c.in_ok-push.ensures.items, c.in_ok-push-2.ensures.items) (AreWithin-push c.self.inside.kept.items c.args.relation c.self.inside.navs.items c.len-place.result last c.self.invariant)

pub returns : goal.returns
returns c =
    let last : c.len-place.result ≡ length c.self.inside.kept.items = omega (arith, c.self.inside.kept.ok.0) in
    rw (c.in_ok-push.ensures.items, c.in_ok-push-2.ensures.items) (relations_of-push c.self.inside.kept.items c.args.relation c.self.inside.navs.items c.len-place.result last c.self.invariant ∙ ap (λ (os : NavRelations). os ++ Some c.args.relation ∷ []) c.self.view_is)
