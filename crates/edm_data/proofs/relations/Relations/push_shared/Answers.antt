use Rattle.std.proofs.Common.{◌≡◌, ◌<◌, ◌∷◌, [], ◌++◌, length, sym, ap, ◌∙◌, arith}
use Rattle.std.proofs.lemmas.List.{length-map}
use Rattle.std.specs.List.{slice_get}
use Rattle.std.specs.Option.{option_and_then}
use Rattle.edm_data.specs.Links.{NavRelations, relation_in}
use Rattle.edm_data.proofs.SharedLemmas.{relations_of-shared}
use Rattle.edm_data.proofs.relations.Relations.push_shared.Goals as goal

pub returns : goal.returns
returns c =
    let size : length c.args.self.now ≡ length c.self.inside.navs.items = ap length (sym c.self.view_is) ∙ length-map c.self.inside.navs.items (option_and_then (slice_get c.self.inside.kept.items)) in
    let within : c.args.n < length c.self.inside.navs.items = omega (arith, c.requires) in
    rw c.in_ok-push.ensures.items (relations_of-shared c.self.inside.kept.items c.self.inside.navs.items c.args.n c.index-place.result.now within c.index-place.ensures ∙ ap (λ (os : NavRelations). os ++ relation_in os c.args.n ∷ []) c.self.view_is)
