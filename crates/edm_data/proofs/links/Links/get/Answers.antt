use Rattle.std.proofs.Common.{◌≡◌, ◌<◌, length, nat_eq, sym, ap, ◌∙◌, arith, Some, None}
use Rattle.std.specs.List.{position, slice_get}
use Rattle.std.specs.Option.{unwrap_or}
use Rattle.edm_data.specs.LinkLists.{LinkList}
use Rattle.edm_data.proofs.ColumnLemmas.{found_within, kept_found, kept_empty}
use Rattle.edm_data.proofs.links.Links.get.Goals as goal

pub returns-in-Some : goal.returns-in-Some
returns-in-Some c =
    let found : position (nat_eq c.args.place) c.self.inside.places ≡ Some c.in-Some.at = sym c.find.ensures ∙ c.in-Some.is in
    let first : c.in-Some.at < length c.self.inside.places = found_within (nat_eq c.args.place) c.self.inside.places c.in-Some.at found in
    let within : c.in-Some.at < length c.self.inside.targets.items = omega (arith, c.self.invariant.enough) in
    sym (sym (ap (λ (l : LinkList). unwrap_or (slice_get l c.args.place) None) c.self.view_is) ∙ kept_found c.self.inside.places c.self.inside.targets.items c.self.inside.count c.args.place c.in-Some.at c.index.result.now c.self.invariant.below found within c.index.ensures)

pub returns-in-None : goal.returns-in-None
returns-in-None c = sym (sym (ap (λ (l : LinkList). unwrap_or (slice_get l c.args.place) None) c.self.view_is) ∙ kept_empty c.self.inside.places c.self.inside.targets.items c.self.inside.count c.args.place c.self.invariant.below (sym c.find.ensures ∙ c.in-None.is))
