use Rattle.std.proofs.Common.{◌≡◌, ℕ, List, true, None, Some, sym, ap, subst, ◌∙◌}
use Rattle.std.specs.Option.{option_map}
use Rattle.edm_model.specs.Models.{Model}
use Rattle.edm_model.specs.LookUps.{navigation_on, partner_of, set_of_type}
use Rattle.edm_data.specs.Worlds.{World}
use Rattle.edm_data.specs.Links.{HasReferences, IsGroup, kept_relation}
use Rattle.edm_data.proofs.GroupLemmas.{linking_in, IsGroup-relation}
use Rattle.edm_data.proofs.data.Data.places.Goals as goal

pub returns-in-Some : goal.returns-in-Some
returns-in-Some c =
    let w = c.args.self.now in
    let n = c.args.n in
    let e = c.args.e in
    let sets = c.self.inside.relations.items in
    let from = c.type_set-from.result in
    let p = c.nav_partner.result in
    let same : c.model-model.result.now ≡ w.model = c.model-model.ensures.value in
    let many : option_map (λ v. v.many) (navigation_on w.model n) ≡ Some true = sym (ap (λ (m : Model). option_map (λ v. v.many) (navigation_on m n)) same) ∙ c.nav_many.ensures.value ∙ ap Some c.if-not-nav_many.false in
    let target : option_map (λ v. v.target) (navigation_on w.model n) ≡ Some c.nav_target.result = sym (ap (λ (m : Model). option_map (λ v. v.target) (navigation_on m n)) same) ∙ c.nav_target.ensures.value in
    let partner : option_map partner_of (navigation_on w.model n) ≡ Some p = sym (ap (λ (m : Model). option_map partner_of (navigation_on m n)) same) ∙ c.nav_partner.ensures.value in
    let set : from ≡ set_of_type w.model c.nav_target.result = c.type_set-from.ensures.value ∙ ap (λ (m : Model). set_of_type m c.nav_target.result) same in
    let has : HasReferences w sets = subst (λ (x : World). HasReferences x sets) c.self.view_is c.self.invariant in
    let group = IsGroup-relation w e.set c.nav_target.result from e.at n p sets c.requires.set c.requires.of many target partner set has in
    let kept : Some c.in-Some.relation.now ≡ kept_relation sets from p.at = sym (ap (option_map (λ r. r.now)) c.in-Some.is) ∙ c.relation_of.ensures ∙ ap (kept_relation sets from) c.place.ensures.value in
    subst (λ (ks : List ℕ). IsGroup w e.set n.at e.at ks) (ap (λ o. linking_in o e) (sym kept) ∙ sym c.linking.ensures) group

pub returns-in-None : goal.returns-in-None
returns-in-None c =
    let w = c.args.self.now in
    let n = c.args.n in
    let e = c.args.e in
    let sets = c.self.inside.relations.items in
    let from = c.type_set-from.result in
    let p = c.nav_partner.result in
    let same : c.model-model.result.now ≡ w.model = c.model-model.ensures.value in
    let many : option_map (λ v. v.many) (navigation_on w.model n) ≡ Some true = sym (ap (λ (m : Model). option_map (λ v. v.many) (navigation_on m n)) same) ∙ c.nav_many.ensures.value ∙ ap Some c.if-not-nav_many.false in
    let target : option_map (λ v. v.target) (navigation_on w.model n) ≡ Some c.nav_target.result = sym (ap (λ (m : Model). option_map (λ v. v.target) (navigation_on m n)) same) ∙ c.nav_target.ensures.value in
    let partner : option_map partner_of (navigation_on w.model n) ≡ Some p = sym (ap (λ (m : Model). option_map partner_of (navigation_on m n)) same) ∙ c.nav_partner.ensures.value in
    let set : from ≡ set_of_type w.model c.nav_target.result = c.type_set-from.ensures.value ∙ ap (λ (m : Model). set_of_type m c.nav_target.result) same in
    let has : HasReferences w sets = subst (λ (x : World). HasReferences x sets) c.self.view_is c.self.invariant in
    let group = IsGroup-relation w e.set c.nav_target.result from e.at n p sets c.requires.set c.requires.of many target partner set has in
    let kept : None ≡ kept_relation sets from p.at = sym (ap (option_map (λ r. r.now)) c.in-None.is) ∙ c.relation_of.ensures ∙ ap (kept_relation sets from) c.place.ensures.value in
    subst (λ (ks : List ℕ). IsGroup w e.set n.at e.at ks) (ap (λ o. linking_in o e) (sym kept)) group
