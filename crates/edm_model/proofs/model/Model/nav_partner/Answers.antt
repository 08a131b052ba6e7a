use Rattle.std.proofs.Common.{◌≡◌, true, sym, subst, ◌∙◌, ap}
use Rattle.std.specs.Prelude.{option_map}
use Rattle.std.proofs.lemmas.Option.{same_Some}
use Rattle.edm_model.specs.LookUps.{partner_of}
use Rattle.edm_model.specs.Soundness.{IsReference}
use Rattle.edm_model.proofs.Places.{reference_is_navigation}
use Rattle.edm_model.proofs.model.Model.nav_partner.Goals as goal

pub returns-clause-back : goal.returns-clause-back
returns-clause-back c =
    let found = c.navigation-navigation in
    let many : found.result.now.many ≡ true = same_Some _ _ (sym (ap (option_map (λ v. v.many)) found.ensures.value) ∙ c.requires.many) in
    subst (λ v. IsReference c.args.self.now (partner_of v) c.args.n.of) (sym c.navigation.view_is) (found.ensures.sound.partners c.args.n found.result.now found.ensures.value many)

pub returns-clause-there : goal.returns-clause-there
returns-clause-there c = reference_is_navigation c.args.self.now (record { of = c.navigation.inside.target; at = c.navigation.inside.partner }) c.args.n.of (returns-clause-back c)
