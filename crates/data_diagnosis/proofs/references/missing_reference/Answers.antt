use Rattle.std.proofs.Common.{◌≡◌, arith, length, refl, subst, sym, ◌∙◌}
use Rattle.std.specs.Prelude.{All}
use Rattle.std.proofs.lemmas.List.Elements.{All-get_or}
use Rattle.edm_model.specs.Models.{Part}
use Rattle.edm_model.specs.LookUps.{navigations_of}
use Rattle.edm_model.proofs.IdLaws.{parts_there}
use Rattle.data_diagnosis.proofs.references.missing_reference.Goals as goal

pub returns-then-branch-clause-of : goal.returns-then-branch-clause-of
returns-then-branch-clause-of c =
    let P : Part → Type 0 = λ p. p.of ≡ c.set_type.result in
    let all = parts_there P c.set_type.result (length (navigations_of c.args.model.now c.set_type.result)) (λ k below. refl) in
    let item = All-get_or P c.navs-navs.result.now c.loop-n.n-index c.n-item.result (omega (arith, c.loop-n-test.true)) (subst (All P) (sym c.navs-navs.ensures.value) all) in
    subst P (sym c.n-item.is) item ∙ c.set_type.ensures.value
