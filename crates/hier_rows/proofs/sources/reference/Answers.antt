use Rattle.std.proofs.Common.{ap, length, subst, ◌∙◌}
use Rattle.edm_model.specs.LookUps.{navigations_of, set_type}
use Rattle.edm_model.specs.Models.{Model}
use Rattle.edm_data.proofs.ReferenceLemmas.{part_is, part_number}
use Rattle.hier_rows.specs.HierRows.{IsReferenceBy}
use Rattle.hier_rows.proofs.KeptLaws.{follows}
use Rattle.hier_rows.proofs.sources.reference.Goals as goal

pub loop-nav-init : goal.loop-nav-init
loop-nav-init c = tt

pub refers-requires : goal.refers-requires
refers-requires c =
    let type = c.set_type.result in
    let items = c.navs-nav-items.result.now in
    let number = length (navigations_of c.model-model.result.now type) in
    let is = part_is items type number c.loop-nav.nav-index c.nav-item.result c.navs-nav-items.ensures.value c.loop-nav-test.true c.nav-item.is in
    let size = part_number items type number c.navs-nav-items.ensures.value in
    rw is (c.set_type.ensures.there, rw size at c.loop-nav-test.true)

pub loop-nav-preserved : goal.loop-nav-preserved
loop-nav-preserved c = tt

pub returns-then-refers : goal.returns-then-refers
returns-then-refers c =
    let w = c.args.store.now in
    let type = c.set_type.result in
    let items = c.navs-nav-items.result.now in
    let number = length (navigations_of c.model-model.result.now type) in
    let n = c.nav-item.result in
    let is = part_is items type number c.loop-nav.nav-index n c.navs-nav-items.ensures.value c.loop-nav-test.true c.nav-item.is in
    follows w c.args.of c.args.by.at c.args.set n c.requires
    (ap (λ p. p.of) is ∙ c.set_type.ensures.value ∙ ap (λ (m : Model). set_type m c.args.of) c.model-model.ensures.value)
    (subst (λ (m : Model). IsReferenceBy m n c.args.by.at c.args.set) c.model-model.ensures.value (c.refers.ensures c.if-refers.true))
