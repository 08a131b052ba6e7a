use Rattle.std.proofs.Common.{ap, length, subst, ◌∙◌}
use Rattle.edm_model.specs.LookUps.{navigations_of, set_type}
use Rattle.edm_model.specs.Models.{Model}
use Rattle.edm_data.proofs.ReferenceLemmas.{part_is, part_number}
use Rattle.row_frames.specs.LinkCodes.{IsBy}
use Rattle.row_frames.proofs.LinkCodeLemmas.{told-by}
use Rattle.row_frames.proofs.references.reference.Goals as goal

pub loop-nav-init : goal.loop-nav-init
loop-nav-init c = tt

pub refers-requires : goal.refers-requires
refers-requires c =
    let type = c.set_type.result in
    let items = c.navs-nav-items.result.now in
    let number = length (navigations_of c.model-model.result.now type) in
    let is = part_is items type number c.loop-nav.nav-index c.nav-item.result c.navs-nav-items.ensures.value c.loop-nav-test.true c.nav-item.is in
    let size = part_number items type number c.navs-nav-items.ensures.value in
    rw is (c.set_type.ensures.there, rw size at c.loop-nav-test.true)

pub nav_target-requires : goal.nav_target-requires
nav_target-requires c =
    let type = c.set_type.result in
    let items = c.navs-nav-items.result.now in
    let number = length (navigations_of c.model-model.result.now type) in
    let is = part_is items type number c.loop-nav.nav-index c.nav-item.result c.navs-nav-items.ensures.value c.loop-nav-test.true c.nav-item.is in
    let size = part_number items type number c.navs-nav-items.ensures.value in
    rw is (c.set_type.ensures.there, rw size at c.loop-nav-test.true)

pub loop-nav-preserved : goal.loop-nav-preserved
loop-nav-preserved c = tt

pub returns-then-refers : goal.returns-then-refers
returns-then-refers c =
    let w = c.args.store.now in
    let type = c.set_type.result in
    let items = c.navs-nav-items.result.now in
    let number = length (navigations_of c.model-model.result.now type) in
    let n = c.nav-item.result in
    let is = part_is items type number c.loop-nav.nav-index n c.navs-nav-items.ensures.value c.loop-nav-test.true c.nav-item.is in
    told-by w c.args.set c.args.by.at n c.model-model.ensures.sound c.requires
    (ap (λ p. p.of) is ∙ c.set_type.ensures.value ∙ ap (λ (m : Model). set_type m c.args.set) c.model-model.ensures.value)
    (subst (λ (m : Model). IsBy m n c.args.by.at) c.model-model.ensures.value (c.refers.ensures c.if-refers.true))
