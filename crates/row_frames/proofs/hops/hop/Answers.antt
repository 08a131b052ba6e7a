use Rattle.std.proofs.Common.{◌∙◌, ap, sym}
use Rattle.std.specs.Prelude.{option_map}
use Rattle.edm_model.specs.Models.{Navigation}
use Rattle.edm_model.specs.LookUps.{found_part, navigation_named, navigation_on, set_of_type, set_type}
use Rattle.row_frames.proofs.HopLemmas.{is-hop}
use Rattle.row_frames.proofs.hops.hop.Goals as goal

pub returns-clause-hop : goal.returns-clause-hop
returns-clause-hop c =
    let same = c.model-model.ensures.value in
    let of = c.set_type.ensures.value ∙ ap (λ m. set_type m c.args.set) same in
    let found = sym c.in_ok-navigation.was ∙ c.nav_named.ensures.value ∙ (λ i. found_part (of i) (navigation_named (same i) (of i) (c.text.ensures.value i))) in
    let target = ap (λ m. option_map (λ (v : Navigation). v.target) (navigation_on m c.in_ok-navigation.navigation)) (sym same) ∙ c.nav_target.ensures.value in
    is-hop c.args.store.now c.args.set c.nav_target.result c.type_set-target.result c.args.name.now c.in_ok-navigation.navigation c.requires found target
    (c.type_set-target.ensures.value ∙ ap (λ m. set_of_type m c.nav_target.result) same)
