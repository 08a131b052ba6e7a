use Rattle.std.proofs.Common.{◌≡◌, ◌∙◌, Some, ap, length, sym, arith}
use Rattle.std.specs.Prelude.{option_map}
use Rattle.edm_values.proofs.OptionFacts.{mapped, some_value}
use Rattle.edm_model.specs.LookUps.{navigation_on, set_of_type}
use Rattle.edm_model.specs.Models.{Model, Navigation}
use Rattle.row_frames.specs.Related.{related_to}
use Rattle.row_frames.proofs.FrameLemmas.{one-table}
use Rattle.row_frames.proofs.RelatedLemmas.{related-picked, related-within}
use Rattle.row_frames.proofs.frames.Frame.of_related.Goals as goal

pub invariant_of-result : goal.invariant_of-result
invariant_of-result c =
    let w = c.args.store.now in
    let m = ap length c.in_ok-tables.ensures in
    let named = ap (λ (m : Model). option_map (λ (v : Navigation). v.target) (navigation_on m c.args.nav)) (sym c.model-model.ensures.value) ∙ c.nav_target.ensures.value in
    let v = mapped (λ (v : Navigation). v.target) (navigation_on w.model c.args.nav) c.nav_target.result named in (
      one-table c.set_table.result c.in_ok-tables.tables.items c.in_ok-tables.ensures c.set_table.ensures.table,
      related-within (length c.in_ok-tables.tables.items) (related_to w v.0 c.args.of) c.of_list-picks.result (omega (arith, m)) (c.of_list-picks.ensures ∙ c.in_ok-list.ensures v.0 v.1),
    )

pub returns : goal.returns
returns c = record {
  value = λ v h.
      let w = c.args.store.now in
      let named = ap (λ (m : Model). option_map (λ (v : Navigation). v.target) (navigation_on m c.args.nav)) (sym c.model-model.ensures.value) ∙ c.nav_target.ensures.value in
      let target : v.target ≡ c.nav_target.result = some_value (sym (ap (option_map (λ (v : Navigation). v.target)) h) ∙ named) in
      let set = c.type_set-set.ensures.value ∙ (λ i. set_of_type (c.model-model.ensures.value i) (sym target i)) in
      related-picked w v c.args.of c.type_set-set.result c.set_table.result c.in_ok-tables.tables.items c.of_list-picks.result set c.in_ok-tables.ensures (c.of_list-picks.ensures ∙ c.in_ok-list.ensures v h) c.set_table.ensures.rows;
}
