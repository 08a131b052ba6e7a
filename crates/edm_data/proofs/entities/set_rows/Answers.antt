use Rattle.std.proofs.Common.{◌≡◌, length, map, sym, ap, subst, ◌∙◌, Some, None}
use Rattle.std.specs.Option.{option_map}
use Rattle.std.proofs.lemmas.List.{length-map}
use Rattle.edm_values.specs.Values.{seen_value}
use Rattle.serde_json.specs.View.{view}
use Rattle.edm_model.specs.LookUps.{properties_of}
use Rattle.edm_data.specs.DataFile.{entity_of}
use Rattle.edm_data.specs.FirstItems.{IsFirstNone}
use Rattle.edm_data.proofs.ShapeLemmas.{IsFirstNone-at}
use Rattle.edm_data.proofs.TableLemmas.{length-are_values_of}
use Rattle.edm_data.proofs.TreeLemmas.{entity_fits}
use Rattle.edm_data.proofs.entities.set_rows.Goals as goal

pub returns-in_default-clause-shape : goal.returns-in_default-clause-shape
returns-in_default-clause-shape c = λ k is.
    let same : c.loop-k.k ≡ k = cc in
    let none : entity_of (properties_of c.args.model.now c.args.t) (view c.index-items-k.result) ≡ None = sym c.in_ok-values.ensures ∙ ap (option_map (λ values. map seen_value values.items)) c.in_default.is in
    subst (IsFirstNone (map (λ x. entity_of (properties_of c.args.model.now c.args.t) (view x)) c.args.items.now)) same
    (IsFirstNone-at (λ r. r) (λ x. entity_of (properties_of c.args.model.now c.args.t) (view x)) c.args.items.now c.loop-k.rows.rows c.loop-k.k c.index-items-k.result c.loop-k-test.true c.index-items-k.is c.loop-k.invariant.read none)

pub push-requires-clause-width : goal.push-requires-clause-width
push-requires-clause-width c =
    let ps = properties_of c.args.model.now c.args.t in
    let d = view c.index-items-k.result in
    let row : entity_of ps d ≡ Some (map seen_value c.in-Some.values.items) = sym c.in_ok-values.ensures ∙ ap (option_map (λ values. map seen_value values.items)) c.in-Some.is in
    ap length c.as_slice.ensures.value ∙ sym (length-map c.in-Some.values.items seen_value) ∙ length-are_values_of ps (map seen_value c.in-Some.values.items) (entity_fits ps d (map seen_value c.in-Some.values.items) row) ∙ sym c.loop-k.invariant.width
