use Rattle.std.proofs.Common.{◌≡◌, ◌∙◌, sym, ap, true, Some}
use Rattle.std.specs.List.{list_any}
use Rattle.std.proofs.lemmas.List.{take_all}
use Rattle.std.proofs.lemmas.List.Folds.{list_any_at}
use Rattle.serde_json.specs.View.{view}
use Rattle.serde_json.specs.declared.value.Value.{Value}
use Rattle.edm_values.specs.Values.{seen_value}
use Rattle.data_diagnosis.specs.EntityFaults.{key_in, same_key}
use Rattle.data_diagnosis.proofs.SetKeys.{has_key-is}
use Rattle.data_diagnosis.proofs.references.has_item.Goals as goal

pub returns-then-are_same : goal.returns-then-are_same
returns-then-are_same c =
    let m = c.args.model.now in
    let v = Some (seen_value c.args.key) in
    let test = λ (y : Value). same_key v (key_in m c.args.s (view y)) in
    let passes : same_key v (key_in m c.args.s (view c.item-item.result)) ≡ true = ap (same_key v) (sym c.in_ok-key_of.ensures) ∙ sym c.are_same.ensures ∙ c.if-are_same.true in
    sym (has_key-is m (view c.args.root.now) c.args.s v c.set_items-items.result.now c.set_items-items.ensures.value ∙ list_any_at test c.set_items-items.result.now c.loop-item.item-index c.item-item.result c.loop-item-test.true (ap test (sym c.item-item.is) ∙ passes))

pub returns : goal.returns
returns c =
    let m = c.args.model.now in
    let v = Some (seen_value c.args.key) in
    let test = λ (y : Value). same_key v (key_in m c.args.s (view y)) in
    sym (has_key-is m (view c.args.root.now) c.args.s v c.set_items-items.result.now c.set_items-items.ensures.value ∙ ap (list_any test) (sym (take_all c.loop-item.item-index c.set_items-items.result.now c.loop-item-test.false)) ∙ c.loop-item.invariant)
