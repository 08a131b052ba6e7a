use Rattle.std.proofs.Common.{◌++◌, sym, ◌∙◌, ap, take}
use Rattle.std.specs.Prelude.{filter_map}
use Rattle.std.specs.Option.{option_to_list}
use Rattle.serde_json.specs.Find.{as_str}
use Rattle.serde_json.specs.View.{view}
use Rattle.serde_json.specs.declared.value.Value.{Value}
use Rattle.edm_schema.proofs.Items.{filter_map_more}
use Rattle.edm_model.proofs.build.strings_of.Goals as goal

pub loop-item-preserved : goal.loop-item-preserved
loop-item-preserved c =
    let text = λ (v : Value). as_str (view v) in
    let item = c.item-item.result in
    let done = filter_map text (take c.loop-item.item-index c.args.items.now) in
    c.in_ok-push_string.ensures ∙ (ap (λ ts. ts ++ option_to_list (text item)) c.loop-item.invariant ∙ (ap (λ v. done ++ option_to_list (text v)) c.item-item.is ∙ sym (filter_map_more text c.args.items.now c.loop-item.item-index item c.loop-item-test.true)))
