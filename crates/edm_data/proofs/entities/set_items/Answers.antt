use Rattle.std.proofs.Common.{◌≡◌, Some, None, [], sym, ap, ◌∙◌, map}
use Rattle.std.specs.Option.{option_map}
use Rattle.serde_json.specs.Find.{get, as_array}
use Rattle.serde_json.specs.View.{view, items_view}
use Rattle.edm_model.specs.LookUps.{set_name}
use Rattle.edm_data.proofs.ShapeLemmas.{items_are, no_items}
use Rattle.edm_data.proofs.TreeLemmas.{array_of_set}
use Rattle.edm_data.proofs.entities.set_items.Goals as goal

pub returns-in-Some-as_array : goal.returns-in-Some-as_array
returns-in-Some-as_array c =
    record {
      value = let found : get (set_name c.args.model.now c.args.s) (view c.args.root.now) ≡ Some (view c.in-Some.value.now) = ap (λ n. get n (view c.args.root.now)) (sym c.set_name.ensures.value) ∙ sym c.get.ensures ∙ ap (option_map (λ v. view v.now)) c.in-Some.is in
          let items : as_array (view c.in-Some.value.now) ≡ Some (items_view c.in-Some-as_array.items.now.items) = sym c.as_array.ensures ∙ ap (option_map (λ v. items_view v.now.items)) c.in-Some-as_array.is in
          array_of_set c.args.model.now c.args.s (view c.args.root.now) (view c.in-Some.value.now) (map view c.as_slice.result.now) c.requires found (items_are (view c.in-Some.value.now) (map view c.in-Some-as_array.items.now.items) items ∙ ap (map view) (sym c.as_slice.ensures.value));
    }

pub returns-in-None : goal.returns-in-None
returns-in-None c =
    record {
      value = let found : get (set_name c.args.model.now c.args.s) (view c.args.root.now) ≡ Some (view c.in-Some.value.now) = ap (λ n. get n (view c.args.root.now)) (sym c.set_name.ensures.value) ∙ sym c.get.ensures ∙ ap (option_map (λ v. view v.now)) c.in-Some.is in
          let items : as_array (view c.in-Some.value.now) ≡ None = sym c.as_array.ensures ∙ ap (option_map (λ v. items_view v.now.items)) c.in-None.is in
          array_of_set c.args.model.now c.args.s (view c.args.root.now) (view c.in-Some.value.now) [] c.requires found (no_items (view c.in-Some.value.now) items);
    }
