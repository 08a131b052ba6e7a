use Rattle.std.proofs.Common.{◌+◌, ◌-◌, ◌∙◌, ◌++◌, ap, sym, subst, take, drop, append_assoc, arith}
use Rattle.std.specs.List.{list_all}
use Rattle.edm_values.proofs.SortedLists.{Ascends, sorted-ascends}
use Rattle.json_render.specs.ItemTexts.{all_items, first_items, group_items, is_item, prefix_paths}
use Rattle.json_render.specs.Places.{first_run, name_before, named_parts, next_parts}
use Rattle.json_render.proofs.Grouping.{ascends-drop, groups, groups-sorted}
use Rattle.json_render.proofs.ItemDepths.{star}
use Rattle.json_render.proofs.PlaceItems.{items_by_groups}
use Rattle.json_render.proofs.SortedEntries.{names_ranked}
use Rattle.json_render.proofs.WrittenItems.{next-group}
use Rattle.json_render.proofs.WrittenMembers.{front-part, group-behind, whole-rest}
use Rattle.json_render.proofs.context.items_of.Goals as goal

pub loop-at-init : goal.loop-at-init
loop-at-init c =
    let es = named_parts c.args.place.now in
    let ps = named_parts c.as_slice-parts.result.now in
    let sorted = ap named_parts c.as_slice-parts.ensures.value ∙ c.in_ok-entries.ensures in
    record {
      items = ap (λ xs. star (prefix_paths es) ++ (all_items xs ++ groups group_items ps)) c.new-items.ensures.items
          ∙ ap (λ xs. star (prefix_paths es) ++ groups group_items xs) sorted ∙ ap (λ xs. star (prefix_paths es) ++ xs) (sym (groups-sorted group_items (next_parts es))) ∙ sym (items_by_groups es);
      rises = subst (Ascends name_before) (sym sorted) (sorted-ascends name_before names_ranked (next_parts es));
      all = ap (list_all is_item) c.new-items.ensures.items;
      within = omega arith;
    }

pub loop-at-preserved : goal.loop-at-preserved
loop-at-preserved c =
    let es = named_parts c.args.place.now in
    let ps = c.as_slice-parts.result.now in
    let a = c.loop-at.at in
    let k = c.group_length.result in
    let run = c.group_length.ensures.value ∙ ap (λ xs. first_run (named_parts xs)) (whole-rest ps a (omega arith)) in
    let old = all_items c.loop-at.items.items in
    let behind = groups group_items (named_parts (drop (a + k) ps)) in
    record {
      items = ap (λ xs. star (prefix_paths es) ++ xs) (ap (λ xs. xs ++ behind) c.in_ok-push_group.ensures.items ∙ append_assoc old (first_items (named_parts (take (a + k - a) (drop a ps)))) behind
          ∙ ap (λ xs. old ++ (first_items (named_parts xs) ++ behind)) (front-part ps a k) ∙ ap (λ xs. old ++ xs) (sym (next-group ps a k (omega arith) c.loop-at.invariant.rises run))) ∙ c.loop-at.invariant.items;
      rises = subst (Ascends name_before) (sym (group-behind ps a k)) (ascends-drop k (named_parts (drop a ps)) c.loop-at.invariant.rises);
      all = c.in_ok-push_group.ensures.kept c.loop-at.invariant.all;
      within = omega arith;
    }
