use Rattle.std.proofs.Common.{◌+◌, ◌-◌, ◌∙◌, ◌++◌, ap, sym, subst, take, drop, append_assoc, arith}
use Rattle.std.specs.List.{list_all}
use Rattle.edm_values.proofs.SortedLists.{Ascends, sorted-ascends}
use Rattle.json_render.specs.Places.{first_run, name_before, named_parts, sorted_parts}
use Rattle.json_render.specs.RowTexts.{all_members, first_members, group_members, is_member, parts_at}
use Rattle.json_render.proofs.Grouping.{ascends-drop, groups, groups-sorted}
use Rattle.json_render.proofs.PatternLemmas.{same-parts}
use Rattle.json_render.proofs.PlaceMembers.{place_by_groups}
use Rattle.json_render.proofs.SortedEntries.{names_ranked}
use Rattle.json_render.proofs.WrittenMembers.{front-part, group-behind, next-group, whole-rest}
use Rattle.json_render.proofs.members.members_of.Goals as goal

pub loop-at-init : goal.loop-at-init
loop-at-init c =
    let w = c.args.store.now in
    let es = named_parts c.args.place.now in
    let sorted = ap named_parts c.as_slice-parts.ensures.value ∙ c.in_ok-entries.ensures in
    record {
      members = λ i s.
          ap (λ ms. all_members w i ms ++ groups (group_members w i) (named_parts c.as_slice-parts.result.now)) c.new-members.ensures.items
          ∙ ap (groups (group_members w i)) (sorted ∙ ap sorted_parts (same-parts w c.args.row.now i s es)) ∙ sym (groups-sorted (group_members w i) (parts_at w i es)) ∙ sym (place_by_groups w i es);
      rises = subst (Ascends name_before) (sym sorted) (sorted-ascends name_before names_ranked (parts_at w c.args.row.now es));
      all = ap (list_all is_member) c.new-members.ensures.items;
      within = omega arith;
    }

pub loop-at-preserved : goal.loop-at-preserved
loop-at-preserved c =
    let w = c.args.store.now in
    let ps = c.as_slice-parts.result.now in
    let a = c.loop-at.at in
    let k = c.group_length.result in
    let run = c.group_length.ensures.value ∙ ap (λ xs. first_run (named_parts xs)) (whole-rest ps a (omega arith)) in
    record {
      members = λ i s.
          let behind = groups (group_members w i) (named_parts (drop (a + k) ps)) in
          ap (λ ms. ms ++ behind) (c.in_ok-push_group.ensures.members w i s) ∙ append_assoc (all_members w i c.loop-at.members.items) (first_members w i (named_parts (take (a + k - a) (drop a ps)))) behind
          ∙ ap (λ xs. all_members w i c.loop-at.members.items ++ (first_members w i (named_parts xs) ++ behind)) (front-part ps a k)
          ∙ ap (λ ms. all_members w i c.loop-at.members.items ++ ms) (sym (next-group w i ps a k (omega arith) c.loop-at.invariant.rises run)) ∙ c.loop-at.invariant.members i s;
      rises = subst (Ascends name_before) (sym (group-behind ps a k)) (ascends-drop k (named_parts (drop a ps)) c.loop-at.invariant.rises);
      all = c.in_ok-push_group.ensures.kept c.loop-at.invariant.all;
      within = omega arith;
    }
