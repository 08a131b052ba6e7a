use Rattle.std.proofs.Common.{◌∙◌, ◌++◌, [], ap, sym, get_or, append_assoc}
use Rattle.std.specs.Prelude.{option_map, unwrap_or}
use Rattle.std.specs.List.{list_all}
use Rattle.json_render.specs.Bodies.{value_members}
use Rattle.json_render.specs.Places.{goes_inside, named_parts}
use Rattle.json_render.specs.RowTexts.{all_members, group_members, group_value, inside_members, leaf_shown}
use Rattle.json_render.proofs.SegmentLemmas.{filter-passes, first-group}
use Rattle.json_render.proofs.members.push_group.Goals as goal

pub push_segment-requires : goal.push_segment-requires
push_segment-requires c = ap (list_all goes_inside) c.in_ok-inside.ensures ∙ filter-passes (named_parts c.args.group.now)

pub returns-clause-members : goal.returns-clause-members
returns-clause-members c = λ w i s.
    let n = (get_or c.args.group.now 0 c.index-group-0.result).name.now in
    let g = named_parts c.args.group.now in
    let old = all_members w i c.args.members.now.items in
    c.in_ok-push_segment.ensures.members w i s ∙ ap (λ ms. ms ++ inside_members w i n (named_parts c.in_ok-inside.inside.items)) (c.in_ok-push_leaf.ensures.members w i)
    ∙ append_assoc old (unwrap_or (option_map (value_members n) (option_map (leaf_shown w i) c.first_leaf.result)) []) (inside_members w i n (named_parts c.in_ok-inside.inside.items))
    ∙ ap (λ o. old ++ (unwrap_or (option_map (value_members n) o) [] ++ inside_members w i n (named_parts c.in_ok-inside.inside.items))) (c.first_leaf.ensures w i)
    ∙ ap (λ es. old ++ (unwrap_or (option_map (value_members n) (group_value w i g)) [] ++ inside_members w i n es)) c.in_ok-inside.ensures
    ∙ ap (λ ms. old ++ ms) (ap (λ e. group_members w i e.name.now g) (sym c.index-group-0.is) ∙ sym (first-group w i c.args.group.now c.index-group-0.result c.requires c.index-group-0.is))
