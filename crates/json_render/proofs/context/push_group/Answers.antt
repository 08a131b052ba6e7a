use Rattle.std.proofs.Common.{◌∙◌, ap}
use Rattle.std.specs.List.{list_all}
use Rattle.json_render.specs.Places.{goes_inside, named_parts}
use Rattle.json_render.proofs.SegmentLemmas.{filter-passes}
use Rattle.json_render.proofs.context.push_group.Goals as goal

pub push_segment-requires : goal.push_segment-requires
push_segment-requires c = ap (list_all goes_inside) c.in_ok-inside.ensures ∙ filter-passes (named_parts c.args.group.now)
