use Rattle.std.proofs.Common.{◌∙◌, ◌<◌, [], ap, length}
use Rattle.std.proofs.lemmas.List.Elements.{All-nil, All-same}
use Rattle.row_frames.specs.declared.tables.Pick.{Pick}
use Rattle.row_frames.specs.Frames.{IsTable, all_picked}
use Rattle.row_frames.proofs.frames.Frame.none.Goals as goal

pub invariant_of-result : goal.invariant_of-result
invariant_of-result c =
    let W = λ (x : Pick). x.table < length c.new.result.items in (
      All-same IsTable c.new.result.items [] c.new.ensures.items (All-nil IsTable),
      All-same W c.of_list.result [] (c.of_list.ensures ∙ c.new-2.ensures.items) (All-nil W),
    )

pub returns : goal.returns
returns c = record { value = ap (all_picked c.new.result.items) (c.of_list.ensures ∙ c.new-2.ensures.items) }
