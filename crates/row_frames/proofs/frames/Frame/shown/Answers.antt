use Rattle.std.proofs.Common.{◌∙◌, ◌<◌, List, length, subst, sym}
use Rattle.std.specs.List.{All}
use Rattle.row_frames.specs.declared.tables.Pick.{Pick}
use Rattle.row_frames.specs.declared.tables.Table.{Table}
use Rattle.row_frames.specs.Frames.{all_picked}
use Rattle.row_frames.specs.Runs.{part_rows}
use Rattle.row_frames.proofs.frames.Frame.shown.Goals as goal

pub shown_rows-requires-clause-within : goal.shown_rows-requires-clause-within
shown_rows-requires-clause-within c =
    subst (λ (ts : List Table). All (λ (x : Pick). x.table < length ts) (part_rows c.as_part.result)) (sym c.as_slice.ensures.value)
    (subst (All (λ (x : Pick). x.table < length c.self.inside.tables.items)) (sym c.as_part.ensures) c.self.invariant.1)

pub returns : goal.returns
returns c = record { value = c.shown_rows.ensures ∙ (λ i. all_picked (c.as_slice.ensures.value i) (c.as_part.ensures i)) ∙ c.self.view_is }
