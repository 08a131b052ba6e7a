use Rattle.std.proofs.Common.{◌∙◌, ap}
use Rattle.json_render.specs.Places.{named_parts}
use Rattle.json_render.proofs.RowParts.{column_part, more-column}
use Rattle.json_render.proofs.members.push_columns.Goals as goal

pub loop-k-preserved : goal.loop-k-preserved
loop-k-preserved c =
    more-column c.args.shape.now c.args.row.now.columns c.loop-k.k (named_parts c.args.entries.now.items) c.loop-k.entries.items c.push.new.self.items c.whole.result c.column_path-path.result.now c.column_path-path.ensures
    (c.whole.ensures ∙ ap (column_part c.loop-k.k c.column_path-path.result.now) c.shown_name.ensures)
    c.in_ok-push.ensures.items c.loop-k.invariant
