use Rattle.std.proofs.Common.{◌≡◌, ◌++◌, take}
use Rattle.json_render.specs.RowTexts.{pieces_text}
use Rattle.json_render.proofs.templates.Template.push_row.Given as goal

abbrev pub invariant-loop-piece : goal.invariant-loop-piece
invariant-loop-piece l = l.out.items ≡ l.initial.out.items ++ pieces_text l.store l.row (take l.piece-index l.self.pieces.items)
