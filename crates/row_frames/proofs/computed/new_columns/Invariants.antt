use Rattle.std.proofs.Common.{◌≡◌, ◌∷◌, [], map, take}
use Rattle.apply_ast.specs.Views.{expr_of}
use Rattle.apply_meaning.specs.Meaning.{values}
use Rattle.row_frames.specs.Frames.{all_picked, listed}
use Rattle.row_frames.proofs.computed.new_columns.Given as goal

abbrev pub invariant-loop-item : goal.invariant-loop-item
invariant-loop-item g l = map listed l.columns.items ≡ map (λ x. (x.name ∷ [], values l.store (expr_of x.expr) (all_picked l.tables l.picks))) (take l.item-index l.items)
