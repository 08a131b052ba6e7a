use Rattle.std.proofs.Common.{◌≡◌, map, take}
use Rattle.apply_ast.specs.Views.{item_of}
use Rattle.apply_meaning.specs.Meaning.{values}
use Rattle.row_frames.specs.Keys.{seen_columns}
use Rattle.step_run.proofs.kept_groups.read_items.Given as goal

-- the values of the items so far
abbrev pub invariant-loop-item : goal.invariant-loop-item
invariant-loop-item g l = seen_columns l.lists.items ≡ map (λ x. values l.context.world (item_of x).expr l.rows) (take l.item-index l.items)
