use Rattle.std.proofs.Common.{◌≡◌, map, take}
use Rattle.edm_values.specs.Values.{seen_value}
use Rattle.row_frames.specs.Frames.{leaf_value}
use Rattle.row_frames.proofs.blocks.leaf_block.Given as goal

-- those so far
abbrev pub invariant-loop-row : goal.invariant-loop-row
invariant-loop-row l = map (λ v. seen_value v) l.found.items ≡ map (λ x. leaf_value l.reader.store.now l.reader.table.now x.row l.leaf) (take l.row-index l.rows)
