use Rattle.std.proofs.Common.{ap, ◌∙◌}
use Rattle.row_frames.proofs.BlockLemmas.{seen, seen-as-many}
use Rattle.row_frames.proofs.blocks.with_block.Goals as goal

pub binary_block-requires : goal.binary_block-requires
binary_block-requires c =
    seen-as-many c.args.block c.args.other c.as_slice.result.now c.as_slice-2.result.now
    (ap seen c.as_slice.ensures.value ∙ c.in_ok-values.ensures)
    (ap seen c.as_slice-2.ensures.value ∙ c.in_ok-others.ensures)
    c.requires
