use Rattle.std.proofs.Common.{◌∙◌, ◌++◌, ap}
use Rattle.row_frames.specs.Frames.{read_at, IsReadable}
use Rattle.row_frames.proofs.BlockLemmas.{All-behind, block-step, seen}
use Rattle.row_frames.proofs.seen.values_in_blocks.Goals as goal

pub loop-rest-preserved : goal.loop-rest-preserved
loop-rest-preserved c =
    let rs = c.args.readers.now in
    let found = c.loop-rest.found.items in
    let rest = c.loop-rest.rest.now in
    let block = c.next_block.result.0.now in
    let behind = c.next_block.result.1.now in
    let made = c.in_ok-push_owned.ensures ∙ ap (λ l. found ++ l) (ap seen c.as_slice.ensures.value ∙ c.in_ok-values.ensures) in (
      All-behind (IsReadable rs) rest block behind c.next_block.ensures.all c.loop-rest.invariant.0,
      block-step (read_at rs) found _ _ rest block behind c.next_block.ensures.all made c.loop-rest.invariant.1,
    )
