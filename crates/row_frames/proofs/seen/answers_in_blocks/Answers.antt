use Rattle.std.proofs.Common.{◌∙◌, ◌++◌, ap, map}
use Rattle.row_frames.specs.Answers.{answer_of}
use Rattle.row_frames.specs.declared.tables.Pick.{Pick}
use Rattle.row_frames.specs.Frames.{read_at, IsReadable}
use Rattle.row_frames.proofs.BlockLemmas.{All-behind, block-step, map-map}
use Rattle.row_frames.proofs.seen.answers_in_blocks.Goals as goal

pub loop-rest-preserved : goal.loop-rest-preserved
loop-rest-preserved c =
    let rs = c.args.readers.now in
    let found = c.loop-rest.found.items in
    let rest = c.loop-rest.rest.now in
    let block = c.next_block.result.0.now in
    let behind = c.next_block.result.1.now in
    let made = c.in_ok-push_block_answers.ensures ∙ ap (λ l. found ++ map answer_of l) c.in_ok-values.ensures ∙ ap (λ l. found ++ l) (map-map answer_of (read_at rs) block) in (
      All-behind (IsReadable rs) rest block behind c.next_block.ensures.all c.loop-rest.invariant.0,
      block-step (λ (x : Pick). answer_of (read_at rs x)) found _ _ rest block behind c.next_block.ensures.all made c.loop-rest.invariant.1,
    )
