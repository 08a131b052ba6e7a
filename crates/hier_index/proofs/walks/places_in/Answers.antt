use Rattle.std.proofs.Common.{◌<◌, length, slice_index, arith, ◌∙◌}
use Rattle.std.proofs.lemmas.List.{length-set}
use Rattle.hier_index.proofs.OnceLaws.{once_each, all_below, next_placed}
use Rattle.hier_index.proofs.walks.places_in.Goals as goal

pub index_mut-requires : goal.index_mut-requires
index_mut-requires c =
    let walked = c.args.walked.now in
    let below : slice_index walked c.loop-k.k < length walked = all_below (length walked) walked c.requires.once c.loop-k.k 0 (omega arith) in
    let long = c.loop-k.invariant.0 in
    omega arith

pub loop-k-preserved : goal.loop-k-preserved
loop-k-preserved c =
    let walked = c.args.walked.now in
    let below : slice_index walked c.loop-k.k < length walked = all_below (length walked) walked c.requires.once c.loop-k.k 0 (omega arith) in (
      length-set c.loop-k.found.items _ _ ∙ c.loop-k.invariant.0,
      next_placed (length walked) walked c.loop-k.found.items c.loop-k.k (once_each (length walked) walked c.requires.once) c.loop-k.invariant.0 (omega arith) below c.loop-k.invariant.1,
    )
