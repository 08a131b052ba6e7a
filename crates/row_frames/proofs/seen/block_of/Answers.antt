use Rattle.row_frames.proofs.BlockLemmas.{from-one}
use Rattle.row_frames.proofs.seen.block_of.Goals as goal

pub returns : goal.returns
returns c = from-one c.args.readers.now c.index-readers-0.result c.args.picks.now c.read_block.result c.requires.one c.index-readers-0.is c.requires.readable c.read_block.ensures
