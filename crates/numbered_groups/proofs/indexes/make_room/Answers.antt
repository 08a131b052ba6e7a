use Rattle.std.proofs.Common.{arith}
use Rattle.numbered_groups.proofs.IndexLemmas.{index-grown}
use Rattle.numbered_groups.proofs.indexes.make_room.Goals as goal

pub returns-clause-index : goal.returns-clause-index
returns-clause-index c = λ heads i. index-grown heads c.args.table.now.items c.resize.new.self.items _ _ _ i (omega arith) c.resize.ensures.items
