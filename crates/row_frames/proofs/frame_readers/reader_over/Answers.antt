use Rattle.apply_ast.specs.Views.{expr_of}
use Rattle.row_frames.proofs.ReadLemmas.{all-read, all-readable}
use Rattle.row_frames.proofs.frame_readers.reader_over.Goals as goal

pub invariant_of-result : goal.invariant_of-result
invariant_of-result c = all-readable c.args.store.now (expr_of c.args.e.now) c.args.tables.now c.in_ok-readers.readers.items c.args.picks.now c.in_ok-readers.ensures c.requires.tables c.requires.within c.requires.of

pub returns : goal.returns
returns c = all-read c.args.store.now (expr_of c.args.e.now) c.args.tables.now c.in_ok-readers.readers.items c.args.picks.now c.in_ok-readers.ensures c.requires.within
