use Rattle.std.proofs.Common.{map}
use Rattle.edm_values.specs.declared.Value.{Value}
use Rattle.row_frames.specs.Folded.{int_of}
use Rattle.row_frames.specs.Frames.{read_at, IsReadable}
use Rattle.row_frames.specs.Runs.{run_rows}
use Rattle.row_frames.proofs.FoldedLemmas.{read-same, slice-given}
use Rattle.row_frames.proofs.folded.run_ints.Goals as goal

pub returns : goal.returns
returns c =
    let rs = c.args.readers.now in
    let run = c.args.run in
    let read = read-same (IsReadable rs) (read_at rs) (int_of c.in-Some.list.now) (run_rows run) c.requires (λ x h. c.in-Some.ensures x h.within) in
    slice-given Value.Int c.in-Some.list.now run.from run.to (map (read_at rs) (run_rows run)) c.slice_of.result c.slice_of.ensures read
