use Rattle.std.proofs.Common.{◌-◌, ◌≤◌, length, take}
use Rattle.std.specs.Io.KnownBytes.{Appends}
use Rattle.line_stream.proofs.write.write_whole.Given as goal

abbrev pub invariant-loop-at : goal.invariant-loop-at
invariant-loop-at g l = record {
  within : l.at ≤ length l.bytes;
  faults : g.K.Sink.fault_count l.initial.output ≤ g.K.Sink.fault_count l.output;
  written : Appends (g.K.Sink.held l.initial.output) (g.K.Sink.held l.output) (take l.at l.bytes);
}

abbrev pub decreases-loop-at : goal.decreases-loop-at
decreases-loop-at g l = length l.bytes - l.at
