-- What each status says of a part of a run: of the line of a refused file, and of what was done over loaded data, before it is said how that was loaded.
use Rattle.std.specs.Prelude.{◌≡◌, ℕ, ◌+◌, ◌≤◌, Bool, List, length, take}
use Rattle.std.specs.Io.KnownBytes.{Appends, IsAtEnd}
use Rattle.apply_io.specs.Causes.{Rose}
use Rattle.line_stream.specs.Lines.{request_lines, ended_lines}
use Rattle.line_stream.specs.Costs.{Rises}
use Rattle.line_stream.specs.Outputs.{WritesFront, bytes_of}
use Rattle.line_stream.specs.declared.output.Output.{Output}
use Rattle.line_stream.specs.Answers.{Responds, RespondsInPart, Writes, WritesPart}
use Rattle.apply_store.specs.Stores.{Store}
use Rattle.apply_load.specs.Checks.{check_text}
use Rattle.apply_load.specs.declared.loading.LoadStop.{LoadStop}
use Rattle.apply_load.specs.declared.loading.LoadStop.TheVariants as load_stop
use Rattle.std.specs.Global.{Vec}
use Rattle.apply_replies.specs.Costs.{BoundsLineOf}
use Rattle.apply_replies.specs.Replies.{IsReplyOf}
use Rattle.apply_service.specs.Runs.{SourceSeen, SinkSeen, StepsSeen}
use Rattle.apply_service.specs.Outcomes.{read_limit}
use Rattle.apply_service.specs.Samples.{sample_lines}
use Rattle.apply_service.specs.declared.status.Status.{Status}
use Rattle.apply_service.specs.declared.status.Status.TheVariants.{Served, ModelRefused, DataRefused, ReadFault, WriteFault, Memory, InputLimit}

-- of files that make no world, where the line of a refused one was written, or the writing broke off in it
pub data StopSays (o : SinkSeen) (same_output : Type 0) : LoadStop → Status → Type 0 where
  no_read : same_output → StopSays o same_output load_stop.Fault ReadFault
  no_memory : same_output → StopSays o same_output load_stop.Memory Memory
  model_told : (line : Output) → Appends o.held o.held_after (bytes_of line) → StopSays o same_output (load_stop.Model line) ModelRefused
  model_broken : (line : Output) → Rose o.faults o.faults_after → WritesFront (bytes_of line) o.held o.held_after → StopSays o same_output (load_stop.Model line) WriteFault
  data_told : (line : Vec ℕ) → Appends o.held o.held_after line.items → StopSays o same_output (load_stop.Data line) DataRefused
  data_broken : (line : Vec ℕ) → Rose o.faults o.faults_after → WritesFront line.items o.held o.held_after → StopSays o same_output (load_stop.Data line) WriteFault

-- bytes that have P were taken from the source, and the replies to the lines of them were written, in order; the counter of steps rose by no more than what the lines cost
abbrev pub Replied : Bool → Store → SourceSeen → SinkSeen → StepsSeen → (List ℕ → List (List ℕ)) → (List ℕ → Type 0) → Type 0
Replied optimised store i o t lines P = Responds (IsReplyOf store) (BoundsLineOf optimised store) lines P i.left i.left_after o.held o.held_after t.count t.count_after

-- of the answers to the lines of the input, up to so many bytes
abbrev pub InputSays : Bool → Store → SourceSeen → SinkSeen → StepsSeen → ℕ → Status → Type 0
InputSays optimised store i o t limit Served = Replied optimised store i o t request_lines (λ bytes. length bytes ≤ limit) × IsAtEnd i.left_after
InputSays optimised store i o t limit ReadFault = Rose i.faults i.faults_after × Replied optimised store i o t ended_lines (λ bytes. length bytes ≤ limit)
InputSays optimised store i o t limit WriteFault = Rose o.faults o.faults_after
    × RespondsInPart (IsReplyOf store) (BoundsLineOf optimised store) i.ends_in_one_read read_limit limit i.left i.left_after o.held o.held_after t.count t.count_after
InputSays optimised store i o t limit InputLimit = Replied optimised store i o t (λ bytes. ended_lines (take limit bytes)) (λ bytes. length bytes ≡ limit + 1)
InputSays optimised store i o t limit _ = ⊥

-- of what is told of the data
abbrev pub ToldSays : Store → SinkSeen → Type 0 → Status → Type 0
ToldSays store o same_output Served = Appends o.held o.held_after (check_text store.world)
ToldSays store o same_output WriteFault = Rose o.faults o.faults_after × WritesFront (check_text store.world) o.held o.held_after
ToldSays store o same_output Memory = same_output
ToldSays store o same_output _ = ⊥

-- of the answers to the sample requests
abbrev pub SamplesSay : Bool → Store → SinkSeen → StepsSeen → Status → Type 0
SamplesSay optimised store o t Served = Writes (IsReplyOf store) sample_lines o.held o.held_after × Rises (BoundsLineOf optimised store) sample_lines t.count t.count_after
SamplesSay optimised store o t WriteFault = Rose o.faults o.faults_after × WritesPart (IsReplyOf store) sample_lines o.held o.held_after × Rises (BoundsLineOf optimised store) sample_lines t.count t.count_after
SamplesSay optimised store o t _ = ⊥
