-- What a run over objects in memory comes to.
use Rattle.std.specs.Prelude.{◌≡◌, ℕ, List, [], Some}
use Rattle.apply_io.specs.Causes.{next_count}
use Rattle.apply_io.specs.Memory.{FolderState, SourceState, SinkState}
use Rattle.apply_io.specs.Reads.{EndsInOneRead}
use Rattle.apply_service.specs.Runs.{SourceSeen}
use Rattle.apply_service.specs.Service.{Says}
use Rattle.run_support.specs.Cases.{case_folder, case_source, case_sink}
use Rattle.run_support.specs.declared.runs.Case.{Case}
use Rattle.run_support.specs.declared.runs.RunResult.{RunResult}

-- The service says this of a run with these words and a new counter of steps, over the case's folder and sink and a source that was seen so: it ended with the status of the result, the sink then held the bytes of its output, and the folder had failed so often.
pub record EndsOver (words : List (List ℕ)) (case : Case) (input : SourceSeen) (same_input : Type 0) (r : RunResult) : Type 0 where
  pub folder : FolderState
  pub sink : SinkState
  pub counted : ℕ
  pub says : Says (record {
    words = words;
    folder = record { files = Some (case_folder case).files; faults = 0; faults_after = folder.faults };
    input = input;
    output = record { held = Some []; held_after = Some sink.held; faults = 0; faults_after = sink.faults };
    steps = record { count = 0; count_after = counted };
    status = r.status;
  }) ((case_folder case).fails ≡ []) (folder ≡ case_folder case) same_input (sink ≡ case_sink case)
  pub output : r.output.items ≡ sink.held
  pub folder_faults : r.folder_faults ≡ folder.faults

-- the same over the source of these bytes, where a read is a call more
pub record Ends (words : List (List ℕ)) (case : Case) (bytes : List ℕ) (r : RunResult) : Type 0 where
  pub source : SourceState
  pub over : EndsOver words case (record { left = Some bytes; left_after = Some source.left; faults = 0; faults_after = source.faults; ends_in_one_read = EndsInOneRead (λ (s : SourceState). Some s.left) (λ (s t : SourceState). t.calls ≡ next_count s.calls) (case_source case bytes) source }) (source ≡ case_source case bytes) r
