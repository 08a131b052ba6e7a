-- From what was done in a mode to what a run says.
use Rattle.std.proofs.Common.{◌≡◌, ℕ, Bool, None, Some, refl, sym, subst, inl, inr}
use Rattle.std.specs.declared.option.Option.{Option}
use Rattle.serve_options.specs.Options.{Mode, Settings, Serve, Check, Gen}
use Rattle.serve_options.specs.Command.{settings_in}
use Rattle.edm_data.specs.Worlds.{World}
use Rattle.sample_data.specs.Generator.{generated_world}
use Rattle.context_typing.specs.Readings.{readings}
use Rattle.line_stream.specs.Outputs.{bytes_of}
use Rattle.apply_load.specs.Loads.{FileNames, Loaded, FilesMake}
use Rattle.apply_load.specs.Generated.{IsGenerated}
use Rattle.apply_load.specs.LoadStops.{LoadStopSays}
use Rattle.apply_load.specs.declared.loading.LoadStop.{LoadStop}
use Rattle.apply_load.specs.declared.loading.LoadStop.TheVariants as load_stop
use Rattle.apply_store.specs.CustomReadings.{AreCustoms}
use Rattle.apply_store.specs.Stores.{Store}
use Rattle.apply_service.specs.Runs.{Run, FolderSeen, SourceSeen, SinkSeen, StepsSeen}
use Rattle.apply_service.specs.Outcomes.{FolderFailed, LoadSays, StandsStill, ServeSays, CheckSays, GenSays, in_data_line, in_model_line}
use Rattle.apply_service.specs.Parts.{InputSays, SamplesSay, StopSays, ToldSays, no_read, no_memory, model_told, model_broken, data_told, data_broken}
use Rattle.apply_service.specs.Service.{Ends, ModeSays, names_of}
use Rattle.apply_service.specs.declared.status.Status.{Status}
use Rattle.apply_service.specs.declared.status.Status.TheVariants as status

-- ---- files that were not loaded

-- what was said of the stop, of these files
pub load-said : (f : FolderSeen) (o : SinkSeen) (names : FileNames) (is_steady same_output : Type 0) (stop : LoadStop) (s : Status) → StopSays o same_output stop s → LoadStopSays f.files names stop → (stop ≡ load_stop.Fault → FolderFailed f names is_steady) → LoadSays f o names is_steady same_output s
load-said f o names is_steady same_output stop s (no_read same) says failed = (failed refl, same)
load-said f o names is_steady same_output stop s (no_memory same) says failed = same
load-said f o names is_steady same_output stop s (model_told line written) says failed = record { line = bytes_of line; judged = says; written = written }
load-said f o names is_steady same_output stop s (model_broken line rose front) says failed = (rose, in_model_line says front)
load-said f o names is_steady same_output stop s (data_told line written) says failed = record { line = line.items; judged = says; written = written }
load-said f o names is_steady same_output stop s (data_broken line rose front) says failed = (rose, in_data_line says front)

pub serve-refused : (optimised : Bool) (f : FolderSeen) (i : SourceSeen) (o : SinkSeen) (t : StepsSeen) (names : FileNames) (limit : ℕ) (is_steady same_input same_output : Type 0) (s : Status) → same_input → StandsStill t → LoadSays f o names is_steady same_output s → ServeSays optimised f i o t names limit is_steady same_input same_output s
serve-refused optimised f i o t names limit is_steady same_input same_output status.Served same still h = absurd h
serve-refused optimised f i o t names limit is_steady same_input same_output status.Usage same still h = absurd h
serve-refused optimised f i o t names limit is_steady same_input same_output status.ModelRefused same still h = (h, same, still)
serve-refused optimised f i o t names limit is_steady same_input same_output status.DataRefused same still h = (h, same, still)
serve-refused optimised f i o t names limit is_steady same_input same_output status.ReadFault same still h = inr (h.0, same, h.1, still)
serve-refused optimised f i o t names limit is_steady same_input same_output status.WriteFault same still h = (h.0, inr (h.1, same, still))
serve-refused optimised f i o t names limit is_steady same_input same_output status.Memory same still h = (same, h, still)
serve-refused optimised f i o t names limit is_steady same_input same_output status.InputLimit same still h = absurd h

pub check-refused : (f : FolderSeen) (o : SinkSeen) (names : FileNames) (is_steady same_output : Type 0) (s : Status) → LoadSays f o names is_steady same_output s → CheckSays f o names is_steady same_output s
check-refused f o names is_steady same_output status.Served h = absurd h
check-refused f o names is_steady same_output status.Usage h = absurd h
check-refused f o names is_steady same_output status.ModelRefused h = h
check-refused f o names is_steady same_output status.DataRefused h = h
check-refused f o names is_steady same_output status.ReadFault h = h
check-refused f o names is_steady same_output status.WriteFault h = (h.0, inr h.1)
check-refused f o names is_steady same_output status.Memory h = h
check-refused f o names is_steady same_output status.InputLimit h = absurd h

-- ---- what was done over loaded data

-- what is said of the answers to the input, with what they are over replaced by its equals
pub input-over : (optimised given : Bool) (store over : Store) (i : SourceSeen) (o : SinkSeen) (t : StepsSeen) (limit : ℕ) (s : Status) → given ≡ optimised → over ≡ store → InputSays given over i o t limit s → InputSays optimised store i o t limit s
input-over optimised given store over i o t limit s chosen same h =
    let P : Bool → Type 0 = λ b. InputSays b over i o t limit s in
    let Q : Store → Type 0 = λ x. InputSays optimised x i o t limit s in
    subst Q same (subst P chosen h)

-- the input was answered over what the files make
pub serve-said : (optimised : Bool) (f : FolderSeen) (i : SourceSeen) (o : SinkSeen) (t : StepsSeen) (names : FileNames) (limit : ℕ) (is_steady same_input same_output : Type 0) (store : Store) (s : Status) → FilesMake f.files names (Loaded store.world (readings store.customs))
    → InputSays optimised store i o t limit s → ServeSays optimised f i o t names limit is_steady same_input same_output s
serve-said optimised f i o t names limit is_steady same_input same_output store status.Served made h = (record { world = store.world; customs = readings store.customs; loaded = made; answered = h.0 }, h.1)
serve-said optimised f i o t names limit is_steady same_input same_output store status.Usage made h = absurd h
serve-said optimised f i o t names limit is_steady same_input same_output store status.ModelRefused made h = absurd h
serve-said optimised f i o t names limit is_steady same_input same_output store status.DataRefused made h = absurd h
serve-said optimised f i o t names limit is_steady same_input same_output store status.ReadFault made h = inl (h.0, record { world = store.world; customs = readings store.customs; loaded = made; answered = h.1 })
serve-said optimised f i o t names limit is_steady same_input same_output store status.WriteFault made h = (h.0, inl (record { world = store.world; customs = readings store.customs; loaded = made; front = h.1 }))
serve-said optimised f i o t names limit is_steady same_input same_output store status.Memory made h = absurd h
serve-said optimised f i o t names limit is_steady same_input same_output store status.InputLimit made h = record { world = store.world; customs = readings store.customs; loaded = made; answered = h }

-- what the files make was told
pub check-said : (f : FolderSeen) (o : SinkSeen) (names : FileNames) (is_steady same_output : Type 0) (store : Store) (s : Status) → FilesMake f.files names (Loaded store.world (readings store.customs)) → ToldSays store o same_output s → CheckSays f o names is_steady same_output s
check-said f o names is_steady same_output store status.Served made h = record { world = store.world; customs = readings store.customs; loaded = made; written = h }
check-said f o names is_steady same_output store status.Usage made h = absurd h
check-said f o names is_steady same_output store status.ModelRefused made h = absurd h
check-said f o names is_steady same_output store status.DataRefused made h = absurd h
check-said f o names is_steady same_output store status.ReadFault made h = absurd h
check-said f o names is_steady same_output store status.WriteFault made h = (h.0, inl (record { world = store.world; customs = readings store.customs; loaded = made; front = h.1 }))
check-said f o names is_steady same_output store status.Memory made h = h
check-said f o names is_steady same_output store status.InputLimit made h = absurd h

-- what is said of the answers to the sample requests, over a world that is equal
samples-over : (optimised given : Bool) (o : SinkSeen) (t : StepsSeen) (store over : Store) (w : World) (s : Status) → given ≡ optimised → over ≡ store → store.world ≡ w
    → SamplesSay given over o t s → SamplesSay optimised (record store { world = w }) o t s
samples-over optimised given o t store over w s chosen same are h =
    let P : Bool → Type 0 = λ b. SamplesSay b over o t s in
    let Q : Store → Type 0 = λ x. SamplesSay optimised x o t s in
    let R : World → Type 0 = λ w. SamplesSay optimised (record store { world = w }) o t s in
    subst R are (subst Q same (subst P chosen h))

samples_said : (optimised : Bool) (o : SinkSeen) (t : StepsSeen) (count : ℕ) (same_output : Type 0) (store : Store) (s : Status) → AreCustoms (generated_world count).model (readings store.customs)
    → SamplesSay optimised (record store { world = generated_world count }) o t s → GenSays optimised o t count same_output s
samples_said optimised o t count same_output store status.Served typed h = record { customs = readings store.customs; typed = typed; answered = h.0; counted = h.1 }
samples_said optimised o t count same_output store status.Usage typed h = absurd h
samples_said optimised o t count same_output store status.ModelRefused typed h = absurd h
samples_said optimised o t count same_output store status.DataRefused typed h = absurd h
samples_said optimised o t count same_output store status.ReadFault typed h = absurd h
samples_said optimised o t count same_output store status.WriteFault typed h = (h.0, record { customs = readings store.customs; typed = typed; front = h.1; counted = h.2 })
samples_said optimised o t count same_output store status.Memory typed h = absurd h
samples_said optimised o t count same_output store status.InputLimit typed h = absurd h

-- the sample requests were answered over the generated world
pub gen-said : (optimised given : Bool) (o : SinkSeen) (t : StepsSeen) (count : ℕ) (same_output : Type 0) (store over : Store) (s : Status) → given ≡ optimised → over ≡ store → IsGenerated count store.world (readings store.customs)
    → SamplesSay given over o t s → GenSays optimised o t count same_output s
gen-said optimised given o t count same_output store over s chosen same made h =
    samples_said optimised o t count same_output store s made.customs (samples-over optimised given o t store over (generated_world count) s chosen same made.world h)

-- ---- modes

module _ (r : Run) (is_steady same_folder same_input same_output : Type 0) where
  no_usage : (optimised : Bool) (limit : ℕ) (m : Mode) → r.status ≡ status.Usage → ModeSays r optimised limit m is_steady same_folder same_input same_output → ⊥
  no_usage optimised limit (Serve model data_file) e h =
      let P : Status → Type 0 = λ s. ServeSays optimised r.folder r.input r.output r.steps (names_of model data_file) limit is_steady same_input same_output s in subst P e h
  no_usage optimised limit (Check model data_file) e h =
      let P : Status → Type 0 = λ s. CheckSays r.folder r.output (names_of model data_file) is_steady same_output s in subst P e h.0
  no_usage optimised limit (Gen count) e h =
      let P : Status → Type 0 = λ s. GenSays optimised r.output r.steps count same_output s in subst P e h.0

  memory_says : (optimised : Bool) (limit : ℕ) (m : Mode) → r.status ≡ status.Memory → ModeSays r optimised limit m is_steady same_folder same_input same_output → same_input × same_output × StandsStill r.steps
  memory_says optimised limit (Serve model data_file) e h =
      let P : Status → Type 0 = λ s. ServeSays optimised r.folder r.input r.output r.steps (names_of model data_file) limit is_steady same_input same_output s in subst P e h
  memory_says optimised limit (Check model data_file) e h =
      let P : Status → Type 0 = λ s. CheckSays r.folder r.output (names_of model data_file) is_steady same_output s in (h.1, subst P e h.0, h.2)
  memory_says optimised limit (Gen count) e h =
      let P : Status → Type 0 = λ s. GenSays optimised r.output r.steps count same_output s in
      let none = subst P e h.0 in
      (h.2, none.0, none.1)

  none_some : (o : Option Settings) (s : Settings) {X : Type 0} → o ≡ Some s → o ≡ None → X
  none_some None s e f = absurd cc
  none_some (Some t) s e f = absurd cc

  -- the words asked for something, and this came of it
  pub ends-asked : (s : Settings) → settings_in r.words ≡ Some s → ModeSays r s.is_optimised s.max_bytes s.mode is_steady same_folder same_input same_output → Ends r is_steady same_folder same_input same_output
  ends-asked s asks h = record {
    usage = λ e. absurd (no_usage s.is_optimised s.max_bytes s.mode e h);
    usage_comes = λ none. none_some (settings_in r.words) s asks none;
    memory = λ e. memory_says s.is_optimised s.max_bytes s.mode e h;
    asked = λ t e.
        let same : s ≡ t = cc in
        let P : Settings → Type 0 = λ x. ModeSays r x.is_optimised x.max_bytes x.mode is_steady same_folder same_input same_output in
        subst P same h;
  }

  -- the words were refused
  pub ends-usage : r.status ≡ status.Usage → settings_in r.words ≡ None → same_folder → same_input → same_output → StandsStill r.steps → Ends r is_steady same_folder same_input same_output
  ends-usage e none folder input output still = record {
    usage = λ _. (none, folder, input, output, still);
    usage_comes = λ _. inl e;
    memory = λ _. (input, output, still);
    asked = λ s asks. none_some (settings_in r.words) s asks none;
  }

  memory_asked : (optimised : Bool) (limit : ℕ) (m : Mode) → r.status ≡ status.Memory → same_folder → same_input → same_output → StandsStill r.steps → ModeSays r optimised limit m is_steady same_folder same_input same_output
  memory_asked optimised limit (Serve model data_file) e folder input output still =
      let P : Status → Type 0 = λ s. ServeSays optimised r.folder r.input r.output r.steps (names_of model data_file) limit is_steady same_input same_output s in subst P (sym e) (input, output, still)
  memory_asked optimised limit (Check model data_file) e folder input output still =
      let P : Status → Type 0 = λ s. CheckSays r.folder r.output (names_of model data_file) is_steady same_output s in (subst P (sym e) output, input, still)
  memory_asked optimised limit (Gen count) e folder input output still =
      let P : Status → Type 0 = λ s. GenSays optimised r.output r.steps count same_output s in (subst P (sym e) (output, still), folder, input)

  -- memory was wanting before anything was done
  pub ends-memory : r.status ≡ status.Memory → same_folder → same_input → same_output → StandsStill r.steps → Ends r is_steady same_folder same_input same_output
  ends-memory e folder input output still = record {
    usage = λ f. absurd cc;
    usage_comes = λ _. inr e;
    memory = λ _. (input, output, still);
    asked = λ s _. memory_asked s.is_optimised s.max_bytes s.mode e folder input output still;
  }
