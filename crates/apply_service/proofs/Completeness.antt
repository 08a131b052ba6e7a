-- Which statuses are left where the files, the words and the outside say what they are, and the headline.
use Rattle.std.proofs.Common.{◌≡◌, ℕ, Bool, ◌+◌, ◌<◌, ◌⊎◌, List, [], ◌++◌, length, length-append, None, Some, refl, sym, ap, subst, ◌∙◌, inl, inr, arith}
use Rattle.std.specs.declared.option.Option.{Option}
use Rattle.std.specs.Io.KnownBytes.{Appends, Consumes, IsAtEnd}
use Rattle.std.proofs.lemmas.List.{append-nil}
use Rattle.apply_io.specs.Causes.{Rose}
use Rattle.edm_data.specs.Worlds.{World}
use Rattle.context_typing.specs.Typing.{Customs}
use Rattle.line_stream.specs.Lines.{request_lines}
use Rattle.serve_options.specs.Options.{Mode, Serve}
use Rattle.apply_load.specs.Loads.{FileNames, Outcome, RefusedModel, RefusedData, Loaded, FilesMake}
use Rattle.apply_load.proofs.OneOutcome.{Alike, files_alike, kind}
use Rattle.apply_service.specs.Runs.{Run}
use Rattle.apply_service.specs.Outcomes.{IsOut, ServeSays, CheckSays, GenSays}
use Rattle.apply_service.specs.Service.{AsksServe, AsksCheck, AsksGen, AsksFiles, Comes, Ends, IsFault, IsUndisturbed, Make, ModeSays, Says, Writes}
use Rattle.apply_service.specs.declared.status.Status.{Status}
use Rattle.apply_service.specs.declared.status.Status.TheVariants as status

-- ---- bytes of a source and a sink that are told

taken_all : (left0 left1 : Option (List ℕ)) (bytes taken : List ℕ) → left0 ≡ Some bytes → Consumes left0 left1 taken → IsAtEnd left1 → (taken ≡ bytes) × (left1 ≡ Some [])
taken_all None left1 bytes taken e h end = absurd cc
taken_all (Some all) None bytes taken e h end = absurd h
taken_all (Some all) (Some left) bytes taken e h end =
    let same : all ≡ bytes = cc in
    (sym (append-nil taken) ∙ ap (λ l. taken ++ l) (sym end) ∙ sym h ∙ same, ap Some end)

taken_more : (left0 left1 : Option (List ℕ)) (limit : ℕ) (bytes taken : List ℕ) → left0 ≡ Some bytes → Consumes left0 left1 taken → length taken ≡ limit + 1 → limit < length bytes
taken_more None left1 limit bytes taken e h size = absurd cc
taken_more (Some all) None limit bytes taken e h size = absurd h
taken_more (Some all) (Some left) limit bytes taken e h size =
    let same : all ≡ bytes = cc in
    let sum : length all ≡ length (taken ++ left) = ap length h in
    omega (arith, sum, length-append taken left, ap length same)

told_written : (held0 held1 : Option (List ℕ)) (written before : List ℕ) → Appends held0 held1 written → held0 ≡ Some before → held1 ≡ Some (before ++ written)
told_written None held1 written before h e = absurd cc
told_written (Some old) None written before h e = absurd h
told_written (Some old) (Some new) written before h e =
    let same : old ≡ before = cc in ap Some (h ∙ ap (λ l. l ++ written) same)

module _ (r : Run) (is_steady same_folder same_input same_output : Type 0) (ends : Ends r is_steady same_folder same_input same_output) where
  -- ---- what was asked for

  serve_at : (max_bytes : ℕ) (names : FileNames) (asks : AsksServe r max_bytes names) → ServeSays (asks.0).is_optimised r.folder r.input r.output r.steps names max_bytes is_steady same_input same_output r.status
  serve_at max_bytes names asks =
      let P : Mode → Type 0 = λ m. ModeSays r (asks.0).is_optimised (asks.0).max_bytes m is_steady same_folder same_input same_output in
      let Q : ℕ → Type 0 = λ n. ModeSays r (asks.0).is_optimised n (Serve names.model names.entities) is_steady same_folder same_input same_output in
      subst Q asks.3 (subst P asks.2 (ends.asked asks.0 asks.1))

  check_at : (names : FileNames) → AsksCheck r names → CheckSays r.folder r.output names is_steady same_output r.status
  check_at names asks =
      let P : Mode → Type 0 = λ m. ModeSays r (asks.0).is_optimised (asks.0).max_bytes m is_steady same_folder same_input same_output in
      (subst P asks.2 (ends.asked asks.0 asks.1)).0

  gen_at : (count : ℕ) (asks : AsksGen r count) → GenSays (asks.0).is_optimised r.output r.steps count same_output r.status
  gen_at count asks =
      let P : Mode → Type 0 = λ m. ModeSays r (asks.0).is_optimised (asks.0).max_bytes m is_steady same_folder same_input same_output in
      (subst P asks.2 (ends.asked asks.0 asks.1)).0

  -- two outcomes of the files
  both_alike : (names : FileNames) (o p : Outcome) → FilesMake r.folder.files names o → Make r names p → Alike o p
  both_alike names o p h make = files_alike make.0 names o p (h.make make.0 make.1) make.2

  -- they are not of two kinds
  two_kinds : {X : Type 0} (names : FileNames) (o p : Outcome) → (kind o ≡ kind p → ⊥) → FilesMake r.folder.files names o → Make r names p → X
  two_kinds names o p differ h make = absurd (differ (both_alike names o p h make).kinds)

  -- ---- a refused model file

  module _ (names : FileNames) (line : List ℕ) (make : Make r names (RefusedModel line)) where
    serve_model : (optimised : Bool) (max_bytes : ℕ) (s : Status) → ServeSays optimised r.folder r.input r.output r.steps names max_bytes is_steady same_input same_output s → (s ≡ status.ModelRefused) ⊎ IsFault s
    serve_model optimised max_bytes status.Served h = two_kinds names _ (RefusedModel line) (λ e. omega (arith, e)) h.0.loaded make
    serve_model optimised max_bytes status.Usage h = absurd h
    serve_model optimised max_bytes status.ModelRefused h = inl refl
    serve_model optimised max_bytes status.DataRefused h = two_kinds names _ (RefusedModel line) (λ e. omega (arith, e)) h.0.judged make
    serve_model optimised max_bytes status.ReadFault h = inr (inl refl)
    serve_model optimised max_bytes status.WriteFault h = inr (inr (inl refl))
    serve_model optimised max_bytes status.Memory h = inr (inr (inr refl))
    serve_model optimised max_bytes status.InputLimit h = two_kinds names _ (RefusedModel line) (λ e. omega (arith, e)) h.loaded make

    check_model : (s : Status) → CheckSays r.folder r.output names is_steady same_output s → (s ≡ status.ModelRefused) ⊎ IsFault s
    check_model status.Served h = two_kinds names _ (RefusedModel line) (λ e. omega (arith, e)) h.loaded make
    check_model status.Usage h = absurd h
    check_model status.ModelRefused h = inl refl
    check_model status.DataRefused h = two_kinds names _ (RefusedModel line) (λ e. omega (arith, e)) h.judged make
    check_model status.ReadFault h = inr (inl refl)
    check_model status.WriteFault h = inr (inr (inl refl))
    check_model status.Memory h = inr (inr (inr refl))
    check_model status.InputLimit h = absurd h

    model_comes : AsksFiles r names → (r.status ≡ status.ModelRefused) ⊎ IsFault r.status
    model_comes (inl asks) = serve_model ((asks.1).0).is_optimised asks.0 r.status (serve_at asks.0 names asks.1)
    model_comes (inr asks) = check_model r.status (check_at names asks)

  -- ---- a refused data file

  module _ (names : FileNames) (line : List ℕ) (make : Make r names (RefusedData line)) where
    serve_data : (optimised : Bool) (max_bytes : ℕ) (s : Status) → ServeSays optimised r.folder r.input r.output r.steps names max_bytes is_steady same_input same_output s → (s ≡ status.DataRefused) ⊎ IsFault s
    serve_data optimised max_bytes status.Served h = two_kinds names _ (RefusedData line) (λ e. omega (arith, e)) h.0.loaded make
    serve_data optimised max_bytes status.Usage h = absurd h
    serve_data optimised max_bytes status.ModelRefused h = two_kinds names _ (RefusedData line) (λ e. omega (arith, e)) h.0.judged make
    serve_data optimised max_bytes status.DataRefused h = inl refl
    serve_data optimised max_bytes status.ReadFault h = inr (inl refl)
    serve_data optimised max_bytes status.WriteFault h = inr (inr (inl refl))
    serve_data optimised max_bytes status.Memory h = inr (inr (inr refl))
    serve_data optimised max_bytes status.InputLimit h = two_kinds names _ (RefusedData line) (λ e. omega (arith, e)) h.loaded make

    check_data : (s : Status) → CheckSays r.folder r.output names is_steady same_output s → (s ≡ status.DataRefused) ⊎ IsFault s
    check_data status.Served h = two_kinds names _ (RefusedData line) (λ e. omega (arith, e)) h.loaded make
    check_data status.Usage h = absurd h
    check_data status.ModelRefused h = two_kinds names _ (RefusedData line) (λ e. omega (arith, e)) h.judged make
    check_data status.DataRefused h = inl refl
    check_data status.ReadFault h = inr (inl refl)
    check_data status.WriteFault h = inr (inr (inl refl))
    check_data status.Memory h = inr (inr (inr refl))
    check_data status.InputLimit h = absurd h

    data_comes : AsksFiles r names → (r.status ≡ status.DataRefused) ⊎ IsFault r.status
    data_comes (inl asks) = serve_data ((asks.1).0).is_optimised asks.0 r.status (serve_at asks.0 names asks.1)
    data_comes (inr asks) = check_data r.status (check_at names asks)

  -- ---- files that make a world

  module _ (names : FileNames) (w : World) (c : Customs) (make : Make r names (Loaded w c)) where
    module _ (max_bytes : ℕ) (bytes : List ℕ) (told : r.input.left ≡ Some bytes) where
      limit_by : (optimised : Bool) → max_bytes < length bytes → (s : Status) → ServeSays optimised r.folder r.input r.output r.steps names max_bytes is_steady same_input same_output s → (s ≡ status.InputLimit) ⊎ IsFault s
      limit_by optimised long status.Served h =
          let all = taken_all r.input.left r.input.left_after bytes h.0.answered.bytes told h.0.answered.taken h.1 in
          absurd (omega (arith, long, h.0.answered.has, ap length all.0))
      limit_by optimised long status.Usage h = absurd h
      limit_by optimised long status.ModelRefused h = two_kinds names _ (Loaded w c) (λ e. omega (arith, e)) h.0.judged make
      limit_by optimised long status.DataRefused h = two_kinds names _ (Loaded w c) (λ e. omega (arith, e)) h.0.judged make
      limit_by optimised long status.ReadFault h = inr (inl refl)
      limit_by optimised long status.WriteFault h = inr (inr (inl refl))
      limit_by optimised long status.Memory h = inr (inr (inr refl))
      limit_by optimised long status.InputLimit h = inl refl

  comes : Comes r
  comes = record {
    model = λ names line asks make. model_comes names line make asks;
    entities = λ names line asks make. data_comes names line make asks;
    limit = λ max_bytes names w c bytes asks make told long. limit_by names w c make max_bytes bytes told (asks.0).is_optimised long r.status (serve_at max_bytes names asks);
  }

  -- ---- the headline

  module _ (w : World) (c : Customs) (bytes : List ℕ) (u : IsUndisturbed r is_steady w c bytes) where
    -- what is to be shown, of a status
    abbrev Shown : Status → Type 0
    Shown s =
        ((s ≡ status.Served) × (r.input.left_after ≡ Some []) × Writes r (IsOut w c (request_lines bytes)))
        ⊎ ((s ≡ status.Memory) × (r.input.left_after ≡ r.input.left) × (r.output.held_after ≡ r.output.held))

    shown_by : (same_input → r.input.left_after ≡ r.input.left) → (same_output → r.output.held_after ≡ r.output.held) → (optimised : Bool) (s : Status) → ServeSays optimised r.folder r.input r.output r.steps u.names u.max_bytes is_steady same_input same_output s → Shown s
    shown_by input output optimised status.Served h =
        let all = taken_all r.input.left r.input.left_after bytes h.0.answered.bytes u.told h.0.answered.taken h.1 in
        let one : Loaded h.0.world h.0.customs ≡ Loaded w c = (both_alike u.names _ (Loaded w c) h.0.loaded u.loads).worlds refl in
        let worlds : h.0.world ≡ w = cc in
        let readings : h.0.customs ≡ c = cc in
        let P : World → Type 0 = λ v. IsOut v h.0.customs (request_lines h.0.answered.bytes) h.0.answered.written in
        let Q : Customs → Type 0 = λ d. IsOut w d (request_lines h.0.answered.bytes) h.0.answered.written in
        let R : List ℕ → Type 0 = λ l. IsOut w c (request_lines l) h.0.answered.written in
        let out = subst R all.0 (subst Q readings (subst P worlds h.0.answered.replies)) in
        inl (refl, all.1, λ before held. (h.0.answered.written, told_written r.output.held r.output.held_after h.0.answered.written before h.0.answered.appended held, out))
    shown_by input output optimised status.Usage h = absurd h
    shown_by input output optimised status.ModelRefused h = two_kinds u.names _ (Loaded w c) (λ e. omega (arith, e)) h.0.judged u.loads
    shown_by input output optimised status.DataRefused h = two_kinds u.names _ (Loaded w c) (λ e. omega (arith, e)) h.0.judged u.loads
    shown_by input output optimised status.ReadFault (inl h) = absurd (u.no_read_failed h.0)
    shown_by input output optimised status.ReadFault (inr h) = two_kinds u.names _ (Loaded w c) (λ e. omega (arith, e)) (h.0.1 u.steady) u.loads
    shown_by input output optimised status.WriteFault h = absurd (u.no_write_failed h.0)
    shown_by input output optimised status.Memory h = inr (refl, input h.0, output h.1)
    shown_by input output optimised status.InputLimit h =
        absurd (omega (arith, u.within, taken_more r.input.left r.input.left_after u.max_bytes bytes h.answered.bytes u.told h.answered.taken h.answered.has))

  check_by : (names : FileNames) (w : World) (c : Customs) → Make r names (Loaded w c) → is_steady → ¬ Rose r.output.faults r.output.faults_after → (s : Status) → CheckSays r.folder r.output names is_steady same_output s → (s ≡ status.Served) ⊎ (s ≡ status.Memory)
  check_by names w c make steady fine status.Served h = inl refl
  check_by names w c make steady fine status.Usage h = absurd h
  check_by names w c make steady fine status.ModelRefused h = two_kinds names _ (Loaded w c) (λ e. omega (arith, e)) h.judged make
  check_by names w c make steady fine status.DataRefused h = two_kinds names _ (Loaded w c) (λ e. omega (arith, e)) h.judged make
  check_by names w c make steady fine status.ReadFault h = two_kinds names _ (Loaded w c) (λ e. omega (arith, e)) (h.0.1 steady) make
  check_by names w c make steady fine status.WriteFault h = absurd (fine h.0)
  check_by names w c make steady fine status.Memory h = inr refl
  check_by names w c make steady fine status.InputLimit h = absurd h

  gen_by : (optimised : Bool) (count : ℕ) → ¬ Rose r.output.faults r.output.faults_after → (s : Status) → GenSays optimised r.output r.steps count same_output s → (s ≡ status.Served) ⊎ (s ≡ status.Memory)
  gen_by optimised count fine status.Served h = inl refl
  gen_by optimised count fine status.Usage h = absurd h
  gen_by optimised count fine status.ModelRefused h = absurd h
  gen_by optimised count fine status.DataRefused h = absurd h
  gen_by optimised count fine status.ReadFault h = absurd h
  gen_by optimised count fine status.WriteFault h = absurd (fine h.0)
  gen_by optimised count fine status.Memory h = inr refl
  gen_by optimised count fine status.InputLimit h = absurd h

  -- a run says what the service promises
  pub says : (same_input → r.input.left_after ≡ r.input.left) → (same_output → r.output.held_after ≡ r.output.held) → Says r is_steady same_folder same_input same_output
  says input output = record {
    headline = λ w c bytes u. shown_by w c bytes u input output ((u.asks).0).is_optimised r.status (serve_at u.max_bytes u.names u.asks);
    ends = ends;
    comes = comes;
    checks = λ names w c asks make steady fine. check_by names w c make steady fine r.status (check_at names asks);
    samples = λ count asks fine. gen_by (asks.0).is_optimised count fine r.status (gen_at count asks);
  }
