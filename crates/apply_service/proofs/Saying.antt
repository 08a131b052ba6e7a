-- From what was done in a mode to what the service promises of the run.
use Rattle.std.proofs.Common.{◌≡◌, ℕ, List, None, Some, sym, subst}
use Rattle.serve_options.specs.Options.{Mode, Settings, Serve, Check, Gen}
use Rattle.serve_options.specs.Command.{settings_in}
use Rattle.apply_service.specs.Runs.{Run}
use Rattle.apply_service.specs.Outcomes.{StandsStill, ServeSays, CheckSays, GenSays}
use Rattle.apply_service.specs.Service.{ModeSays, Says, names_of}
use Rattle.apply_service.specs.declared.status.Status.TheVariants as status
use Rattle.apply_service.proofs.Ends.{ends-asked, ends-memory, ends-usage}
use Rattle.apply_service.proofs.Completeness.{says}

module _ (r : Run) (is_steady same_folder same_input same_output : Type 0) (input : same_input → r.input.left_after ≡ r.input.left) (output : same_output → r.output.held_after ≡ r.output.held) where
  module _ (s : Settings) (asks : settings_in r.words ≡ Some s) where
    says-mode : (m : Mode) → s.mode ≡ m → ModeSays r s.is_optimised s.max_bytes m is_steady same_folder same_input same_output → Says r is_steady same_folder same_input same_output
    says-mode m e h =
        let P : Mode → Type 0 = λ x. ModeSays r s.is_optimised s.max_bytes x is_steady same_folder same_input same_output in
        says r is_steady same_folder same_input same_output (ends-asked r is_steady same_folder same_input same_output s asks (subst P (sym e) h)) input output

    pub says-serve : (model entities : List ℕ) → s.mode ≡ Serve model entities → ServeSays s.is_optimised r.folder r.input r.output r.steps (names_of model entities) s.max_bytes is_steady same_input same_output r.status → Says r is_steady same_folder same_input same_output
    says-serve model entities e h = says-mode (Serve model entities) e h

    pub says-check : (model entities : List ℕ) → s.mode ≡ Check model entities → CheckSays r.folder r.output (names_of model entities) is_steady same_output r.status → same_input → StandsStill r.steps → Says r is_steady same_folder same_input same_output
    says-check model entities e h same still = says-mode (Check model entities) e (h, same, still)

    pub says-gen : (count : ℕ) → s.mode ≡ Gen count → GenSays s.is_optimised r.output r.steps count same_output r.status → same_folder → same_input → Says r is_steady same_folder same_input same_output
    says-gen count e h folder same = says-mode (Gen count) e (h, folder, same)

  pub says-usage : r.status ≡ status.Usage → settings_in r.words ≡ None → same_folder → same_input → same_output → StandsStill r.steps → Says r is_steady same_folder same_input same_output
  says-usage e none folder left held still = says r is_steady same_folder same_input same_output (ends-usage r is_steady same_folder same_input same_output e none folder left held still) input output

  pub says-memory : r.status ≡ status.Memory → same_folder → same_input → same_output → StandsStill r.steps → Says r is_steady same_folder same_input same_output
  says-memory e folder left held still = says r is_steady same_folder same_input same_output (ends-memory r is_steady same_folder same_input same_output e folder left held still) input output
