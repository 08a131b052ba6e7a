use Rattle.std.proofs.Common.{◌≡◌, map, take}
use Rattle.apply_ast.specs.Views.{expr_of, key_of, pipe_of, step_of}
use Rattle.std.specs.Prelude.{None}
use Rattle.context_typing.specs.Readings.{readings}
use Rattle.optimiser.specs.HeldSegments.{segments_of}
use Rattle.optimiser.specs.IdleForms.{frame}
use Rattle.optimiser.specs.WalkForms.{walked}
use Rattle.optimiser.specs.WalkRules.{rules_named}
use Rattle.walk_laws.specs.Walks as spec
use Rattle.optimiser.proofs.walking.+walked.Given as goal

-- the steps so far are those of the segments so far
abbrev pub invariant-walked_known-loop-segment : goal.invariant-walked_known-loop-segment
invariant-walked_known-loop-segment l = map step_of l.steps.items ≡ spec.all_steps (segments_of l.m (frame (rules_named l.rules) (readings l.c) (map step_of l.written)) l.yielded)

abbrev pub invariant-settled_branches-loop-i : goal.invariant-settled_branches-loop-i
invariant-settled_branches-loop-i l = map pipe_of l.settled.items ≡ map (λ p. walked (rules_named l.rules) l.m (readings l.c) l.shape (pipe_of p) (map expr_of l.entered) None) (take l.i l.all)

abbrev pub invariant-settled_keys-loop-i : goal.invariant-settled_keys-loop-i
invariant-settled_keys-loop-i l = map key_of l.settled.items ≡ map (λ k. spec.settled_key (rules_named l.rules) l.m (readings l.c) (key_of k) (map expr_of l.entered)) (take l.i l.all)
