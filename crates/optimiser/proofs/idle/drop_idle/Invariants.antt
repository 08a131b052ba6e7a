use Rattle.std.proofs.Common.{◌≡◌, map, vec_len}
use Rattle.std.specs.Prelude.{option_map}
use Rattle.edm_model.specs.Models.{Model}
use Rattle.apply_ast.specs.Views.{step_of}
use Rattle.context_typing.specs.Typing.{Customs}
use Rattle.optimiser.specs.HeldSegments.{IsKept, segments_of}
use Rattle.optimiser.specs.IdleForms.{frame, without}
use Rattle.walk_laws.specs.Walks.{Rules}
use Rattle.optimiser.proofs.idle.drop_idle.Given as goal

-- what is left to drop is the same
abbrev pub invariant-loop-last : goal.invariant-loop-last
invariant-loop-last l = record {
  same : (m : Model) (r : Rules) (c : Customs) → without (option_map (λ p. p.now) l.climbed) (segments_of m (frame r c (map step_of l.steps)) l.segments.items) ≡ without (option_map (λ p. p.now) l.climbed) (segments_of m (frame r c (map step_of l.steps)) l.initial.segments.items);
  kept : IsKept l.initial.segments.items l.segments.items;
}

abbrev pub decreases-loop-last : goal.decreases-loop-last
decreases-loop-last l = vec_len l.segments
