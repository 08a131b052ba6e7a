use Rattle.std.proofs.Common.{sym, ◌∙◌, ap, map}
use Rattle.std.specs.Prelude.{option_map}
use Rattle.apply_ast.specs.Views.{step_of}
use Rattle.optimiser.specs.HeldSegments.{segments_of}
use Rattle.optimiser.specs.IdleForms.{frame}
use Rattle.optimiser.specs.WalkForms.{dropped}
use Rattle.optimiser.proofs.ends.drop_before.Goals as goal

pub returns-in-Some-clause-value : goal.returns-in-Some-clause-value
returns-in-Some-clause-value c m r cs =
    c.drop_idle.ensures.value m r cs ∙ ap (λ q. dropped (option_map (λ p. p.now) q) (segments_of m (frame r cs (map step_of c.args.steps.now)) c.args.segments.now.items)) (sym c.in-Some.is)

pub returns-in-None-clause-value : goal.returns-in-None-clause-value
returns-in-None-clause-value c m r cs =
    ap (λ q. dropped (option_map (λ p. p.now) q) (segments_of m (frame r cs (map step_of c.args.steps.now)) c.args.segments.now.items)) (sym c.in-None.is)
