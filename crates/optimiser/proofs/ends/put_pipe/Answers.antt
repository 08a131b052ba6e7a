use Rattle.std.proofs.Common.{◌∙◌, map}
use Rattle.std.specs.Prelude.{option_map}
use Rattle.apply_ast.specs.Views.{expr_of}
use Rattle.optimiser.specs.WalkForms.{ended}
use Rattle.optimiser.proofs.ends.put_pipe.Goals as goal

pub returns-clause-value : goal.returns-clause-value
returns-clause-value c =
    c.in_ok-put_end.ensures.value ∙ (λ i. ended (option_map (λ p. p.now) c.args.climbed) c.args.m.now (c.in_ok-segments.ensures.shape i) (map expr_of c.args.entered.now) (c.in_ok-segments.ensures.value i))
