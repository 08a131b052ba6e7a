use Rattle.std.proofs.Common.{ap, map}
use Rattle.std.specs.Prelude.{option_map}
use Rattle.apply_ast.specs.declared.steps.JoinStep.{out-JoinStep}
use Rattle.apply_ast.specs.Views.{inner_of, join_of, pipe_of, step_of}
use Rattle.apply_ast.proofs.ViewEquations.{join_of-is}
use Rattle.context_typing.specs.Readings.{readings}
use Rattle.rewrite_forms.specs.StepShapes.{shape_behind}
use Rattle.rewrite_places.proofs.TypedPlaces.{typed-related}
use Rattle.rewrite_places.proofs.typed.related_is_typed.Goals as goal

pub returns : goal.returns
returns c =
    let j = out-JoinStep c.args.join.now in
    typed-related c.args.m.now (readings c.args.c.now) (shape_behind c.args.m.now (readings c.args.c.now) c.args.start.now (map step_of c.args.before.now)) c.args.shape.now (join_of c.args.join.now) j.outer j.nav j.alias (inner_of (option_map pipe_of j.inner)) (pipe_of c.args.related.now) c.args.of.now
    (join_of-is c.args.join.now) (ap (λ i. inner_of (option_map pipe_of i)) c.requires.related) c.requires.shape c.requires.of c.requires.typed
