use Rattle.std.proofs.Common.{◌∙◌, ap, map}
use Rattle.std.specs.Prelude.{option_map}
use Rattle.apply_ast.specs.Trees.{Step}
use Rattle.apply_ast.specs.Views.{inner_of, key_of, keys_in, keys_of, pipe_of, step_of}
use Rattle.apply_ast.proofs.ViewEquations.{keys_of-is}
use Rattle.context_typing.specs.Readings.{readings}
use Rattle.optimiser.proofs.TypedInside.{group-inner, group-keys, inner-each}
use Rattle.optimiser.proofs.inside.grouping_is_typed.Goals as goal

pub returns-clause-keys : goal.returns-clause-keys
returns-clause-keys c =
    group-keys c.args.m.now (readings c.args.c.now) c.args.shape.now (map key_of (keys_in c.args.keys.now)) (inner_of (option_map pipe_of c.args.inner.now)) (step_of c.args.step.now)
    (c.requires.grouping ∙ ap (λ K. Step.GroupBy K (inner_of (option_map pipe_of c.args.inner.now))) (keys_of-is c.args.keys.now)) c.requires.typed

pub returns-clause-inner : goal.returns-clause-inner
returns-clause-inner c =
    inner-each c.args.m.now (readings c.args.c.now) pipe_of c.args.shape.now c.args.inner.now
    (group-inner c.args.m.now (readings c.args.c.now) c.args.shape.now (keys_of c.args.keys.now) (inner_of (option_map pipe_of c.args.inner.now)) (step_of c.args.step.now) c.requires.grouping c.requires.typed)
