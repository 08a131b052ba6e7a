use Rattle.std.proofs.Common.{refl, sym, ◌∙◌, ap}
use Rattle.std.specs.Prelude.{option_map}
use Rattle.apply_ast.specs.Views.{pipe_of}
use Rattle.context_typing.specs.Readings.{readings}
use Rattle.context_typing.specs.Shapes.{set_shape}
use Rattle.rewrite_places.proofs.FirstRules.{place-found, place-none, place-means, typed-start}
use Rattle.rewrite_places.proofs.first.first_place.Goals as goal

pub in_pipe-requires-clause-typed : goal.in_pipe-requires-clause-typed
in_pipe-requires-clause-typed c = typed-start c.args.m.now (readings c.args.c.now) c.args.t.now c.set_shape-start.result (c.set_shape-start.ensures.value ∙ ap set_shape c.set_type.ensures.value) c.requires.typing

pub returns-in-Some-clause-value : goal.returns-in-Some-clause-value
returns-in-Some-clause-value c =
    (refl, c.in_ok-copy-in-Some.ensures.value, place-found c.results_are_typed.ensures.law c.set_shape_is_lawful.ensures.value c.args.rule c.args.m.now (readings c.args.c.now) c.args.t.now c.set_shape-start.result (c.set_shape-start.ensures.value ∙ ap set_shape c.set_type.ensures.value) c.requires.whole c.requires.typing (pipe_of c.in-Some.pipe) (sym (ap (option_map pipe_of) c.in-Some.is) ∙ c.in_ok-pipe.ensures))

pub returns-in-Some-clause-meaning : goal.returns-in-Some-clause-meaning
returns-in-Some-clause-meaning c =
    place-means c.results_are_typed.ensures.law c.set_shape_is_lawful.ensures.value c.args.rule c.args.m.now (readings c.args.c.now) c.args.t.now c.set_shape-start.result (c.set_shape-start.ensures.value ∙ ap set_shape c.set_type.ensures.value) c.requires.whole c.requires.typing c.first_rewrites_keep_meaning.ensures.law (pipe_of c.in-Some.pipe) (sym (ap (option_map pipe_of) c.in-Some.is) ∙ c.in_ok-pipe.ensures)

pub returns-clause-value : goal.returns-clause-value
returns-clause-value c =
    place-none c.results_are_typed.ensures.law c.set_shape_is_lawful.ensures.value c.args.rule c.args.m.now (readings c.args.c.now) c.args.t.now c.set_shape-start.result (c.set_shape-start.ensures.value ∙ ap set_shape c.set_type.ensures.value) c.requires.whole c.requires.typing (sym (ap (option_map pipe_of) c.in-None.is) ∙ c.in_ok-pipe.ensures)
