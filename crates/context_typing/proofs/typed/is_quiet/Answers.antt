use Rattle.std.proofs.Common.{◌∙◌, ap, sym, subst}
use Rattle.std.specs.Prelude.{is_some}
use Rattle.std.proofs.lemmas.Bool.{both_ways}
use Rattle.apply_ast.specs.Views.{pipe_of}
use Rattle.context_typing.specs.Readings.{readings}
use Rattle.context_typing.specs.Typing.{steps_shape}
use Rattle.context_typing.specs.Walks.{IsWalk}
use Rattle.context_typing.proofs.WalkFacts.{untyped-none}
use Rattle.context_typing.proofs.typed.is_quiet.Goals as goal

pub unreachable-requires : goal.unreachable-requires
unreachable-requires c =
    let m = c.args.m.now in
    let cs = readings c.args.c.now in
    let p = pipe_of c.args.p.now in
    both_ways (is_some (steps_shape m cs c.args.s.now p))
    (ap is_some (ap (λ S. steps_shape m cs S p) (sym c.in_ok-copy.ensures.value) ∙ untyped-none m cs c.in_ok-copy.field-0 p _ (subst (IsWalk m cs c.in_ok-copy.field-0 p) c.in-Untyped.is c.in_ok-outcome.ensures.walk)))
    c.requires.typed
