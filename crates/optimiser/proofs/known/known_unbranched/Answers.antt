use Rattle.apply_ast.specs.Views.{step_of}
use Rattle.context_typing.specs.Readings.{readings}
use Rattle.optimiser.proofs.KnownLemmas.{kept-is, unbranched-known}
use Rattle.optimiser.proofs.known.known_unbranched.Goals as goal

pub returns-clause-known : goal.returns-clause-known
returns-clause-known c =
    unbranched-known c.args.m.now (readings c.args.c.now) c.args.shape (step_of c.args.step.now) c.unbranched.result c.in_ok-behind.behind c.in_ok-next.next
    c.requires.unbranched c.unbranched.ensures c.in_ok-next.ensures.value c.in_ok-next.ensures.types (kept-is c.in_ok-behind.behind c.in_ok-next.next c.in_ok-behind.ensures)
