use Rattle.std.proofs.Common.{sym, ◌∙◌}
use Rattle.context_typing.proofs.CustomEntries.{answers-typed}
use Rattle.context_typing.proofs.definitions.type_custom.Goals as goal

pub returns-in-Some : goal.returns-in-Some
returns-in-Some c =
    answers-typed c.args.m.now c.args.custom.now c.args.read c.in-Some.name c.in-Some.kind c.in-Some.risky c.requires.entry c.requires.id
    (sym c.in-Some.is ∙ c.in_ok-name.ensures)
