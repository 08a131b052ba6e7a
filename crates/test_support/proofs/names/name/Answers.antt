use Rattle.std.proofs.Common.{sym, ◌∙◌}
use Rattle.test_support.proofs.NameFacts.{named-text}
use Rattle.test_support.proofs.names.name.Goals as goal

pub returns-in-Some : goal.returns-in-Some
returns-in-Some c = record { value = named-text _ c.args.text.now c.in-Some.name (sym c.in-Some.is ∙ c.in_ok-name.ensures.value) }
