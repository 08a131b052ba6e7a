-- Only a text takes memory.
use Rattle.std.proofs.Common.{sym, ◌∙◌}
use Rattle.edm_values.proofs.DigitLaws.{never_memory}
use Rattle.edm_values.proofs.literals.read_value.Goals as goal

pub returns-in-Day-clause-memory : goal.returns-in-Day-clause-memory
returns-in-Day-clause-memory c = λ h. absurd (never_memory _ (sym c.read_day.ensures ∙ h))
