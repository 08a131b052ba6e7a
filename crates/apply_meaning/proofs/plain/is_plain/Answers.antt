use Rattle.std.proofs.Common.{sym, ◌∙◌, ap}
use Rattle.apply_meaning.proofs.RunLemmas.{steps-all}
use Rattle.apply_meaning.specs.Running.{all_steps, is_plain_step}
use Rattle.apply_meaning.proofs.plain.is_plain.Goals as goal

pub returns : goal.returns
returns c = record { value = c.are_plain.ensures ∙ steps-all is_plain_step c.steps.result.now ∙ ap (all_steps is_plain_step) (sym c.steps.ensures.tree) }
