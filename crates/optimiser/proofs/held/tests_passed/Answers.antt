use Rattle.std.proofs.Common.{◌∙◌}
use Rattle.optimiser.proofs.HeldLists.{passed-form}
use Rattle.optimiser.proofs.held.tests_passed.Goals as goal

pub returns : goal.returns
returns c = c.are_passed.ensures ∙ passed-form c.args.tests.now c.args.test.now
