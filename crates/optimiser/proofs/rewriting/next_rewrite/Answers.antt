use Rattle.std.proofs.Common.{subst, List}
use Rattle.context_typing.specs.Readings.{readings}
use Rattle.rewrite_laws.specs.Rewrites.{Rule}
use Rattle.std.specs.Prelude.{IfOk}
use Rattle.optimiser.specs.Plans.{IsFirstOf}
use Rattle.optimiser.proofs.rewriting.next_rewrite.Goals as goal

pub returns-clause-value : goal.returns-clause-value
returns-clause-value c = subst (λ (rs : List Rule). IfOk c.first_of.result (IsFirstOf rs c.args.m.now (readings c.args.c.now) c.args.t.now)) c.all_rules-all.ensures c.first_of.ensures.value
