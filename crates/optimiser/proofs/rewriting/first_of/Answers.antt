use Rattle.std.proofs.Common.{◌≤◌, get_or, length, arith}
use Rattle.context_typing.specs.Readings.{readings}
use Rattle.optimiser.proofs.PlanSteps.{first-typed, found-next, none-at_all, none-more}
use Rattle.rewrite_rules.specs.RuleNames.{rule_of}
use Rattle.rewrite_rules.specs.declared.rules.RuleName.TheVariants as name
use Rattle.optimiser.proofs.rewriting.first_of.Goals as goal

pub loop-rule-preserved : goal.loop-rule-preserved
loop-rule-preserved c =
    none-more c.args.m.now (readings c.args.c.now) c.args.t.now c.args.among.now c.loop-rule.rule-index name.DropIdentity c.in_ok-made.field-0 (omega arith) c.loop-rule.invariant c.in_default.is c.in_ok-made.ensures.value

pub returns-in-Some-clause-value : goal.returns-in-Some-clause-value
returns-in-Some-clause-value c =
    found-next c.args.m.now (readings c.args.c.now) c.args.t.now c.args.among.now c.loop-rule.rule-index name.DropIdentity c.in_ok-made.field-0 c.in-Some.made (omega arith) c.loop-rule.invariant c.in-Some.is c.in_ok-made.ensures.value

pub returns-in-Some-clause-typing : goal.returns-in-Some-clause-typing
returns-in-Some-clause-typing c = first-typed c.args.m.now (readings c.args.c.now) c.args.t.now (rule_of (get_or c.args.among.now c.loop-rule.rule-index name.DropIdentity)) c.in_ok-made.field-0 c.in-Some.made c.in-Some.is c.in_ok-made.ensures.value c.in_ok-made.ensures.meaning

pub returns-clause-value : goal.returns-clause-value
returns-clause-value c =
    let end : length c.args.among.now ≤ c.loop-rule.rule-index = omega (arith, c.loop-rule-test.false) in
    none-at_all c.args.m.now (readings c.args.c.now) c.args.t.now c.args.among.now c.loop-rule.rule-index end c.loop-rule.invariant
