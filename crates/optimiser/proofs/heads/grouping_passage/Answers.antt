use Rattle.std.proofs.Common.{sym, ◌∙◌, ap, not, ◌||◌, map}
use Rattle.apply_ast.specs.Views.{key_of}
use Rattle.optimiser.specs.WalkRules.{rules_named}
use Rattle.walk_laws.specs.Walks as spec
use Rattle.optimiser.proofs.HeadLemmas.{grouping-closed, grouping-open}
use Rattle.optimiser.proofs.heads.grouping_passage.Goals as goal

pub returns-in_ok-in_every_row : goal.returns-in_ok-in_every_row
returns-in_ok-in_every_row c =
    grouping-open (rules_named c.args.rules) (map key_of c.args.keys.now) c.in_ok-in_every_row.field-0.items
    (ap (λ b. spec.is_late (rules_named c.args.rules) || not b) (sym c.has_nodes-nodes.ensures) ∙ sym c.may_pass.ensures ∙ c.if-may_pass.true) c.in_ok-in_every_row.ensures.value

pub returns-else-may_pass : goal.returns-else-may_pass
returns-else-may_pass c =
    grouping-closed (rules_named c.args.rules) (map key_of c.args.keys.now)
    (ap (λ b. spec.is_late (rules_named c.args.rules) || not b) (sym c.has_nodes-nodes.ensures) ∙ sym c.may_pass.ensures ∙ c.if-may_pass.false)
