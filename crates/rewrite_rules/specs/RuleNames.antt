-- The rules by their names.
use Rattle.rewrite_laws.specs.Rewrites.{Rule, drop_identity, split_conjunction, drop_true, pass_compute, pass_order, pass_groups, pass_rollup, filter_branches, factor_branches, pass_join, filter_related, pass_outer_join, drop_order, join_counts, pass_traverse, pass_nodes, filter_nodes, drop_idle}
use Rattle.rewrite_rules.specs.declared.rules.RuleName.{RuleName}
use Rattle.rewrite_rules.specs.declared.rules.RuleName.TheVariants as name

-- the rule of this name
abbrev pub rule_of : RuleName → Rule
rule_of name.DropIdentity = drop_identity
rule_of name.SplitConjunction = split_conjunction
rule_of name.DropTrue = drop_true
rule_of name.PassCompute = pass_compute
rule_of name.PassOrder = pass_order
rule_of name.PassGroups = pass_groups
rule_of name.PassRollup = pass_rollup
rule_of name.FilterBranches = filter_branches
rule_of name.FactorBranches = factor_branches
rule_of name.PassJoin = pass_join
rule_of name.FilterRelated = filter_related
rule_of name.PassOuterJoin = pass_outer_join
rule_of name.DropOrder = drop_order
rule_of name.JoinCounts = join_counts
rule_of name.PassTraverse = pass_traverse
rule_of name.PassNodes = pass_nodes
rule_of name.FilterNodes = filter_nodes
rule_of name.DropIdle = drop_idle
