use Rattle.std.proofs.Common.{map}
use Rattle.edm_values.specs.Lists.{is_nonempty}
use Rattle.apply_ast.specs.Views.{step_of}
use Rattle.context_typing.specs.Readings.{readings}
use Rattle.rewrite_forms.specs.StepShapes.{shape_behind}
use Rattle.rewrite_rules.proofs.rules.at_place.Goals as goal

pub returns-in-DropIdentity-clause-value : goal.returns-in-DropIdentity-clause-value
returns-in-DropIdentity-clause-value c =
    rw c.in-DropIdentity.is (c.drop_identity.ensures.value c.args.m.now (readings c.args.c.now) (shape_behind c.args.m.now (readings c.args.c.now) c.args.start.now (map step_of c.args.before.now)))

pub returns-in-SplitConjunction-clause-value : goal.returns-in-SplitConjunction-clause-value
returns-in-SplitConjunction-clause-value c = rw c.in-SplitConjunction.is (c.split_conjunction.ensures.value (is_nonempty (map step_of c.args.before.now)))

pub returns-in-DropTrue-clause-value : goal.returns-in-DropTrue-clause-value
returns-in-DropTrue-clause-value c =
    rw c.in-DropTrue.is (c.drop_true.ensures.value c.args.m.now (readings c.args.c.now) (shape_behind c.args.m.now (readings c.args.c.now) c.args.start.now (map step_of c.args.before.now)) (is_nonempty (map step_of c.args.before.now)))

pub returns-in-PassCompute-clause-value : goal.returns-in-PassCompute-clause-value
returns-in-PassCompute-clause-value c = rw c.in-PassCompute.is (c.pass_compute.ensures.value (is_nonempty (map step_of c.args.before.now)))

pub returns-in-PassOrder-clause-value : goal.returns-in-PassOrder-clause-value
returns-in-PassOrder-clause-value c = rw c.in-PassOrder.is (c.pass_order.ensures.value (is_nonempty (map step_of c.args.before.now)))

pub returns-in-PassGroups-clause-value : goal.returns-in-PassGroups-clause-value
returns-in-PassGroups-clause-value c = rw c.in-PassGroups.is (c.pass_grouping.ensures.value (is_nonempty (map step_of c.args.before.now)))

pub returns-in-PassRollup-clause-value : goal.returns-in-PassRollup-clause-value
returns-in-PassRollup-clause-value c = rw c.in-PassRollup.is (c.pass_grouping-in-PassRollup.ensures.value (is_nonempty (map step_of c.args.before.now)))

pub returns-in-FilterBranches-clause-value : goal.returns-in-FilterBranches-clause-value
returns-in-FilterBranches-clause-value c = rw c.in-FilterBranches.is (c.filter_branches.ensures.value (is_nonempty (map step_of c.args.before.now)))

pub returns-in-FactorBranches-clause-value : goal.returns-in-FactorBranches-clause-value
returns-in-FactorBranches-clause-value c =
    rw c.in-FactorBranches.is (c.factor_branches.ensures.value c.args.m.now (readings c.args.c.now) (shape_behind c.args.m.now (readings c.args.c.now) c.args.start.now (map step_of c.args.before.now)) (is_nonempty (map step_of c.args.before.now)))

pub returns-in-PassJoin-clause-value : goal.returns-in-PassJoin-clause-value
returns-in-PassJoin-clause-value c = rw c.in-PassJoin.is (c.pass_join.ensures.value (is_nonempty (map step_of c.args.before.now)))

pub returns-in-FilterRelated-clause-value : goal.returns-in-FilterRelated-clause-value
returns-in-FilterRelated-clause-value c = rw c.in-FilterRelated.is (c.filter_related.ensures.value (is_nonempty (map step_of c.args.before.now)))

pub returns-in-PassOuterJoin-clause-value : goal.returns-in-PassOuterJoin-clause-value
returns-in-PassOuterJoin-clause-value c = rw c.in-PassOuterJoin.is (c.pass_outer_join.ensures.value (is_nonempty (map step_of c.args.before.now)))

pub returns-in-DropOrder-clause-value : goal.returns-in-DropOrder-clause-value
returns-in-DropOrder-clause-value c = rw c.in-DropOrder.is (c.drop_order.ensures.value (is_nonempty (map step_of c.args.before.now)))

pub returns-in-JoinCounts-clause-value : goal.returns-in-JoinCounts-clause-value
returns-in-JoinCounts-clause-value c =
    rw c.in-JoinCounts.is (c.join_counts.ensures.value c.args.m.now (readings c.args.c.now) (shape_behind c.args.m.now (readings c.args.c.now) c.args.start.now (map step_of c.args.before.now)) (is_nonempty (map step_of c.args.before.now)))

pub returns-in-PassTraverse-clause-value : goal.returns-in-PassTraverse-clause-value
returns-in-PassTraverse-clause-value c = rw c.in-PassTraverse.is (c.pass_traverse.ensures.value (is_nonempty (map step_of c.args.before.now)))

pub returns-in-PassNodes-clause-value : goal.returns-in-PassNodes-clause-value
returns-in-PassNodes-clause-value c = rw c.in-PassNodes.is (c.pass_grouping-in-PassNodes.ensures.value (is_nonempty (map step_of c.args.before.now)))

pub returns-in-FilterNodes-clause-value : goal.returns-in-FilterNodes-clause-value
returns-in-FilterNodes-clause-value c = rw c.in-FilterNodes.is (c.filter_nodes.ensures.value (is_nonempty (map step_of c.args.before.now)))

pub returns-in-DropIdle-clause-value : goal.returns-in-DropIdle-clause-value
returns-in-DropIdle-clause-value c = rw c.in-DropIdle.is (c.drop_idle.ensures.value (is_nonempty (map step_of c.args.before.now)))
