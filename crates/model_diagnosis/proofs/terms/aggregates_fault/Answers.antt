-- A custom aggregate that is no string.
use Rattle.std.proofs.Common.{ap, arith, length, rules}
use Rattle.edm_schema.specs.JsonTrees.{is_string}
use Rattle.edm_schema.specs.ModelTrees.{aggregate_term}
use Rattle.edm_schema.specs.MemberLists.{member_seen, tree_of}
use Rattle.model_diagnosis.proofs.Found.{some_seen}
use Rattle.model_diagnosis.proofs.Unbroken.{all_of_term}
use Rattle.model_diagnosis.proofs.terms.aggregates_fault.Goals as goal

pub returns-then-not-is_string-clause-found : goal.returns-then-not-is_string-clause-found
returns-then-not-is_string-clause-found c =
    let items = c.deref-member-items.ensures.value in
    λ d k. some_seen member_seen _ c.args.t.now.aggregates.items _ c.loop-member.member-index c.member-item.result c.requires.aggregates (rw items at c.loop-member-test.true) (rw items at c.member-item.is) (search rules)

pub returns-clause-none : goal.returns-clause-none
returns-clause-none c =
    all_of_term (λ m. is_string m.1) aggregate_term (tree_of c.args.t.now) c.args.t.now.aggregates.items c.loop-member.member-index c.requires.aggregates (omega (arith, c.deref-member-items.ensures.len, ap length c.deref-member-items.ensures.value)) c.loop-member.invariant
