-- On values of one kind the comparison is the order, and it is there for values that compare.
use Rattle.std.proofs.Common.{sym, ◌∙◌, ap}
use Rattle.std.specs.Prelude.{is_some}
use Rattle.edm_values.specs.Values.{seen_value}
use Rattle.edm_values.proofs.ValueLaws.{comparable_is, one_kind_agrees}
use Rattle.edm_values.proofs.comparison.compare.Goals as goal

pub returns-clause-found : goal.returns-clause-found
returns-clause-found c =
    let same = ap is_some c.order_by_kind.ensures ∙ comparable_is (seen_value c.args.a) (seen_value c.args.b) in
    (λ h. sym same ∙ h, λ h. same ∙ h)

pub returns-clause-order : goal.returns-clause-order
returns-clause-order c = λ h. c.order_by_kind.ensures ∙ one_kind_agrees (seen_value c.args.a) (seen_value c.args.b) h
