use Rattle.std.proofs.Common.{◌∙◌, ap, sym}
use Rattle.edm_values.specs.OrderLaws.{same_value_is}
use Rattle.edm_values.specs.Values.{same_value}
use Rattle.aggregate_ops.specs.Numbers.{value_number}
use Rattle.aggregate_ops.proofs.SameLemmas.{other_number}
use Rattle.aggregate_ops.proofs.hashed.HashedValuePartialEq.eq.Goals as goal

pub returns-else-self-other : goal.returns-else-self-other
returns-else-self-other c =
    let a = c.args.self.now in
    let b = c.args.other.now in
    other_number (same_value a b) c.self.inside.number c.other.inside.number c.if-self-other.false
    (λ h. c.self.invariant ∙ ap value_number (c.self.view_is ∙ same_value_is a b h ∙ sym c.other.view_is) ∙ sym c.other.invariant)
