use Rattle.std.proofs.Common.{◌∙◌, ap, sym}
use Rattle.apply_meaning.specs.Meaning.{same_keys}
use Rattle.apply_meaning.proofs.InstanceOrders.{same_keys_tests}
use Rattle.aggregate_ops.specs.Numbers.{key_number}
use Rattle.aggregate_ops.proofs.SameLemmas.{other_number}
use Rattle.aggregate_ops.proofs.hashed.HashedKeyPartialEq.eq.Goals as goal

pub returns-else-self-other : goal.returns-else-self-other
returns-else-self-other c =
    let a = c.args.self.now in
    let b = c.args.other.now in
    other_number (same_keys a b) c.self.inside.number c.other.inside.number c.if-self-other.false
    (λ h. c.self.invariant.1 ∙ ap key_number (c.self.view_is ∙ same_keys_tests.same a b h ∙ sym c.other.view_is) ∙ sym c.other.invariant.1)
