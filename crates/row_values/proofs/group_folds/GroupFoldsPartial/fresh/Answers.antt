use Rattle.std.proofs.Common.{[], ◌∙◌, sym, arith}
use Rattle.row_values.proofs.group_folds.GroupFoldsPartial.fresh.Goals as goal

pub invariant_of-result : goal.invariant_of-result
invariant_of-result g c = (
  omega arith,
  λ k d lt. record {
    kind_is = c.loop-k.invariant.kind k d lt ∙ sym c.in_ok-fresh-2.ensures.kind;
    list = [];
    stands = c.loop-k.invariant.stands k d lt;
    few = omega arith;
  },
)
