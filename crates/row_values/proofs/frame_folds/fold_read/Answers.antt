use Rattle.std.proofs.Common.{subst, sym}
use Rattle.row_values.specs.GroupFolds.{ArePartialsBy}
use Rattle.row_values.proofs.frame_folds.fold_read.Goals as goal

pub returns : goal.returns
returns g c =
    let own = subst (ArePartialsBy g.P.Partial.kind g.P.Partial.stands_for c.args.values.now c.args.numbers.now c.args.count) (sym c.as_slice.ensures.value) c.in_ok-own.ensures in
    c.in_ok-found.ensures c.args.values.now c.args.numbers.now c.args.count own
