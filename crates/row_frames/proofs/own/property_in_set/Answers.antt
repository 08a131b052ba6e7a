use Rattle.std.proofs.Common.{subst}
use Rattle.row_frames.specs.Own.{IsOwn}
use Rattle.row_frames.proofs.own.property_in_set.Goals as goal

pub returns-in-Some-clause-value : goal.returns-in-Some-clause-value
returns-in-Some-clause-value c = λ k.
    subst (IsOwn c.args.store.now c.args.path.now c.in-Some.found.0 c.in-Some.found.1.at) (c.set_table-table.ensures.rows k) (c.in-Some.ensures.value k)
