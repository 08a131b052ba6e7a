use Rattle.std.proofs.Common.{subst, sym}
use Rattle.std.proofs.lemmas.Result.{on_ok_weaker}
use Rattle.aggregate_ops.specs.Partials.{IsDistinctOf}
use Rattle.aggregate_ops.proofs.AppendLemmas.{IsDistinctOf-append}
use Rattle.aggregate_ops.proofs.distincts.DistinctValuesPartial.merge.Goals as goal

pub returns-clause-merged : goal.returns-clause-merged
returns-clause-merged c = on_ok_weaker c.append.result (λ keys xs ys h k.
    IsDistinctOf-append _ _ _ xs ys keys (subst (λ s. IsDistinctOf s xs) (sym c.self.view_is) h) (subst (λ s. IsDistinctOf s ys) (sym c.later.view_is) k)) c.append.ensures.keys
