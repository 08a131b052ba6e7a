use Rattle.std.proofs.Common.{sym, subst}
use Rattle.std.proofs.lemmas.List.{map-append}
use Rattle.std.proofs.lemmas.Result.{on_ok_weaker}
use Rattle.edm_values.specs.declared.Value.{Value}
use Rattle.row_frames.specs.Folded.{own_ints}
use Rattle.row_frames.proofs.folded.OwnIntsPartial.merge.Goals as goal

pub returns-clause-merged : goal.returns-clause-merged
returns-clause-merged g c =
    on_ok_weaker c.merge.result (λ m xs ys h k.
    subst (λ t. g.P.Partial.stands_for c.merge.new.self t) (sym (map-append (λ x. (Value.Int x.0, x.1)) xs ys))
    (m (own_ints xs) (own_ints ys) h k)) c.merge.ensures.merged
