use Rattle.std.proofs.Common.{◌∙◌, ap}
use Rattle.std.proofs.Crossing.{crosses, frees}
use Rattle.std.proofs.MapsCrossing as maps
use denote.Param.Send.{sendable}
use Rattle.rayon.proofs.ListFacts.{IfOk-then}
use Rattle.rayon.proofs.ToStd.{slice-map}
use Rattle.edm_values.specs.Values.{seen_value}
use Rattle.row_values.proofs.aggregates.hashed_in_parts.Goals as goal

-- one line for each `Send` and `Sync`, and the allocator
pub collect-requires : goal.collect-requires
collect-requires g c κs =
    (search (sendable, crosses, maps.crosses) depth 40, (search (sendable, crosses, maps.crosses) depth 40, (search (sendable, crosses, maps.crosses) depth 40, (search (sendable, crosses, maps.crosses) depth 40, (search (sendable, crosses, maps.crosses) depth 40, (frees, λ k d lt x e. (tt, λ y p. tt)))))))

pub returns : goal.returns
returns g c =
    let slice = ap (λ it. it.base.slice.now) c.map.ensures.base ∙ ap (λ it. it.slice.now) c.with_min_len.ensures.base ∙ c.par_iter.ensures in
    IfOk-then c.collect.result _ _ c.collect.ensures (λ v h.
    h.2 ∙ slice-map h.1.0 c.args.values.now (h.1.1 ∙ slice) (λ v. seen_value v) h.0 h.1.2)
