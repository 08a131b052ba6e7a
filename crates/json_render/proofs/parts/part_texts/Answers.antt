use Rattle.std.proofs.Common.{◌∙◌, ap}
use Rattle.std.proofs.Crossing.{crosses, frees}
use Rattle.std.proofs.MapsCrossing as maps
use denote.Param.Send.{sendable}
use Rattle.rayon.proofs.ListFacts.{IfOk-then}
use Rattle.rayon.proofs.ToStd.{slice-AllZip}
use Rattle.json_render.specs.PartTexts.{IsPartText}
use Rattle.json_render.proofs.Sharing.{data-sync, rows-sync, shape-sync}
use Rattle.json_render.proofs.parts.part_texts.Goals as goal

-- one line for each `Send` and `Sync`, the allocator, and then the closure's `requires` at each part
pub collect-requires : goal.collect-requires
collect-requires g c κs =
    let each = c.requires.fit in
    (search (sendable, crosses, maps.crosses, rows-sync, data-sync, shape-sync) depth 40, (search (sendable, crosses, maps.crosses) depth 40, (search (sendable, crosses, maps.crosses) depth 40, (search (sendable, crosses, maps.crosses) depth 40, (search (sendable, crosses, maps.crosses) depth 40, (frees, rw (c.map.ensures.base, c.map.ensures.f, c.with_min_len.ensures.base, c.par_iter.ensures) (λ k d lt x e. (rw e (each k d lt), λ y p. tt))))))))

pub returns : goal.returns
returns g c =
    let w = c.args.store.now in
    let s = c.args.shape.now in
    let slice = ap (λ it. it.base.slice.now) c.map.ensures.base ∙ ap (λ it. it.slice.now) c.with_min_len.ensures.base ∙ c.par_iter.ensures in
    IfOk-then c.collect.result _ _ c.collect.ensures (λ v h.
    let chain = rw c.map.ensures.f at h.1 in
    rw h.2 (slice-AllZip chain.0 c.args.parts.now (chain.1 ∙ slice) (IsPartText w s) h.0 chain.2))
