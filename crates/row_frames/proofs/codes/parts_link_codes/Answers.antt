use Rattle.std.proofs.Common.{◌∙◌, ◌+◌, ap}
use Rattle.std.proofs.Crossing.{crosses, frees}
use Rattle.std.proofs.MapsCrossing as maps
use denote.Param.Send.{sendable}
use Rattle.rayon.proofs.ListFacts.{IfOk-then}
use Rattle.rayon.proofs.ToStd.{slice-AllZip}
use Rattle.row_frames.specs.CodeParts.{MadeCodes}
use Rattle.row_frames.specs.LinkCodes.{IsLinkCode}
use Rattle.row_frames.proofs.ReaderSharing.{links-sync, part-sync, table-sync}
use Rattle.row_frames.specs.Runs.{part_rows}
use Rattle.row_frames.specs.declared.picks.Part.{Part}
use Rattle.row_frames.proofs.codes.parts_link_codes.Goals as goal

-- one line for each `Send` and `Sync`, the allocator, and then the closure's `requires` at each part
pub collect-requires : goal.collect-requires
collect-requires g c κs =
    (search (sendable, crosses, maps.crosses, links-sync, part-sync, table-sync) depth 40, (search (sendable, crosses, maps.crosses) depth 40, (search (sendable, crosses, maps.crosses) depth 40, (search (sendable, crosses, maps.crosses) depth 40, (search (sendable, crosses, maps.crosses) depth 40, (frees, rw (c.map.ensures.base, c.map.ensures.f, c.with_min_len.ensures.base, c.par_iter.ensures) (λ k (d : Part) lt x e. ((c.requires.0, rw e (c.requires.1 k d lt)), λ y p. tt))))))))

pub returns : goal.returns
returns g c =
    let slice = ap (λ it. it.base.slice.now) c.map.ensures.base ∙ ap (λ it. it.slice.now) c.with_min_len.ensures.base ∙ c.par_iter.ensures in
    IfOk-then c.collect.result _ _ c.collect.ensures (λ v h.
    let chain = rw c.map.ensures.f at h.1 in
    rw h.2 (slice-AllZip chain.0 c.args.parts.now (chain.1 ∙ slice) (λ (p : Part) r. MadeCodes (IsLinkCode c.args.tables.now c.args.links.now) (c.args.count + 1) (part_rows p) r) h.0 chain.2))
