use Rattle.std.proofs.Common.{◌∙◌, List, ap, subst, sym}
use Rattle.std.specs.List.{AllZip}
use Rattle.std.specs.Prelude.{IfOk}
use Rattle.std.proofs.Crossing.{crosses, frees}
use Rattle.std.proofs.MapsCrossing as maps
use denote.Param.Send.{sendable}
use Rattle.rayon.proofs.ListFacts.{IfOk-then}
use Rattle.rayon.proofs.ToStd.{slice-AllZip}
use Rattle.row_frames.specs.Frames.{AreRead}
use Rattle.row_frames.specs.Runs.{part_rows}
use Rattle.row_frames.specs.declared.picks.Part.{Part}
use Rattle.row_frames.specs.declared.readers.TableReader.{TableReader}
use Rattle.row_frames.proofs.ReaderSharing.{part-sync, reader-sync}
use Rattle.row_frames.proofs.seen.values_in_parts.Goals as goal

-- one line for each `Send` and `Sync`, the allocator, and then the closure's `requires` at each part
pub collect-requires : goal.collect-requires
collect-requires g c κs =
    let each = c.requires in
    (search (sendable, crosses, maps.crosses, reader-sync, part-sync) depth 40, (search (sendable, crosses, maps.crosses) depth 40, (search (sendable, crosses, maps.crosses) depth 40, (search (sendable, crosses, maps.crosses) depth 40, (search (sendable, crosses, maps.crosses) depth 40, (frees, rw (c.map.ensures.base, c.map.ensures.f, c.with_min_len.ensures.base, c.par_iter.ensures) (λ k d lt x e. (rw e (each k d lt), λ y p. tt))))))))

pub returns : goal.returns
returns g c =
    let slice = ap (λ it. it.base.slice.now) c.map.ensures.base ∙ ap (λ it. it.slice.now) c.with_min_len.ensures.base ∙ c.par_iter.ensures in
    IfOk-then c.collect.result _ _ c.collect.ensures (λ v h.
    let chain = h.1 in
    let each = slice-AllZip chain.0 c.args.parts.now (chain.1 ∙ slice) (λ (p : Part) r. IfOk r (λ vs. AreRead c.map.result.f.1.now (part_rows p) vs.items)) h.0 chain.2 in
    let own = ap (λ f. f.1.now) c.map.ensures.f in
    subst (λ rs. AllZip (λ (p : Part) r. IfOk r (λ vs. AreRead c.args.readers.now (part_rows p) vs.items)) c.args.parts.now rs) (sym h.2)
    (subst (λ (rd : List TableReader). AllZip (λ (p : Part) r. IfOk r (λ vs. AreRead rd (part_rows p) vs.items)) c.args.parts.now h.0) own each))
