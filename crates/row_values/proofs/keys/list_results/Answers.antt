use Rattle.std.proofs.Common.{◌≡◌, ◌∙◌, ap}
use Rattle.std.specs.Prelude.{IfOk}
use Rattle.std.proofs.Crossing.{crosses, frees}
use Rattle.std.proofs.MapsCrossing as maps
use Rattle.std.proofs.lemmas.List.Sums.{AllPass-from_list_all}
use denote.Param.Send.{sendable}
use Rattle.rayon.proofs.ListFacts.{IfOk-then}
use Rattle.rayon.proofs.ToStd.{slice-AllZip}
use Rattle.apply_meaning.specs.Meaning.{key_list}
use Rattle.apply_meaning.specs.RowViews.{is_of}
use Rattle.row_frames.proofs.Sharing.{data-sync, path-sync, row-sync}
use Rattle.row_values.proofs.keys.list_results.Goals as goal

-- one line for each `Send` and `Sync`, the allocator, and then the closure's `requires` at each row
pub collect-requires : goal.collect-requires
collect-requires g c κs =
    let each = AllPass-from_list_all (is_of c.args.store.now) c.args.rows.now c.requires.of in
    (search (sendable, crosses, maps.crosses, row-sync, data-sync, path-sync) depth 40, (search (sendable, crosses, maps.crosses, row-sync, data-sync, path-sync) depth 40, (search (sendable, crosses, maps.crosses, row-sync, data-sync, path-sync) depth 40, (search (sendable, crosses, maps.crosses, row-sync, data-sync, path-sync) depth 40, (search (sendable, crosses, maps.crosses, row-sync, data-sync, path-sync) depth 40, (frees, rw (c.map.ensures.base, c.map.ensures.f, c.with_min_len.ensures.base, c.par_iter.ensures) (λ k d lt x e. (rw e (each k d lt), λ y p. tt))))))))

pub returns : goal.returns
returns g c =
    let w = c.args.store.now in
    let slice = ap (λ it. it.base.slice.now) c.map.ensures.base ∙ ap (λ it. it.slice.now) c.with_min_len.ensures.base ∙ c.par_iter.ensures in
    IfOk-then c.collect.result _ _ c.collect.ensures (λ v h.
    let chain = rw c.map.ensures.f at h.1 in
    rw h.2 (slice-AllZip chain.0 c.args.rows.now (chain.1 ∙ slice) (λ i r. IfOk r (λ key. key.items ≡ key_list w c.args.paths.now i)) h.0 chain.2))
