use Rattle.std.proofs.Common.{◌∙◌, ap}
use Rattle.std.proofs.Crossing.{crosses, frees}
use Rattle.std.proofs.MapsCrossing as maps
use Rattle.std.proofs.lemmas.List.Sums.{AllPass-from_list_all}
use denote.Param.Send.{sendable}
use Rattle.rayon.proofs.ListFacts.{IfOk-then}
use Rattle.rayon.proofs.ToStd.{slice-map}
use Rattle.apply_ast.specs.Views.{expr_of}
use Rattle.apply_meaning.specs.Instances.{Instance, val}
use Rattle.apply_meaning.specs.RowViews.{is_of}
use Rattle.row_frames.specs.Answers.{answer_of}
use Rattle.row_frames.proofs.Sharing.{data-sync, expr-sync, row-sync}
use Rattle.row_values.proofs.filters.answers.Goals as goal

-- one line for each `Send` and `Sync`, the allocator, and then the closure's `requires` at each row
pub collect-requires : goal.collect-requires
collect-requires g c κs =
    let each = AllPass-from_list_all (is_of c.args.store.now) c.args.rows.now c.requires.of in
    (search (sendable, crosses, maps.crosses, row-sync, data-sync, expr-sync) depth 40, (search (sendable, crosses, maps.crosses, row-sync, data-sync, expr-sync) depth 40, (search (sendable, crosses, maps.crosses, row-sync, data-sync, expr-sync) depth 40, (search (sendable, crosses, maps.crosses, row-sync, data-sync, expr-sync) depth 40, (search (sendable, crosses, maps.crosses, row-sync, data-sync, expr-sync) depth 40, (frees, rw (c.map.ensures.base, c.map.ensures.f, c.with_min_len.ensures.base, c.par_iter.ensures) (λ k d lt x e. (rw e (each k d lt), λ y p. tt))))))))

pub returns : goal.returns
returns g c =
    let slice = ap (λ it. it.base.slice.now) c.map.ensures.base ∙ ap (λ it. it.slice.now) c.with_min_len.ensures.base ∙ c.par_iter.ensures in
    let told = λ (i : Instance). answer_of (val c.args.store.now i (expr_of c.args.e.now)) in
    IfOk-then c.collect.result _ _ c.collect.ensures (λ v h.
    let chain = rw c.map.ensures.f at h.1 in
    h.2 ∙ slice-map chain.0 c.args.rows.now (chain.1 ∙ slice) told h.0 chain.2)
