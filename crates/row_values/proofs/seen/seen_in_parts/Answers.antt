use Rattle.std.proofs.Common.{◌∙◌, ap, map}
use Rattle.std.proofs.Crossing.{crosses, frees}
use Rattle.std.proofs.MapsCrossing as maps
use denote.Param.Send.{sendable}
use Rattle.rayon.specs.Numbers.{nat_range}
use Rattle.rayon.proofs.ListFacts.{IfOk-then}
use Rattle.rayon.proofs.ToStd.{nat_range-All}
use Rattle.edm_values.specs.declared.Seen.{Seen}
use Rattle.edm_values.specs.Values.{seen_value}
use Rattle.row_values.specs.Readers.{CanRead, value_at}
use Rattle.row_values.proofs.ReaderLemmas.{reader-sync}
use Rattle.row_values.proofs.Zips.{zipped-seen}
use Rattle.row_values.proofs.seen.seen_in_parts.Goals as goal

-- one line for each `Send` and `Sync`, the allocator, and then the closure's `requires` at each number
pub collect-requires : goal.collect-requires
collect-requires g c κs =
    let each = nat_range-All (CanRead c.args.reader.now) 0 c.args.n (λ k low lt. c.requires.readable k lt) in
    (search (sendable, crosses, maps.crosses, reader-sync) depth 40, (search (sendable, crosses, maps.crosses) depth 40, (search (sendable, crosses, maps.crosses) depth 40, (search (sendable, crosses, maps.crosses) depth 40, (search (sendable, crosses, maps.crosses) depth 40, (frees, rw (c.map.ensures.base, c.map.ensures.f, c.with_min_len.ensures.base, c.into_par_iter.ensures.0, c.into_par_iter.ensures.1) (λ k d lt. (each k d lt, λ y p. tt))))))))

pub returns : goal.returns
returns g c =
    let value = λ (v : Seen). seen_value v in
    let own = ap (λ f. f.0.now) c.map.ensures.f in
    let start = ap (λ it. it.base.start) c.map.ensures.base ∙ ap (λ it. it.start) c.with_min_len.ensures.base ∙ c.into_par_iter.ensures.0 in
    let end = ap (λ it. it.base.end) c.map.ensures.base ∙ ap (λ it. it.end) c.with_min_len.ensures.base ∙ c.into_par_iter.ensures.1 in
    IfOk-then c.collect.result _ _ c.collect.ensures (λ v h.
    let numbers = h.1.1 ∙ (λ i. nat_range (start i) (end i)) in
    ap (map value) h.2 ∙ zipped-seen value (value_at c.map.result.f.0.now) h.1.0 h.0 h.1.2 ∙ (λ i. map (value_at (own i)) (numbers i)))
