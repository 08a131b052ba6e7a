use Rattle.std.proofs.Common.{◌≡◌, ◌∙◌, ap, arith, max}
use Rattle.rayon.specs.Lists.{chunks_of, chunks_size, chunks_slice}
use Rattle.rayon.proofs.ListFacts.{IfOk-then}
use Rattle.rayon.proofs.ToStd.{slice-AllZip}
use Rattle.top_family.specs.Rankings.{GivesFirstOf}
use Rattle.top_family.specs.Selections.{seen_values}
use Rattle.top_family.proofs.parts.first_of_parts.Goals as goal

pub returns : goal.returns
returns g c =
    let some = c.requires.some in
    let len : max c.args.len 1 ≡ c.args.len = omega (arith, some) in
    let parts = ap (λ it. chunks_of (max (chunks_size it) 1) (chunks_slice it)) c.map.ensures.base
    ∙ (λ i. chunks_of (max (c.par_chunks.ensures.size i) 1) (c.par_chunks.ensures.slice i))
    ∙ ap (λ n. chunks_of n c.args.places.now) len in
    IfOk-then c.collect.result _ _ c.collect.ensures (λ v h.
    let chain = rw c.map.ensures.f at h.1 in
    rw h.2 (slice-AllZip chain.0 (chunks_of c.args.len c.args.places.now) (chain.1 ∙ parts) (λ part r. GivesFirstOf c.args.n c.args.bottom (seen_values c.args.values.now) part r) h.0 chain.2))
