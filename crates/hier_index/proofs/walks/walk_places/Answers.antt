use Rattle.std.proofs.Common.{◌≡◌, ◌<◌, ℕ, List, length, slice_index, subst, sym, arith}
use Rattle.std.specs.List.Sorted.{IsPermutation}
use Rattle.edm_values.specs.Lists.{places}
use Rattle.edm_data.proofs.KeyedLemmas.{IfOk-then}
use Rattle.hier_index.specs.Walks.{StandAt}
use Rattle.hier_index.proofs.OnceLaws.{once_each}
use Rattle.hier_index.proofs.walks.walk_places.Goals as goal

pub places_in-requires-clause-small : goal.places_in-requires-clause-small
places_in-requires-clause-small c =
    let long = (once_each (length c.args.parents.now) c.in_ok-walked.walked.items c.in_ok-walked.ensures.once).0 in
    omega arith

pub places_in-requires-clause-once : goal.places_in-requires-clause-once
places_in-requires-clause-once c =
    let n = length c.args.parents.now in
    let Q : List ℕ → Type 0 = λ w. IsPermutation (places n) w in
    let moved = subst Q (sym c.deref.ensures.value) c.in_ok-walked.ensures.once in
    let long : length c.deref.result.now ≡ n = (once_each n c.deref.result.now moved).0 in
    let P : ℕ → Type 0 = λ n. IsPermutation (places n) c.deref.result.now in
    subst P (sym long) moved

pub returns : goal.returns
returns c =
    let n = length c.args.parents.now in
    let walked = c.in_ok-walked.walked.items in
    let long : length walked ≡ n = (once_each n walked c.in_ok-walked.ensures.once).0 in
    IfOk-then c.places_in.result _ _ (λ found back.
    let B : List ℕ → Type 0 = λ w. (k : ℕ) → k < length w → slice_index found.items (slice_index w k) ≡ k in
    let moved : B walked = subst B c.deref.ensures.value back in
    let P : List ℕ → Type 0 = λ w. StandAt n w found.items in
    subst P c.in_ok-walked.ensures.walk (record { once = c.in_ok-walked.ensures.once; back = λ k h. moved k (omega arith) }))
    c.places_in.ensures
