use Rattle.std.proofs.Common.{◌≡◌, ◌∙◌, ℕ, Bool, ap, arith, false, filter, get_or, length, option_map, slice_index_or, unwrap_or}
use Rattle.edm_values.specs.Lists.{places}
use Rattle.hier_rows.specs.Sources.{own_at}
use Rattle.hier_rows.proofs.PlacedLaws.{rows-there}
use Rattle.hier_rows.proofs.kept_places.own_marked.Goals as goal

pub returns : goal.returns
returns c =
    let ks = c.args.places.now in
    let test : ℕ → Bool = λ x. slice_index_or c.args.marks.now x false in
    let end : c.loop-k.k ≡ length ks = omega (arith, c.loop-k-test.false, c.loop-k.auto.k-end, c.len-k-end.ensures.value) in
    c.loop-k.invariant
    ∙ ap (λ n. filter (λ i. unwrap_or (option_map test (own_at c.args.count (get_or ks i 0))) false) (places n)) end
    ∙ rows-there test (own_at c.args.count) ks
