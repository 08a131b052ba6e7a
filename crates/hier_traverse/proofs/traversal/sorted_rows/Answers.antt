use Rattle.std.proofs.Common.{ℕ, List, length, nat_cmp, refl, subst, rules}
use Rattle.std.specs.List.Sorted.{IsPermutation, IsStableByKey}
use Rattle.std.proofs.lemmas.Fn.{always_returns_same}
use Rattle.edm_data.specs.Hierarchies.{walk}
use Rattle.hier_traverse.proofs.PlaceLaws.{rows_by_place}
use Rattle.hier_traverse.specs.Rows.{row_key}
use Rattle.hier_traverse.proofs.traversal.sorted_rows.Goals as goal

pub returns : goal.returns
returns c postorder parents rank rows at =
    let place = c.args.places.now in
    let key : ℕ → ℕ = row_key place c.args.nodes.now in
    let sorted = c.sort_by_key.new.self.items in
    let Q : List ℕ → Type 0 = λ rows. IsPermutation rows sorted in
    let R : List ℕ → Type 0 = λ rows. IsStableByKey key nat_cmp rows sorted in
    rows_by_place (length parents) (walk postorder parents rank) place at c.args.nodes.now rows postorder parents rank sorted refl
    (subst Q c.in_ok-rows.ensures c.sort_by_key.ensures.permutation)
    (c.in_ok-sort_by_key.ensures.sorted key (always_returns_same _ _ _ (λ a r q k. search rules)))
    (subst R c.in_ok-rows.ensures (c.sort_by_key.ensures.stable key (always_returns_same _ _ _ (λ a r q k. search rules))))
