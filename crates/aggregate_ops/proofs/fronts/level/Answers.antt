use Rattle.std.proofs.Common.{◌≡◌, ◌∙◌, ◌<◌, [], length, map, take, subst, ap, sym, ℕ, List, All}
use Rattle.std.proofs.lemmas.List.{length-map}
use Rattle.std.proofs.lemmas.Result.{IfOk-weaker}
use Rattle.edm_values.specs.declared.Value.{Value}
use Rattle.par_stages.specs.Placed.{placed}
use Rattle.aggregate_ops.specs.KeyTables.{groups_of, places_of}
use Rattle.aggregate_ops.specs.Fronts.{AreGroupNumbers, AreGroupsOf, AreRowNumbers, filled, fronts_of, key_at}
use Rattle.aggregate_ops.proofs.FrontLemmas.{distinct-apart, merged, places-within, row-numbers-within}
use Rattle.aggregate_ops.proofs.fronts.level.Goals as goal

pub row_numbers-requires-clause-places : goal.row_numbers-requires-clause-places
row_numbers-requires-clause-places c = places-within c.args.rows c.requires.groups.0 c.args.groups.now c.requires.groups.1

pub put_rows-requires : goal.put_rows-requires
put_rows-requires c =
    let groups = c.args.groups.now in
    let fronts = fronts_of c.args.front groups in
    let keys = c.requires.groups.0 in
    let P : List ℕ → Type 0 = λ ns. AreGroupNumbers c.args.front groups fronts ns in
    let told = c.in_ok-numbers.ensures c.args.front keys fronts c.requires.groups.1 (subst P (sym c.deref.ensures.value) c.requires.fronts.told) in
    let begun : c.in_ok-begun.begun.items ≡ filled fronts [] = c.in_ok-begun.ensures ∙ ap (λ fs. filled (map (λ i. take c.args.front (key_at groups i)) fs) []) c.deref-2.ensures.value ∙ ap (λ fs. filled fs []) c.requires.fronts.are in
    let size : length c.in_ok-begun.begun.items ≡ length fronts = ap length begun ∙ length-map fronts (λ k. (k, places_of (placed 0 []) k)) in
    let Q : ℕ → Type 0 = λ n. All (λ j. j < n) c.deref-3.result.now in
    let R : List ℕ → Type 0 = λ ns. All (λ j. j < length fronts) ns in
    subst Q (sym size) (subst R (sym c.deref-3.ensures.value) (row-numbers-within c.args.front keys fronts c.in_ok-numbers.numbers.items told))

pub returns : goal.returns
returns c =
    let groups = c.args.groups.now in
    let fronts = fronts_of c.args.front groups in
    let P : List ℕ → Type 0 = λ ns. AreGroupNumbers c.args.front groups fronts ns in
    let numbers = subst P (sym c.deref.ensures.value) c.requires.fronts.told in
    let apart = distinct-apart (map (λ g. take c.args.front g.0) groups) in
    let begun : c.in_ok-begun.begun.items ≡ filled fronts [] = c.in_ok-begun.ensures ∙ ap (λ fs. filled (map (λ i. take c.args.front (key_at groups i)) fs) []) c.deref-2.ensures.value ∙ ap (λ fs. filled fs []) c.requires.fronts.are in
    IfOk-weaker c.put_rows.result _ (λ found. (keys : List (List Value)) → AreGroupsOf c.args.rows keys groups → found.items ≡ groups_of (placed 0 (map (take c.args.front) keys)))
    (λ found h keys are.
    let Q : List ℕ → Type 0 = λ ns. AreRowNumbers c.args.front keys fronts ns in
    let told = subst Q (sym c.deref-3.ensures.value) (c.in_ok-numbers.ensures c.args.front keys fronts are numbers) in
    h c.args.front keys fronts apart begun told
    ∙ merged c.args.front c.args.rows keys groups are)
    c.put_rows.ensures
