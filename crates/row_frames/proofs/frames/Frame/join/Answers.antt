use Rattle.std.proofs.Common.{◌≡◌, ◌∙◌, ◌<◌, ap, sym, subst, length, map, true, List, ℕ}
use Rattle.std.specs.List.{All, AllZip, list_all}
use Rattle.std.specs.Global.{Vec}
use Rattle.std.proofs.lemmas.List.{length-map}
use Rattle.std.proofs.lemmas.List.Elements.{All-same, length_all_zip}
use Rattle.std.proofs.lemmas.Simd.{map-map}
use Rattle.join_concat.specs.Joins.{bound_rows, is_free_of}
use Rattle.row_frames.specs.declared.tables.Pick.{Pick}
use Rattle.row_frames.specs.Beside.{IsBeside, repeated}
use Rattle.row_frames.specs.Frames.{all_picked, picked}
use Rattle.row_frames.specs.Related.{placed}
use Rattle.row_frames.proofs.BesideLemmas.{beside-all, join-picked, repeated-within}
use Rattle.row_frames.proofs.frames.Frame.join.Goals as goal

pub rows_in_order-requires-clause-within : goal.rows_in_order-requires-clause-within
rows_in_order-requires-clause-within c =
    let n = length c.self.inside.tables.items in
    let xs = c.self.inside.picks in
    let lists = map (λ (l : Vec ℕ). l.items) c.args.inner.now in
    All-same (λ (x : Pick). x.table < n) c.of_list.result (repeated c.args.outer xs lists)
    (c.of_list.ensures ∙ c.in_ok-repeated.ensures ∙ ap (λ ys. repeated c.args.outer ys lists) (c.as_slice.ensures.value ∙ c.in_ok-list.ensures)) (repeated-within n c.args.outer xs lists c.self.invariant.1)

pub invariant_of-result : goal.invariant_of-result
invariant_of-result c =
    let z = c.in_ok-tables-2.ensures in (
      beside-all c.in_ok-prefix.prefix c.in_ok-tables.tables.items c.in_ok-tables-2.tables.items z c.in_ok-tables.ensures.tables,
      subst (λ n. All (λ (x : Pick). x.table < n) c.in_ok-tables.picks) (length_all_zip (IsBeside c.in_ok-prefix.prefix) c.in_ok-tables.tables.items c.in_ok-tables-2.tables.items z) c.in_ok-tables.ensures.within,
    )

pub returns : goal.returns
returns c =
    let ts = c.self.inside.tables.items in
    let xs = c.self.inside.picks in
    let a = c.args.alias.now in
    let s = c.args.set in
    let items : Vec ℕ → List ℕ = λ l. l.items in
    let lists = map items c.args.inner.now in
    let e : length lists ≡ length xs = length-map c.args.inner.now items ∙ c.requires.lists ∙ sym (ap length c.self.view_is) ∙ length-map xs (picked ts) in
    let free : list_all (is_free_of a) (all_picked ts xs) ≡ true = ap (list_all (is_free_of a)) c.self.view_is ∙ c.requires.free in
    let same = c.in_ok-tables.ensures.picked ∙ ap (all_picked ts) (c.of_list.ensures ∙ c.in_ok-repeated.ensures ∙ ap (λ ys. repeated c.args.outer ys lists) (c.as_slice.ensures.value ∙ c.in_ok-list.ensures)) in
    record {
      value = join-picked c.args.outer c.in_ok-prefix.prefix a s ts c.in_ok-tables.tables.items c.in_ok-tables-2.tables.items xs c.in_ok-tables.picks lists e free same
          c.in_ok-tables.ensures.order c.in_ok-tables.ensures.within c.in_ok-tables-2.ensures c.in_ok-prefix.ensures.path c.in_ok-prefix.ensures.set c.in_ok-prefix.ensures.places
          ∙ (λ i. bound_rows c.args.outer a (c.self.view_is i) (map-map (map (placed s)) items c.args.inner.now i));
    }
