use Rattle.std.proofs.Common.{◌≡◌, ◌∙◌, ap, sym, subst, map, Some, Err, List, arith}
use Rattle.std.specs.List.Sorted.{IsSortedBy, IsStableBy}
use Rattle.std.proofs.lemmas.Result.{err_from_is_err_and}
use Rattle.apply_ast.specs.Views.{item_of}
use Rattle.apply_ast.specs.declared.items.OrderItem as code
use Rattle.apply_meaning.specs.Meaning.{order_values, refused_at_beyond}
use Rattle.row_orders.specs.Orders.{RankedPlace, before}
use Rattle.row_orders.specs.Ranks.{GivesNumbers, placed_from, ranks}
use Rattle.row_orders.proofs.OrderLemmas.{all-sure}
use Rattle.row_orders.proofs.RankLemmas.{moved-length, moved-places, ranks-are, ranks-refused}
use Rattle.row_orders.proofs.ranks.row_ranks.Goals as goal

pub returns-in_err-sorted : goal.returns-in_err-sorted
returns-in_err-sorted c =
    record {
      value = let w = c.args.store.now in
          let l = c.args.rows.now in
          let p = err_from_is_err_and c.from_residual.result c.from_residual.ensures.1 in
          rw (p.1, p.2) (subst (λ (is : List code.OrderItem). GivesNumbers (Err c.in_err-sorted.field-0.0) (refused_at_beyond (order_values w (map item_of is) l) (ranks w (map item_of is) l))) c.as_slice-items.ensures.value
          (ranks-refused c.in_err-sorted.field-0.0 w (map item_of c.as_slice-items.result.now) l _ c.in_err-sorted.ensures));
    }

pub sorted_ranks-requires : goal.sorted_ranks-requires
sorted_ranks-requires c =
    let w = c.args.store.now in
    let l = c.args.rows.now in
    let xs = map item_of c.as_slice-items.result.now in
    let ys = c.as_slice.result.now in
    let up : IsSortedBy (before xs) ys = subst (λ (zs : List RankedPlace). IsSortedBy (before xs) zs) (sym c.as_slice.ensures.value) c.in_ok-sorted.ensures.0 in
    let stable : IsStableBy (before xs) (placed_from w xs 0 l) ys = subst (λ (zs : List RankedPlace). IsStableBy (before xs) (placed_from w xs 0 l) zs) (sym c.as_slice.ensures.value) c.in_ok-sorted.ensures.1 in
    record {
      small = let size = moved-length w xs l ys up stable in omega (arith, size, c.requires.small);
      places = moved-places w xs l ys up stable;
      order = up;
    }

pub returns : goal.returns
returns c =
    record {
      value = let w = c.args.store.now in
          let l = c.args.rows.now in
          let xs = map item_of c.as_slice-items.result.now in
          let ys = c.as_slice.result.now in
          let found = c.in_ok-sorted_ranks.field-0.items in
          let up : IsSortedBy (before xs) ys = subst (λ (zs : List RankedPlace). IsSortedBy (before xs) zs) (sym c.as_slice.ensures.value) c.in_ok-sorted.ensures.0 in
          let stable : IsStableBy (before xs) (placed_from w xs 0 l) ys = subst (λ (zs : List RankedPlace). IsStableBy (before xs) (placed_from w xs 0 l) zs) (sym c.as_slice.ensures.value) c.in_ok-sorted.ensures.1 in
          let is : found ≡ ranks w xs l = ranks-are w xs l ys up stable found c.in_ok-sorted_ranks.ensures in
          subst (λ (items : List code.OrderItem). refused_at_beyond (order_values w (map item_of items) l) (ranks w (map item_of items) l) ≡ Some found) c.as_slice-items.ensures.value
          (all-sure w xs l (ranks w xs l) c.in_ok-sorted.ensures.2 ∙ ap Some (sym is));
    }
