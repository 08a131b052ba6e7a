-- The places that a traversal lists: they are those of the nodes of the instances by the ranks of the nodes, and the instances there are what the traversal means.
use Rattle.std.proofs.Common.{◌≡◌, ℕ, refl, sym, ◌∙◌, ap, Bool, true, false, not, List, [], ◌∷◌, ◌++◌, length, map, replicate, Option, Some, None, Err, arith}
use Rattle.std.specs.Prelude.{◌==◌, count_by, nat_eq, nat_lt, option_map}
use Rattle.std.specs.Bool.{then_some}
use Rattle.std.specs.List.{list_all, list_any}
use Rattle.std.proofs.lemmas.Bool.{eqb-true, not-true, or_right}
use Rattle.std.proofs.lemmas.List.Folds.{list_any-append}
use Rattle.edm_values.proofs.ListFacts.{all-any, all-filter, all-flat_map, none-append}
use Rattle.edm_values.proofs.OptionFacts.{none_or, then_some-parts}
use Rattle.edm_values.proofs.PlaceFacts.{places-within}
use Rattle.edm_values.specs.declared.Value.{Value}
use Rattle.edm_values.specs.declared.refusals.Refused.{Refused}
use Rattle.edm_values.specs.declared.refusals.Refused.TheVariants.{Range, Memory}
use Rattle.edm_values.specs.Lists.{at_places, places}
use Rattle.edm_values.specs.Values.{is_beyond}
use Rattle.edm_model.specs.LookUps.{HierarchyPlace}
use Rattle.edm_data.specs.Hierarchies.{rows_whose, traversed_rows, walk}
use Rattle.edm_data.specs.References.{count}
use Rattle.edm_data.specs.Worlds.{World}
use Rattle.apply_ast.specs.Trees.{TraverseStep}
use Rattle.apply_ast.specs.Views.{item_of}
use Rattle.apply_ast.specs.declared.items.OrderItem as of_item
use Rattle.apply_meaning.specs.Instances.{Instance, lookup, rows}
use Rattle.apply_meaning.specs.Meaning.{node, node_ranks, order_values, refused_at_beyond, traversed}
use Rattle.row_orders.specs.Ranks.{GivesNumbers, ranks}
use Rattle.hier_rows.specs.HierRows.{IsNodesOf, node_in, path_values, traverse_outcome, traversed_places}
use Rattle.hier_rows.proofs.ClimbLaws.{refused-mapped}
use Rattle.hier_rows.proofs.NodeLaws.{nodes-are, not-refused}
use Rattle.apply_meaning.proofs.SetLemmas.{rows-length}

-- ---- ranks

counts-none : {X : Type 0} (xs : List X) → count_by (λ x. false) xs ≡ 0
counts-none [] = refl
counts-none (x ∷ xs) = counts-none xs

each-same : {X Y : Type 0} (f : X → Y) (y : Y) (xs : List X) → ((x : X) → f x ≡ y) → map f xs ≡ replicate (length xs) y
each-same f y [] h = refl
each-same f y (x ∷ xs) h = λ i. h x i ∷ each-same f y xs h i

-- without items each rank is 0
pub ranks-none : (w : World) (s : ℕ) → ranks w [] (rows w s) ≡ replicate (count w s) 0
ranks-none w s = each-same _ 0 (rows w s) (λ i. counts-none (rows w s)) ∙ ap (λ n. replicate n 0) (rows-length w s)

-- a list that is_empty answers of
nothing-is : {X : Type 0} (xs : List X) → (length xs == 0) ≡ true → xs ≡ []
nothing-is [] h = refl
nothing-is (x ∷ xs) h = let e = eqb-true (length (x ∷ xs)) 0 h in absurd (omega (arith, e))

-- and so they are of a list of items that is empty
pub ranks-empty : (w : World) (s : ℕ) (items : List of_item.OrderItem) (zeros : List ℕ) → (length items == 0) ≡ true → zeros ≡ replicate (count w s) 0
    → refused_at_beyond (order_values w (map item_of items) (rows w s)) (ranks w (map item_of items) (rows w s)) ≡ Some zeros
ranks-empty w s items zeros e z =
    ap (λ is. refused_at_beyond (order_values w (map item_of is) (rows w s)) (ranks w (map item_of is) (rows w s))) (nothing-is items e)
    ∙ ap (λ x. Some x) (ranks-none w s ∙ sym z)

-- ---- places

-- the rows that are listed are rows
pub traversed-within : (post : Bool) (parents : List (Option ℕ)) (rank : List ℕ) (nodes : List (Option ℕ)) (n : ℕ) → length nodes ≡ n → list_all (λ k. nat_lt k n) (traversed_rows post parents rank nodes) ≡ true
traversed-within post parents rank nodes n e =
    all-flat_map (λ x. true) (λ k. nat_lt k n) (λ x. rows_whose (nat_eq x) nodes) (walk post parents rank) (all-any (λ x. true) (walk post parents rank) (λ x. refl))
    (λ x h. all-filter (λ k. nat_lt k n) _ (places (length nodes)) (places-within n (length nodes) (omega (arith, e))))

-- ---- the value of a traversal

-- where something is refused, a value is Beyond
refused-beyond : {X : Type 0} (beyond : Bool) (x : X) → then_some (not beyond) x ≡ None → beyond ≡ true
refused-beyond true x e = refl
refused-beyond false x e = none_or x (sym e)

module _ (w : World) (f : HierarchyPlace) (t : TraverseStep) (l : List Instance) where
  abbrev all-values : List Value
  all-values = path_values w t.path l ++ order_values w t.items (rows w f.set)

  -- the places that are listed of the nodes of the instances, by the ranks of the nodes
  pub traverse-gives : (s : ℕ) (parents own : List (Option ℕ)) (rank ks : List ℕ) → IsNodesOf w f s parents → own ≡ map (node_in w s t.path) l → list_any is_beyond (path_values w t.path l) ≡ false
      → refused_at_beyond (order_values w t.items (rows w s)) (ranks w t.items (rows w s)) ≡ Some rank → ks ≡ traversed_rows t.post parents rank own → traverse_outcome w f t l ≡ Some ks
  traverse-gives s parents own rank ks N o quiet-own r k =
      let items = then_some-parts (not (list_any is_beyond (order_values w t.items (rows w s)))) (ranks w t.items (rows w s)) rank r in
      let quiet-items : list_any is_beyond (order_values w t.items (rows w f.set)) ≡ false = ap (λ s. list_any is_beyond (order_values w t.items (rows w s))) (sym N.0) ∙ not-true _ items.0 in
      let rank-is : rank ≡ node_ranks w f t.items = sym items.1 ∙ ap (λ s. ranks w t.items (rows w s)) N.0 in
      let own-is : own ≡ map (node w f t.path) l = o ∙ nodes-are w f s t.path l N.0 in
      not-refused all-values _ (none-append is_beyond (path_values w t.path l) (order_values w t.items (rows w f.set)) quiet-own quiet-items)
      ∙ sym (ap (λ z. Some z) (k ∙ (λ i. traversed_rows t.post (N.1 i) (rank-is i) (own-is i))))

  -- where the ranks of the nodes are refused, so is the traversal
  pub traverse-refused : (e : Refused) (s : ℕ) (parents : List (Option ℕ)) (rank : List ℕ) → IsNodesOf w f s parents → GivesNumbers (Err e) (refused_at_beyond (order_values w t.items (rows w s)) rank) → GivesNumbers (Err e) (traverse_outcome w f t l)
  traverse-refused Range s parents rank N h =
      let item : list_any is_beyond (order_values w t.items (rows w f.set)) ≡ true = ap (λ s. list_any is_beyond (order_values w t.items (rows w s))) (sym N.0) ∙ refused-beyond _ rank h in
      ap (λ beyond. then_some (not beyond) (traversed_places w f t l)) (list_any-append is_beyond (path_values w t.path l) (order_values w t.items (rows w f.set)) ∙ or_right _ _ item)
  traverse-refused Memory s parents rank N h = tt

-- what a traversal means is the instances at the places that are listed
pub traverse-mean : (w : World) (f : HierarchyPlace) (t : TraverseStep) (l : List Instance)
    → refused_at_beyond (map (λ i. lookup w i t.path) l ++ order_values w t.items (rows w f.set)) (traversed w f t l) ≡ option_map (at_places l) (traverse_outcome w f t l)
traverse-mean w f t l = refused-mapped (at_places l) (path_values w t.path l ++ order_values w t.items (rows w f.set)) _
