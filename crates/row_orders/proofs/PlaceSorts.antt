-- Places sorted by the values of an item are the places of the instances in its order.
use Rattle.std.proofs.Common.{◌≡◌, ◌∙◌, ℕ, zero, suc, ◌+◌, List, [], ◌∷◌, length, map, drop, get_or, refl, sym, ap, true, false, arith}
use Rattle.std.specs.Prelude.{not, Some, None, Err, nat_lt}
use Rattle.std.specs.Bool.{then_some}
use Rattle.std.specs.List.{cons_option, list_all, list_any}
use Rattle.std.specs.List.Sorted.{IsSortedBy, IsStableBy}
use Rattle.std.proofs.lemmas.Bool.{and_from, and_parts, lt-ltb, ltb-true}
use Rattle.std.proofs.lemmas.List.{append-nil, length-map}
use Rattle.std.proofs.lemmas.List.Sorted.{ranks_by}
use Rattle.std.proofs.lemmas.Option.{slice_get-get_or}
use Rattle.edm_values.specs.declared.Value.{Value}
use Rattle.edm_values.specs.declared.refusals.Refused.{Refused}
use Rattle.edm_values.specs.declared.refusals.Refused.TheVariants.{Range, Memory}
use Rattle.edm_values.specs.Lists.{at_places, sorted}
use Rattle.edm_values.specs.Values.{is_beyond}
use Rattle.edm_values.proofs.ListFacts.{all-map, all-sorted}
use Rattle.edm_values.proofs.SortLaws.{stable_sort_is_sorted}
use Rattle.edm_values.proofs.SortedLists.{sorted-map}
use Rattle.edm_data.specs.Worlds.{World}
use Rattle.apply_ast.specs.Trees.{OrderItem}
use Rattle.apply_meaning.specs.Instances.{Instance, no_instance, val}
use Rattle.apply_meaning.specs.Meaning.{order_before, order_values, refused_at_beyond, values}
use Rattle.row_orders.specs.Orders.{RankedPlace, RankedRow, before, item_values, ranked}
use Rattle.row_orders.specs.Places.{ArePlacesInOrder, GivesNumbered, GivesOrder, numbered}
use Rattle.row_orders.proofs.OrderLemmas.{before-order, values-before, values_cmp_total}

-- ---- values with their places

drop-here : {X : Type 0} (l : List X) (n : ℕ) (d x : X) (rest : List X) → drop n l ≡ x ∷ rest → get_or l n d ≡ x
drop-here [] zero d x rest e = cc
drop-here [] (suc n) d x rest e = cc
drop-here (y ∷ l) zero d x rest e = cc
drop-here (y ∷ l) (suc n) d x rest e = drop-here l n d x rest e

drop-next : {X : Type 0} (l : List X) (n : ℕ) (x : X) (rest : List X) → drop n l ≡ x ∷ rest → drop (suc n) l ≡ rest
drop-next [] zero x rest e = cc
drop-next [] (suc n) x rest e = cc
drop-next (y ∷ l) zero x rest e = let s : l ≡ rest = cc in s
drop-next (y ∷ l) (suc n) x rest e = drop-next l n x rest e

-- a place's values with the instance there
abbrev with_instance : List Instance → RankedPlace → RankedRow
with_instance l r = (r.0, get_or l r.1 no_instance)

numbered-ranked : (w : World) (x : OrderItem) (all l : List Instance) (n : ℕ) → drop n all ≡ l → map (with_instance all) (numbered n (values w x.expr l)) ≡ map (ranked w (x ∷ [])) l
numbered-ranked w x all [] n e = refl
numbered-ranked w x all (i ∷ l) n e =
    λ k. (val w i x.expr ∷ [], drop-here all n no_instance i l e k) ∷ numbered-ranked w x all l (suc n) (drop-next all n i l e) k

numbered-within : (vs : List Value) (n m : ℕ) → n + length vs ≡ m → list_all (λ r. nat_lt r.1 m) (numbered n vs) ≡ true
numbered-within [] n m e = refl
numbered-within (v ∷ vs) n m e =
    and_from _ _ (lt-ltb n m (omega (arith, e))) (numbered-within vs (suc n) m (omega (arith, e)))

-- the instances at places
at-numbered : (l : List Instance) (ys : List RankedPlace) → list_all (λ (r : RankedPlace). nat_lt r.1 (length l)) ys ≡ true → at_places l (map (λ (r : RankedPlace). r.1) ys) ≡ map (λ (r : RankedPlace). get_or l r.1 no_instance) ys
at-numbered l [] h = refl
at-numbered l (r ∷ ys) h =
    let t = and_parts (nat_lt r.1 (length l)) (list_all (λ (y : RankedPlace). nat_lt y.1 (length l)) ys) h in
    ap (λ o. cons_option o (at_places l (map (λ (y : RankedPlace). y.1) ys))) (slice_get-get_or l r.1 no_instance (ltb-true r.1 (length l) t.0))
    ∙ ap (λ xs. get_or l r.1 no_instance ∷ xs) (at-numbered l ys t.1)

seconds : (l : List Instance) (ys : List RankedPlace) → map (λ (r : RankedPlace). get_or l r.1 no_instance) ys ≡ map (λ (x : RankedRow). x.1) (map (with_instance l) ys)
seconds l [] = refl
seconds l (y ∷ ys) = ap (λ xs. get_or l y.1 no_instance ∷ xs) (seconds l ys)

unranked : (w : World) (xs : List OrderItem) (l : List Instance) → map (λ (x : RankedRow). x.1) (map (ranked w xs) l) ≡ l
unranked w xs [] = refl
unranked w xs (i ∷ l) = ap (λ r. i ∷ r) (unranked w xs l)

-- ---- sorted

module _ (w : World) (x : OrderItem) (l : List Instance) (vs : List Value) (e : vs ≡ values w x.expr l) (zs ys : List RankedPlace) (numbers : zs ≡ numbered 0 vs)
    (up : IsSortedBy (before (x ∷ [])) ys) (stable : IsStableBy (before (x ∷ [])) zs ys) where
  is-sorted : sorted (before (x ∷ [])) zs ≡ ys
  is-sorted = stable_sort_is_sorted (before (x ∷ [])) (before-order (x ∷ [])) zs ys up stable

  long : 0 + length vs ≡ length l
  long = let s = ap length e ∙ length-map l (λ i. val w i x.expr) in omega (arith, s)

  within : list_all (λ r. nat_lt r.1 (length l)) ys ≡ true
  within =
      ap (list_all (λ (r : RankedPlace). nat_lt r.1 (length l))) (sym is-sorted)
      ∙ all-sorted (λ (r : RankedPlace). nat_lt r.1 (length l)) (before (x ∷ [])) zs (ap (list_all (λ (r : RankedPlace). nat_lt r.1 (length l))) numbers ∙ numbered-within vs 0 (length l) long)

  -- the places stand in the order of the instances
  pub places-order : at_places l (map (λ r. r.1) ys) ≡ sorted (order_before w (x ∷ [])) l
  places-order =
      let g = with_instance l in
      let o = before-order (x ∷ []) in
      at-numbered l ys within
      ∙ seconds l ys
      ∙ ap (λ (rs : List RankedPlace). map (λ (y : RankedRow). y.1) (map g rs)) (sym is-sorted)
      ∙ ap (map (λ (y : RankedRow). y.1)) (sym (sorted-map (before (x ∷ [])) g o (before-order (x ∷ [])) zs))
      ∙ ap (λ (rs : List RankedRow). map (λ (y : RankedRow). y.1) (sorted (before (x ∷ [])) rs)) (ap (map g) numbers ∙ ap (λ us. map g (numbered 0 us)) e ∙ numbered-ranked w x l l 0 refl)
      ∙ ap (map (λ (y : RankedRow). y.1)) (sorted-map (before (x ∷ [])) (ranked w (x ∷ [])) o (ranks_by (values_cmp_total (x ∷ [])) (item_values w (x ∷ []))) l)
      ∙ unranked w (x ∷ []) (sorted (λ i j. before (x ∷ []) (ranked w (x ∷ []) i) (ranked w (x ∷ []) j)) l)
      ∙ (λ k. sorted (λ i j. sym (values-before w (x ∷ []) i j) k) l)

-- places of values are places of their list
pub places-within : (vs : List Value) (x : OrderItem) (zs ys : List RankedPlace) → zs ≡ numbered 0 vs → IsSortedBy (before (x ∷ [])) ys → IsStableBy (before (x ∷ [])) zs ys → list_all (λ k. nat_lt k (length vs)) (map (λ r. r.1) ys) ≡ true
places-within vs x zs ys numbers up stable =
    let m = length vs in
    let first : 0 + length vs ≡ m = omega arith in
    all-map (λ (r : RankedPlace). nat_lt r.1 m) (λ k. nat_lt k m) (λ (r : RankedPlace). r.1) ys
    (ap (list_all (λ (r : RankedPlace). nat_lt r.1 m)) (sym (stable_sort_is_sorted (before (x ∷ [])) (before-order (x ∷ [])) zs ys up stable))
    ∙ all-sorted (λ (r : RankedPlace). nat_lt r.1 m) (before (x ∷ [])) zs (ap (list_all (λ (r : RankedPlace). nat_lt r.1 m)) numbers ∙ numbered-within vs 0 m first))
    (λ r h. h)

-- `Beyond` among the values of one item
pub item-sure : {A : Type 0} (w : World) (x : OrderItem) (l : List Instance) (vs : List Value) (r : A) → vs ≡ values w x.expr l → list_any is_beyond vs ≡ false → refused_at_beyond (order_values w (x ∷ []) l) r ≡ Some r
item-sure w x l vs r e h = ap (λ b. then_some (not b) r) (ap (list_any is_beyond) (append-nil (values w x.expr l) ∙ sym e) ∙ h)

pub item-refused : {A : Type 0} (w : World) (x : OrderItem) (l : List Instance) (vs : List Value) (r : A) → vs ≡ values w x.expr l → list_any is_beyond vs ≡ true → refused_at_beyond (order_values w (x ∷ []) l) r ≡ None
item-refused w x l vs r e h = ap (λ b. then_some (not b) r) (ap (list_any is_beyond) (append-nil (values w x.expr l) ∙ sym e) ∙ h)

pub order-refused : (e : Refused) (w : World) (x : OrderItem) (l : List Instance) (vs : List Value) (r : List Instance) → vs ≡ values w x.expr l → GivesNumbered (Err e) vs → GivesOrder (Err e) l (refused_at_beyond (order_values w (x ∷ []) l) r)
order-refused Range w x l vs r e h = item-refused w x l vs r e h
order-refused Memory w x l vs r e h = tt

-- places in order of values on instances are those of the instances in their order
pub ordered-places : (w : World) (x : OrderItem) (l : List Instance) (vs : List Value) (zs : List RankedPlace) (places : List ℕ)
    → vs ≡ values w x.expr l → zs ≡ numbered 0 vs → list_any is_beyond vs ≡ false → ArePlacesInOrder x zs places
    → refused_at_beyond (order_values w (x ∷ []) l) (sorted (order_before w (x ∷ [])) l) ≡ Some (at_places l places)
ordered-places w x l vs zs places e numbers sure o =
    item-sure w x l vs (sorted (order_before w (x ∷ [])) l) e sure
    ∙ ap Some (sym (places-order w x l vs e zs o.list numbers o.up o.stable))
    ∙ ap (λ ks. Some (at_places l ks)) (sym o.are)

-- and places of the list
pub ordered-within : (x : OrderItem) (vs : List Value) (zs : List RankedPlace) (places : List ℕ)
    → zs ≡ numbered 0 vs → ArePlacesInOrder x zs places → list_all (λ k. nat_lt k (length vs)) places ≡ true
ordered-within x vs zs places numbers o =
    ap (list_all (λ k. nat_lt k (length vs))) o.are ∙ places-within vs x zs o.list numbers o.up o.stable
