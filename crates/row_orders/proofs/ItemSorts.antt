-- Rows sorted by one item after another, from the last to the first, are in the order of all.
use Rattle.std.proofs.Common.{Bor, ◌≡◌, ℕ, zero, suc, ◌+◌, Bool, true, false, cond, List, [], ◌∷◌, length, map, filter, drop, get_or, IsTrue, refl, sym, ◌∙◌, ap, subst, arith, drop-cons}
use Rattle.std.specs.Prelude.{not, ◌&&◌, ◌||◌, Some, None, Err}
use Rattle.std.specs.Bool.{then_some}
use Rattle.std.specs.Fn.{Called}
use Rattle.std.specs.List.{list_any}
use Rattle.std.specs.List.Sorted.{IsSortedBy, IsSortedByClosure, IsStableBy, IsStableByClosure, ties}
use Rattle.std.specs.Cmp.{IsStrictWeakOrder, IsTotalOrder}
use Rattle.std.specs.Ordering.{is_lt, ordering_then, ordering_reverse}
use Rattle.std.specs.declared.cmp.Ordering.{Ordering}
use Rattle.std.specs.declared.cmp.Ordering.TheVariants.{Less, Equal, Greater}
use Rattle.std.proofs.lemmas.Bool.{true≢false}
use Rattle.std.proofs.lemmas.Cmp.{on_total, then_total, tied_itself}
use Rattle.std.proofs.lemmas.List.{drop_all}
use Rattle.std.proofs.lemmas.List.Folds.{list_any-append}
use Rattle.std.proofs.lemmas.List.Sorted.{ranks_by}
use denote.Param.Members.{Mut}
use Rattle.edm_data.specs.Worlds.{World}
use Rattle.edm_values.specs.declared.Value.{Value}
use Rattle.edm_values.specs.declared.refusals.Refused.{Refused}
use Rattle.edm_values.specs.declared.refusals.Refused.TheVariants.{Range, Memory}
use Rattle.edm_values.specs.Lists.{sorted}
use Rattle.edm_values.specs.Values.{is_beyond}
use Rattle.edm_values.proofs.EachLemmas.{Each, none_is_not_some}
use Rattle.edm_values.proofs.Reorderings.{Reorders, all-reorders, any-reorders}
use Rattle.edm_values.proofs.SortedLists.{Ascends, filter-sorted, sorted-ascends, sorted-stable, sorted-unique}
use Rattle.apply_ast.specs.Trees.{OrderItem}
use Rattle.apply_ast.specs.Views.{item_of}
use Rattle.apply_ast.specs.declared.items.OrderItem as code
use Rattle.apply_meaning.proofs.InstanceOrders.{order_before_order, reorders-ordered_by}
use Rattle.apply_meaning.specs.Instances.{Instance, val}
use Rattle.apply_meaning.specs.Meaning.{order_before, order_values, refused_at_beyond}
use Rattle.apply_meaning.specs.RowViews.{is_of}
use Rattle.apply_meaning.specs.Running.{Gives, all_of}
use Rattle.row_orders.proofs.OrderLemmas.{beyond-values, item_cmp_total, sorted-by_values, values-before, values_cmp_total}
use Rattle.row_orders.specs.Orders.{before, first_value, has_beyond, item_cmp, item_values, values_cmp}

-- ---- a sort by a second order and then by a first

module _ {X : Type 0} (first second : X → X → Ordering) (o : IsTotalOrder first) (p : IsTotalOrder second) where
  abbrev by_first : X → X → Bool
  by_first a b = is_lt (first a b)

  abbrev by_second : X → X → Bool
  by_second a b = is_lt (second a b)

  abbrev by_both : X → X → Bool
  by_both a b = is_lt (ordering_then (first a b) (second a b))

  first-order : IsStrictWeakOrder by_first
  first-order = ranks_by o (λ x. x)

  second-order : IsStrictWeakOrder by_second
  second-order = ranks_by p (λ x. x)

  both-order : IsStrictWeakOrder by_both
  both-order = ranks_by (then_total o p) (λ x. x)

  ties_itself : (x : X) → ties by_first x x ≡ true
  ties_itself x = let e = tied_itself o x in λ i. not (is_lt (e i)) && not (is_lt (e i))

  -- an element that is not less by the first, nor by the second where they tie, is not less by both
  not_less : (x y : X) → by_first y x ≡ false → (ties by_first x y ≡ true → by_second y x ≡ false) → by_both y x ≡ false
  not_less x y h f = go (first y x) (first x y) (o.antisymm x y) h f
    where
      go : (r s : Ordering) → s ≡ ordering_reverse r → is_lt r ≡ false → ((not (is_lt s) && not (is_lt r)) ≡ true → by_second y x ≡ false) → is_lt (ordering_then r (second y x)) ≡ false
      go Less s e h f = absurd (true≢false h)
      go Equal s e h f = f (ap (λ t. not (is_lt t) && true) e)
      go Greater s e h f = refl

  -- elements tie by both where they tie by each
  ties_both : (t x : X) → ties by_both t x ≡ (ties by_second t x && ties by_first t x)
  ties_both t x = go (first t x) (first x t) (o.antisymm x t) (ties by_second t x) refl
    where
      and_true : (b : Bool) → b ≡ (b && true)
      and_true true = refl
      and_true false = refl

      and_false : (b : Bool) → false ≡ (b && false)
      and_false true = refl
      and_false false = refl

      go : (r s : Ordering) → s ≡ ordering_reverse r → (b : Bool) → ties by_second t x ≡ b
          → (not (is_lt (ordering_then r (second t x))) && not (is_lt (ordering_then s (second x t)))) ≡ (b && (not (is_lt r) && not (is_lt s)))
      go Less s e b q = and_false b
      go Equal s e b q = ap (λ u. not (is_lt (second t x)) && not (is_lt (ordering_then u (second x t)))) e ∙ q ∙ and_true b ∙ sym (ap (λ u. b && (true && not (is_lt u))) e)
      go Greater s e b q = ap (λ u. true && not (is_lt (ordering_then u (second x t)))) e ∙ and_false b ∙ sym (ap (λ u. b && (true && not (is_lt u))) e)

  filter-both : (q r : X → Bool) (xs : List X) → filter (λ x. q x && r x) xs ≡ filter q (filter r xs)
  filter-both q r [] = refl
  filter-both q r (x ∷ xs) = go (q x) (r x) refl (filter-both q r xs)
    where
      go : (a b : Bool) → q x ≡ a → filter (λ x. q x && r x) xs ≡ filter q (filter r xs)
          → cond (a && b) (x ∷ filter (λ x. q x && r x) xs) (filter (λ x. q x && r x) xs) ≡ filter q (cond b (x ∷ filter r xs) (filter r xs))
      go true true h e = ap (λ ys. x ∷ ys) e ∙ sym (ap (λ c. cond c (x ∷ filter q (filter r xs)) (filter q (filter r xs))) h)
      go true false h e = e
      go false true h e = e ∙ sym (ap (λ c. cond c (x ∷ filter q (filter r xs)) (filter q (filter r xs))) h)
      go false false h e = e

  filter-alike : (q r : X → Bool) → ((x : X) → q x ≡ r x) → (xs : List X) → filter q xs ≡ filter r xs
  filter-alike q r h xs = λ i. filter (λ x. h x i) xs

  each-both : (x : X) (ys : List X) → Each (λ y. by_first y x ≡ false) ys → Each (λ y. by_second y x ≡ false) (filter (ties by_first x) ys) → Each (λ y. by_both y x ≡ false) ys
  each-both x [] a e = tt
  each-both x (y ∷ ys) a e = go (ties by_first x y) refl (λ f. each-both x ys a.1 f) e
    where
      go : (b : Bool) → ties by_first x y ≡ b → (Each (λ y. by_second y x ≡ false) (filter (ties by_first x) ys) → Each (λ y. by_both y x ≡ false) ys)
          → Each (λ y. by_second y x ≡ false) (cond b (y ∷ filter (ties by_first x) ys) (filter (ties by_first x) ys)) → Each (λ y. by_both y x ≡ false) (y ∷ ys)
      go true h r e = (not_less x y a.0 (λ t. e.0), r e.1)
      go false h r e = (not_less x y a.0 (λ t. absurd (true≢false (sym t ∙ h))), r e)

  -- a list that ascends by the first, and among those that tie by the second, ascends by both
  ascends-both : (ys : List X) → Ascends by_first ys → ((t : X) → Ascends by_second (filter (ties by_first t) ys)) → Ascends by_both ys
  ascends-both [] a f = tt
  ascends-both (x ∷ ys) a f = (each-both x ys a.0 here.0, ascends-both ys a.1 (λ t. rest (filter (ties by_first t) ys) (ties by_first t x) (f t)))
    where
      here : Ascends by_second (x ∷ filter (ties by_first x) ys)
      here = subst (λ b. Ascends by_second (cond b (x ∷ filter (ties by_first x) ys) (filter (ties by_first x) ys))) (ties_itself x) (f x)

      rest : (zs : List X) (b : Bool) → Ascends by_second (cond b (x ∷ zs) zs) → Ascends by_second zs
      rest zs true e = e.1
      rest zs false e = e

  pub sorted-both : (xs : List X) → sorted by_first (sorted by_second xs) ≡ sorted by_both xs
  sorted-both xs =
      let zs = sorted by_second xs in
      let ys = sorted by_first zs in
      sym (sorted-unique by_both both-order xs ys
      (ascends-both ys (sorted-ascends by_first first-order zs) (λ t.
      subst (Ascends by_second) (sym (sorted-stable by_first first-order zs t ∙ filter-sorted by_second second-order (ties by_first t) xs)) (sorted-ascends by_second second-order (filter (ties by_first t) xs))))
      (λ t.
      filter-alike (ties by_both t) (λ x. ties by_second t x && ties by_first t x) (ties_both t) ys ∙ filter-both (ties by_second t) (ties by_first t) ys
      ∙ ap (filter (ties by_second t)) (sorted-stable by_first first-order zs t)
      ∙ sym (filter-both (ties by_second t) (ties by_first t) zs) ∙ filter-alike (λ x. ties by_second t x && ties by_first t x) (λ x. ties by_first t x && ties by_second t x) (λ x. and-turned (ties by_second t x) (ties by_first t x)) zs
      ∙ filter-both (ties by_first t) (ties by_second t) zs
      ∙ ap (filter (ties by_first t)) (sorted-stable by_second second-order xs t)
      ∙ sym (filter-both (ties by_first t) (ties by_second t) xs) ∙ filter-alike (λ x. ties by_first t x && ties by_second t x) (ties by_both t) (λ x. and-turned (ties by_first t x) (ties by_second t x) ∙ sym (ties_both t x)) xs))
    where
      and-turned : (a b : Bool) → (a && b) ≡ (b && a)
      and-turned true true = refl
      and-turned true false = refl
      and-turned false true = refl
      and-turned false false = refl

-- ---- a sort by an item before sorts by others

then_equal : (r : Ordering) → ordering_then r Equal ≡ r
then_equal Less = refl
then_equal Equal = refl
then_equal Greater = refl

-- instances that are sorted by items, and then by one, are sorted by all
sorted-items : (w : World) (x : OrderItem) (xs : List OrderItem) (l : List Instance) → sorted (order_before w (x ∷ [])) (sorted (order_before w xs) l) ≡ sorted (order_before w (x ∷ xs)) l
sorted-items w x xs l =
    (λ k. sorted (λ i j. one i j k) (sorted (λ i j. values-before w xs i j k) l))
    ∙ sorted-both first second (on_total (λ i. val w i x.expr) (item_cmp_total x.desc)) (on_total (item_values w xs) (values_cmp_total xs)) l
    ∙ (λ k. sorted (λ i j. sym (values-before w (x ∷ xs) i j) k) l)
  where
    first : Instance → Instance → Ordering
    first i j = item_cmp x.desc (val w i x.expr) (val w j x.expr)

    second : Instance → Instance → Ordering
    second i j = values_cmp xs (item_values w xs i) (item_values w xs j)

    one : (i j : Instance) → order_before w (x ∷ []) i j ≡ is_lt (first i j)
    one i j = values-before w (x ∷ []) i j ∙ ap is_lt (then_equal (first i j))

-- by no item, instances stand as before
sorted-none : (w : World) (l : List Instance) → l ≡ sorted (order_before w []) l
sorted-none w l = sym (sorted-unique (order_before w []) (order_before_order w []) l l (ascends l) (λ t. refl))
  where
    each : (i : Instance) (l : List Instance) → Each (λ j. order_before w [] j i ≡ false) l
    each i [] = tt
    each i (j ∷ l) = (refl, each i l)

    ascends : (l : List Instance) → Ascends (order_before w []) l
    ascends [] = tt
    ascends (i ∷ l) = (each i l, ascends l)

-- ---- item by item

-- the rows are sorted by the last k items, on whose values there is no `Beyond`
pub record SortedBehind (w : World) (is : List code.OrderItem) (k : ℕ) (l rows : List Instance) : Type 0 where
  pub left : ℕ
  pub count : left + k ≡ length is
  pub order : rows ≡ sorted (order_before w (map item_of (drop left is))) l
  pub none : list_any is_beyond (order_values w (map item_of (drop left is)) l) ≡ false
  pub of : IsTrue (all_of w rows)

sure-parts : {A : Type 0} (b : Bool) (x y : A) → then_some (not b) x ≡ Some y → (b ≡ false) × (x ≡ y)
sure-parts true x y e = absurd (none_is_not_some y e)
sure-parts false x y e = (refl, cc)

or-false : (a b : Bool) → a ≡ false → b ≡ false → (a || b) ≡ false
or-false false false h g = refl
or-false true b h g = absurd (true≢false h)
or-false false true h g = absurd (true≢false g)

-- whether a value of some items on some rows is `Beyond` does not depend on the order of the rows
beyond-reorders : {l r : List Instance} (w : World) (xs : List OrderItem) → Reorders l r → list_any is_beyond (order_values w xs l) ≡ list_any is_beyond (order_values w xs r)
beyond-reorders {l} {r} w xs e = beyond-values w xs l ∙ any-reorders (has_beyond w xs) e ∙ sym (beyond-values w xs r)

-- the values of a first item, and those of the others
beyond-first : (w : World) (x : OrderItem) (xs : List OrderItem) (l : List Instance)
    → list_any is_beyond (order_values w (x ∷ xs) l) ≡ (list_any is_beyond (order_values w (x ∷ []) l) || list_any is_beyond (order_values w xs l))
beyond-first w x xs l = list_any-append is_beyond (map (λ i. val w i x.expr) l) (order_values w xs l) ∙ sym (ap (λ b. b || list_any is_beyond (order_values w xs l)) alone)
  where
    or_nothing : (b : Bool) → (b || false) ≡ b
    or_nothing true = refl
    or_nothing false = refl

    alone : list_any is_beyond (order_values w (x ∷ []) l) ≡ list_any is_beyond (map (λ i. val w i x.expr) l)
    alone = list_any-append is_beyond (map (λ i. val w i x.expr) l) [] ∙ or_nothing (list_any is_beyond (map (λ i. val w i x.expr) l))

pub behind-none : (w : World) (is : List code.OrderItem) (l : List Instance) → IsTrue (all_of w l) → SortedBehind w is 0 l l
behind-none w is l of =
    let nothing : drop (length is) is ≡ [] = drop_all (length is) is (omega arith) in
    record {
      left = length is;
      count = omega arith;
      order = sorted-none w l ∙ ap (λ t. sorted (order_before w (map item_of t)) l) (sym nothing);
      none = ap (λ t. list_any is_beyond (order_values w (map item_of t) l)) nothing;
      of = of;
    }

module _ (w : World) (is : List code.OrderItem) (k : ℕ) (l rows : List Instance) (b : SortedBehind w is k l rows) (j : ℕ) (d : code.OrderItem) (at : j + suc k ≡ length is) (item : d ≡ get_or is j d) where
  next : drop j is ≡ d ∷ drop b.left is
  next =
      let count = b.count in
      let after : suc j ≡ b.left = omega (arith, at, count) in
      drop-cons is j d (omega (arith, at)) ∙ (λ i. sym item i ∷ drop (after i) is)

  same-rows : Reorders l rows
  same-rows = subst (Reorders l) (sym b.order) (reorders-ordered_by w (map item_of (drop b.left is)) l)

  pub behind-more : (found : List Instance) → refused_at_beyond (order_values w (item_of d ∷ []) rows) (sorted (order_before w (item_of d ∷ [])) rows) ≡ Some found → SortedBehind w is (k + 1) l found
  behind-more found e =
      let t = sure-parts (list_any is_beyond (order_values w (item_of d ∷ []) rows)) (sorted (order_before w (item_of d ∷ [])) rows) found e in
      let xs = map item_of (drop b.left is) in
      record {
        left = j;
        count = omega (arith, at);
        order = sym t.1 ∙ ap (sorted (order_before w (item_of d ∷ []))) b.order ∙ sorted-items w (item_of d) xs l ∙ ap (λ u. sorted (order_before w (map item_of u)) l) (sym next);
        none = ap (λ u. list_any is_beyond (order_values w (map item_of u) l)) next ∙ beyond-first w (item_of d) xs l
            ∙ or-false (list_any is_beyond (order_values w (item_of d ∷ []) l)) _ (beyond-reorders w (item_of d ∷ []) same-rows ∙ t.0) b.none;
        of = subst IsTrue (all-reorders (is_of w) (subst (Reorders rows) t.1 (reorders-ordered_by w (item_of d ∷ []) rows))) b.of;
      }

  beyond-later : (m : ℕ) (is : List code.OrderItem) → list_any is_beyond (order_values w (map item_of (drop m is)) l) ≡ true → list_any is_beyond (order_values w (map item_of is) l) ≡ true
  beyond-later zero is h = h
  beyond-later (suc m) [] h = h
  beyond-later (suc m) (i ∷ is) h =
      beyond-first w (item_of i) (map item_of is) l ∙ ap (λ c. list_any is_beyond (order_values w (item_of i ∷ []) l) || c) (beyond-later m is h)
      ∙ or-anything (list_any is_beyond (order_values w (item_of i ∷ []) l))
    where
      or-anything : (a : Bool) → (a || true) ≡ true
      or-anything true = refl
      or-anything false = refl

  refused-parts : {A : Type 0} (c : Bool) (x : A) → then_some (not c) x ≡ None → c ≡ true
  refused-parts true x e = refl
  refused-parts false x e = absurd (none_is_not_some x (sym e))

  pub behind-refused : (e : Refused) (r s : List Instance) → Gives (Err e) (refused_at_beyond (order_values w (item_of d ∷ []) rows) r) → Gives (Err e) (refused_at_beyond (order_values w (map item_of is) l) s)
  behind-refused Memory r s h = tt
  behind-refused Range r s h =
      let here : list_any is_beyond (order_values w (item_of d ∷ []) l) ≡ true = beyond-reorders w (item_of d ∷ []) same-rows ∙ refused-parts (list_any is_beyond (order_values w (item_of d ∷ []) rows)) r h in
      let xs = map item_of (drop b.left is) in
      let all : list_any is_beyond (order_values w (map item_of is) l) ≡ true = beyond-later j is (
      ap (λ u. list_any is_beyond (order_values w (map item_of u) l)) next ∙ beyond-first w (item_of d) xs l ∙ ap (λ c. c || list_any is_beyond (order_values w xs l)) here) in
      ap (λ c. then_some (not c) s) all

pub behind-all : (w : World) (is : List code.OrderItem) (k : ℕ) (l rows : List Instance) → SortedBehind w is k l rows → k ≡ length is
    → refused_at_beyond (order_values w (map item_of is) l) (sorted (order_before w (map item_of is)) l) ≡ Some rows
behind-all w is k l rows b e =
    let count = b.count in
    let none : b.left ≡ 0 = omega (arith, count, e) in
    let whole : drop b.left is ≡ is = ap (λ m. drop m is) none in
    ap (λ c. then_some (not c) (sorted (order_before w (map item_of is)) l)) (sym (ap (λ u. list_any is_beyond (order_values w (map item_of u) l)) whole) ∙ b.none)
    ∙ ap Some (sym (b.order ∙ ap (λ u. sorted (order_before w (map item_of u)) l) whole))

-- what a stable sort by a closure gives, where each call answers the order of the values of one item
pub sorted-by_item : {X F : Type 0} {g : Mut F (Bor (List Value × X) × (Bor (List Value × X) × Unit {0})) Ordering} {f : F} (x : OrderItem) (rs ys : List (List Value × X))
    → IsSortedByClosure g f ys → IsStableByClosure g f rs ys
    → ((a : Bor (List Value × X) × (Bor (List Value × X) × Unit {0})) (r : Ordering) (f' : F) → Called g f a r f' → (r ≡ item_cmp x.desc (first_value (a.0.now).0) (first_value (a.1.0.now).0)) × (f' ≡ f))
    → IsSortedBy (before (x ∷ [])) ys × IsStableBy (before (x ∷ [])) rs ys
sorted-by_item x rs ys up stable h = sorted-by_values (x ∷ []) rs ys up stable (λ a r f' k. ((h a r f' k).0 ∙ sym (then_equal (item_cmp x.desc (first_value (a.0.now).0) (first_value (a.1.0.now).0))), (h a r f' k).1))
