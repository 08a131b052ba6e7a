-- Rows sorted by the values of items, each evaluated once, are in the order of the items.
use Rattle.std.proofs.Common.{Bor, ◌≡◌, ℕ, zero, suc, ◌+◌, ◌<◌, Bool, true, false, List, [], ◌∷◌, length, map, drop, get_or, refl, sym, ◌∙◌, ap, drop-cons, add-one}
use Rattle.std.specs.Prelude.{not, Some, Err, ◌||◌}
use Rattle.std.specs.Bool.{then_some}
use Rattle.std.specs.List.{list_any}
use Rattle.std.specs.Fn.{Called}
use Rattle.std.specs.List.Sorted.{IsSortedBy, IsSortedByClosure, IsStableBy, IsStableByClosure}
use denote.Param.Members.{Mut}
use Rattle.std.specs.Cmp.{IsStrictWeakOrder, IsTotalOrder}
use Rattle.std.specs.Ordering.{is_lt, is_eq, is_ne, ordering_then}
use Rattle.std.specs.declared.cmp.Ordering.{Ordering}
use Rattle.std.specs.declared.cmp.Ordering.TheVariants.{Less, Equal, Greater}
use Rattle.std.proofs.lemmas.Bool.{true≢false}
use Rattle.std.proofs.lemmas.Fn.{always_returns_same}
use Rattle.std.proofs.lemmas.Cmp.{on_total, then_total, back_total}
use Rattle.std.proofs.lemmas.List.Folds.{list_any-append}
use Rattle.std.proofs.lemmas.List.Sorted.{ranks_by}
use Rattle.std.proofs.Math.Bool.{or-true}
use Rattle.edm_data.specs.Worlds.{World}
use Rattle.edm_values.specs.declared.Value.{Value}
use Rattle.edm_values.specs.declared.refusals.Refused.{Refused}
use Rattle.edm_values.specs.declared.refusals.Refused.TheVariants.{Range, Memory}
use Rattle.edm_values.specs.Lists.{sorted}
use Rattle.edm_values.specs.Values.{is_beyond}
use Rattle.edm_values.specs.OrderLaws.{value_cmp_total}
use Rattle.edm_values.proofs.SortLaws.{stable_sort_is_sorted}
use Rattle.edm_values.proofs.SortedLists.{sorted-map}
use Rattle.apply_ast.specs.Trees.{OrderItem}
use Rattle.apply_ast.specs.Views.{item_of}
use Rattle.apply_ast.specs.declared.items.OrderItem as code
use Rattle.apply_meaning.proofs.InstanceOrders.{item_before_is}
use Rattle.apply_meaning.specs.Instances.{Instance, val}
use Rattle.apply_meaning.specs.Meaning.{order_before, order_values, refused_at_beyond, values}
use Rattle.apply_meaning.specs.Running.{Gives}
use Rattle.row_orders.specs.Orders.{GivesRanked, RankedRow, first_value, has_beyond, item_cmp, item_values, ranked, before, values_cmp}

-- ---- the order of lists of values

pub item_cmp_total : (desc : Bool) → IsTotalOrder (item_cmp desc)
item_cmp_total true = back_total value_cmp_total
item_cmp_total false = value_cmp_total

pub values_cmp_total : (xs : List OrderItem) → IsTotalOrder (values_cmp xs)
values_cmp_total [] = record { antisymm = λ i j. refl; trans = λ i j k e f. absurd (true≢false (ap is_eq e)); congr = λ i j k e. refl }
values_cmp_total (x ∷ xs) = then_total (on_total first_value (item_cmp_total x.desc)) (on_total (drop 1) (values_cmp_total xs))

pub before-order : {X : Type 0} (xs : List OrderItem) → IsStrictWeakOrder {X = List Value × X} (before xs)
before-order xs = ranks_by (values_cmp_total xs) (λ a. a.0)

-- ---- the order by the values of instances is that of instances

pub values-before : (w : World) (xs : List OrderItem) (i j : Instance) → order_before w xs i j ≡ before xs (ranked w xs i) (ranked w xs j)
values-before w [] i j = refl
values-before w (x ∷ xs) i j = item_before_is x.desc (val w i x.expr) (val w j x.expr) (order_before w xs i j) (values_cmp xs (item_values w xs i) (item_values w xs j)) (values-before w xs i j)

unranked : (w : World) (xs : List OrderItem) (l : List Instance) → map (λ x. x.1) (map (ranked w xs) l) ≡ l
unranked w xs [] = refl
unranked w xs (i ∷ l) = ap (λ r. i ∷ r) (unranked w xs l)

-- a stable sort of instances with their values by these has the instances in their order
pub ranked-sorted : (w : World) (xs : List OrderItem) (l : List Instance) (ys : List RankedRow) → IsSortedBy (before xs) ys
    → IsStableBy (before xs) (map (ranked w xs) l) ys → map (λ x. x.1) ys ≡ sorted (order_before w xs) l
ranked-sorted w xs l ys up stable =
    let o = before-order xs in
    let by_values : Instance → Instance → Bool = λ i j. before xs (ranked w xs i) (ranked w xs j) in
    ap (map (λ x. x.1)) (sym (stable_sort_is_sorted (before xs) o (map (ranked w xs) l) ys up stable) ∙ sorted-map (before xs) (ranked w xs) o (ranks_by (values_cmp_total xs) (item_values w xs)) l)
    ∙ unranked w xs (sorted by_values l)
    ∙ (λ k. sorted (λ i j. sym (values-before w xs i j) k) l)

-- ---- `Beyond` among the values

any-or : {X : Type 0} (p q : X → Bool) (xs : List X) → list_any (λ x. p x || q x) xs ≡ (list_any p xs || list_any q xs)
any-or p q [] = refl
any-or p q (x ∷ xs) = go (p x) (q x) (any-or p q xs)
  where
    go : (a b : Bool) → list_any (λ x. p x || q x) xs ≡ (list_any p xs || list_any q xs) → ((a || b) || list_any (λ x. p x || q x) xs) ≡ ((a || list_any p xs) || (b || list_any q xs))
    go true b e = refl
    go false false e = e
    go false true e = sym (or-true (list_any p xs))

any-none : {X : Type 0} (xs : List X) → list_any (λ x. false) xs ≡ false
any-none [] = refl
any-none (x ∷ xs) = any-none xs

any-values : (w : World) (x : OrderItem) (l : List Instance) → list_any is_beyond (values w x.expr l) ≡ list_any (λ i. is_beyond (val w i x.expr)) l
any-values w x [] = refl
any-values w x (i ∷ l) = ap (λ b. is_beyond (val w i x.expr) || b) (any-values w x l)

-- one of the values is `Beyond` where one of some instance's is
pub beyond-values : (w : World) (xs : List OrderItem) (l : List Instance) → list_any is_beyond (order_values w xs l) ≡ list_any (has_beyond w xs) l
beyond-values w [] l = sym (any-none l)
beyond-values w (x ∷ xs) l =
    list_any-append is_beyond (values w x.expr l) (order_values w xs l)
    ∙ (λ k. any-values w x l k || beyond-values w xs l k)
    ∙ sym (any-or (λ i. is_beyond (val w i x.expr)) (has_beyond w xs) l)

-- ---- the values from one item to the next

dropped : (vs : List Value) (k : ℕ) → drop 1 (drop k vs) ≡ drop (suc k) vs
dropped vs zero = refl
dropped [] (suc k) = refl
dropped (v ∷ vs) (suc k) = dropped vs k

-- the order from an item on: by its own values, or else from the next on
pub next-order : (is : List code.OrderItem) (vs us : List Value) (k : ℕ) (d : code.OrderItem) → k < length is → d ≡ get_or is k d
    → values_cmp (map item_of (drop k is)) (drop k vs) (drop k us)
    ≡ ordering_then (item_cmp d.desc (first_value (drop k vs)) (first_value (drop k us))) (values_cmp (map item_of (drop (k + 1) is)) (drop (k + 1) vs) (drop (k + 1) us))
next-order is vs us k d h e =
    let own : Bool → Ordering = λ desc. item_cmp desc (first_value (drop k vs)) (first_value (drop k us)) in
    ap (λ t. values_cmp (map item_of t) (drop k vs) (drop k us)) (drop-cons is k d h)
    ∙ ap (λ (y : code.OrderItem). ordering_then (own y.desc) (values_cmp (map item_of (drop (suc k) is)) (drop 1 (drop k vs)) (drop 1 (drop k us)))) (sym e)
    ∙ (λ i. ordering_then (own d.desc) (values_cmp (map item_of (drop (suc k) is)) (dropped vs k i) (dropped us k i)))
    ∙ ap (λ n. ordering_then (own d.desc) (values_cmp (map item_of (drop n is)) (drop n vs) (drop n us))) (sym (add-one k))

-- two values that tie leave the order to the rest
pub passed : (o r : Ordering) → is_ne o ≡ false → ordering_then o r ≡ r
passed Less r h = absurd (true≢false h)
passed Equal r h = refl
passed Greater r h = absurd (true≢false h)

-- what a stable sort by a closure gives, where each call answers the order of the values
pub sorted-by_values : {X F : Type 0} {g : Mut F (Bor (List Value × X) × (Bor (List Value × X) × Unit {0})) Ordering} {f : F} (xs : List OrderItem) (rs ys : List (List Value × X))
    → IsSortedByClosure g f ys → IsStableByClosure g f rs ys
    → ((a : Bor (List Value × X) × (Bor (List Value × X) × Unit {0})) (r : Ordering) (f' : F) → Called g f a r f' → (r ≡ values_cmp xs (a.0.now).0 (a.1.0.now).0) × (f' ≡ f))
    → IsSortedBy (before xs) ys × IsStableBy (before xs) rs ys
sorted-by_values {g = g} {f = f} xs rs ys up stable h =
    let compares = always_returns_same g (λ a r. is_lt r ≡ before xs a.0.now a.1.0.now) f (λ a r f' k. (ap is_lt (h a r f' k).0, (h a r f' k).1)) in
    (up (before xs) (before-order xs) compares, stable (before xs) (before-order xs) compares)

-- the rows in their order where no value is `Beyond`
pub all-sure : {A : Type 0} (w : World) (xs : List OrderItem) (l : List Instance) (r : A) → list_any (has_beyond w xs) l ≡ false → refused_at_beyond (order_values w xs l) r ≡ Some r
all-sure w xs l r h = ap (λ b. then_some (not b) r) (beyond-values w xs l ∙ h)

-- and a refusal where one is
pub beyond-refused : (e : Refused) (w : World) (xs : List OrderItem) (l r : List Instance) → GivesRanked (Err e) w xs l → Gives (Err e) (refused_at_beyond (order_values w xs l) r)
beyond-refused Range w xs l r h = ap (λ b. then_some (not b) r) (beyond-values w xs l ∙ h)
beyond-refused Memory w xs l r h = tt
