-- Aggregates in the words of the program: the first value in an order, and the distinct values.
use Rattle.std.proofs.Common.{◌≡◌, ℕ, suc, ◌+◌, ◌-◌, ◌<◌, ◌≤◌, length, map, take, drop, drop-cons, get_or, arith, IfOk, Bool, true, false, cond, not, ◌||◌, List, [], ◌∷◌, ◌++◌, filter, if◌then◌else◌, refl, sym, ◌∙◌, ap, subst}
use Rattle.std.specs.Cmp.{IsStrictWeakOrder}
use Rattle.std.specs.List.{list_any, list_all}
use Rattle.std.proofs.lemmas.Bool.{and_parts, not-true, true≢false}
use Rattle.std.specs.declared.result.Result.{Result}
use Rattle.std.proofs.lemmas.List.{append-nil, map_more}
use Rattle.std.proofs.lemmas.List.Elements.{filter-append}
use Rattle.edm_values.specs.declared.Method.{Method}
use Rattle.edm_values.specs.declared.Seen.{Seen}
use Rattle.edm_values.specs.declared.Value.{Value}
use Rattle.edm_values.specs.Lists.{distinct, first_or, sorted}
use Rattle.edm_values.specs.Values.{is_beyond, is_null, same_value, seen_value}
use Rattle.edm_values.proofs.ValueOrders.{same_value_tests, value_after_order, value_before_order}
use Rattle.apply_meaning.specs.Aggregates.{aggregate, aggregate_of}
use Rattle.apply_meaning.specs.Meaning.{item_before}
use Rattle.edm_values.proofs.Reorderings.{TestsEquality, all-reorders}
use Rattle.edm_values.proofs.SortedLists.{inserted, ordered, reorders-ordered, sorted-is_ordered}
use Rattle.edm_values.proofs.ListFacts.{filter-passes}
use Rattle.indexmap.specs.IndexSet.{insert_key}
use Rattle.apply_meaning.proofs.SumLaws.{kept}

-- the first of two values, where null is none: the second where it stands before the first
abbrev pub picked : (Value → Value → Bool) → Value → Value → Value
picked before a b = if is_null a then b else (if is_null b then a else (if before b a then b else a))

-- ---- the first value in an order

-- the first of a list of values, none of which is null
first-inserted : (before : Value → Value → Bool) (v : Value) (ys : List Value) → is_null v ≡ false → list_all (λ y. not (is_null y)) ys ≡ true
    → first_or Value.Null (inserted before v ys) ≡ picked before v (first_or Value.Null ys)
first-inserted before v [] n a = sym (ap (λ b. if b then Value.Null else v) n)
first-inserted before v (y ∷ ys) n a =
    let there : is_null y ≡ false = not-true (is_null y) (and_parts (not (is_null y)) _ a).0 in
    go (before y v) ∙ sym (ap (λ b. if b then y else (if is_null y then v else (if before y v then y else v))) n ∙ ap (λ b. if b then v else (if before y v then y else v)) there)
  where
    go : (b : Bool) → first_or Value.Null (cond b (y ∷ inserted before v ys) (v ∷ y ∷ ys)) ≡ (if b then y else v)
    go true = refl
    go false = refl

none-null : (vs : List Value) → list_all (λ v. not (is_null v)) (kept vs) ≡ true
none-null vs = filter-passes (λ v. not (is_null v)) vs

-- the first of a list is picked by its first value and the first of the others
pub first-next : (before : Value → Value → Bool) → IsStrictWeakOrder before → (v : Value) (vs : List Value)
    → first_or Value.Null (sorted before (kept (v ∷ vs))) ≡ picked before v (first_or Value.Null (sorted before (kept vs)))
first-next before o v vs = go (is_null v) refl
  where
    others : sorted before (kept vs) ≡ ordered before (kept vs)
    others = sorted-is_ordered before o (kept vs)

    there : list_all (λ y. not (is_null y)) (ordered before (kept vs)) ≡ true
    there = sym (all-reorders (λ y. not (is_null y)) (reorders-ordered before (kept vs))) ∙ none-null vs

    go : (b : Bool) → is_null v ≡ b → first_or Value.Null (sorted before (kept (v ∷ vs))) ≡ picked before v (first_or Value.Null (sorted before (kept vs)))
    go true e =
        ap (λ b. first_or Value.Null (sorted before (cond (not b) (v ∷ kept vs) (kept vs)))) e
        ∙ sym (ap (λ b. if b then first_or Value.Null (sorted before (kept vs)) else (if is_null (first_or Value.Null (sorted before (kept vs))) then v else (if before (first_or Value.Null (sorted before (kept vs))) v then first_or Value.Null (sorted before (kept vs)) else v))) e)
    go false e =
        ap (λ b. first_or Value.Null (sorted before (cond (not b) (v ∷ kept vs) (kept vs)))) e
        ∙ ap (first_or Value.Null) (sorted-is_ordered before o (v ∷ kept vs))
        ∙ first-inserted before v (ordered before (kept vs)) e there
        ∙ ap (λ ys. picked before v (first_or Value.Null ys)) (sym others)

-- ---- distinct values

-- an equal value that is left over is one that was there
left-any : {X : Type 0} (eq : X → X → Bool) → TestsEquality eq → (x y : X) → eq y x ≡ false → (zs : List X) → list_any (eq y) (filter (λ z. not (eq x z)) zs) ≡ list_any (eq y) zs
left-any eq t x y n [] = refl
left-any eq t x y n (z ∷ zs) = one (eq x z) refl (left-any eq t x y n zs)
  where
    one : (b : Bool) → eq x z ≡ b → list_any (eq y) (filter (λ z. not (eq x z)) zs) ≡ list_any (eq y) zs
        → list_any (eq y) (cond (not (eq x z)) (z ∷ filter (λ z. not (eq x z)) zs) (filter (λ z. not (eq x z)) zs)) ≡ (eq y z || list_any (eq y) zs)
    one true e r =
        ap (λ b. list_any (eq y) (cond (not b) (z ∷ filter (λ z. not (eq x z)) zs) (filter (λ z. not (eq x z)) zs))) e ∙ r
        ∙ ap (λ b. b || list_any (eq y) zs) (sym n ∙ ap (eq y) (t.same x z e))
    one false e r =
        ap (λ b. list_any (eq y) (cond (not b) (z ∷ filter (λ z. not (eq x z)) zs) (filter (λ z. not (eq x z)) zs))) e ∙ ap (λ b. eq y z || b) r

-- one value more is a distinct one, unless an equal one is there
pub distinct-next : {X : Type 0} (eq : X → X → Bool) → TestsEquality eq → (xs : List X) (y : X) → distinct eq (xs ++ y ∷ []) ≡ insert_key eq (distinct eq xs) y
distinct-next eq t [] y = refl
distinct-next {X} eq t (x ∷ xs) y =
    ap (λ ds. x ∷ filter (λ z. not (eq x z)) ds) (distinct-next eq t xs y) ∙ go (eq y x) refl
  where
    ds : List X
    ds = distinct eq xs

    left : List X
    left = filter (λ z. not (eq x z)) ds

    more : Bool → List X
    more b = x ∷ filter (λ z. not (eq x z)) (if b then ds else ds ++ y ∷ [])

    last : (b : Bool) → eq x y ≡ b → more false ≡ x ∷ left ++ cond (not b) (y ∷ []) []
    last b e = ap (λ zs. x ∷ zs) (filter-append (λ z. not (eq x z)) ds (y ∷ []) ∙ ap (λ q. left ++ cond (not q) (y ∷ []) []) e)

    -- where the value equals the first one
    first : (b : Bool) → eq y x ≡ true → more b ≡ x ∷ left
    first true f = refl
    first false f = last true (ap (λ z. eq z y) (sym (t.same y x f)) ∙ t.itself y) ∙ ap (λ zs. x ∷ zs) (append-nil left)

    -- where it does not
    later : (b d : Bool) → eq y x ≡ false → eq x y ≡ d → more b ≡ (if b then x ∷ left else (x ∷ left) ++ y ∷ [])
    later true d f g = refl
    later false true f g = absurd (true≢false (sym (ap (eq y) (t.same x y g) ∙ t.itself y) ∙ f))
    later false false f g = last false g

    go : (c : Bool) → eq y x ≡ c → more (list_any (eq y) ds) ≡ (if eq y x || list_any (eq y) left then x ∷ left else (x ∷ left) ++ y ∷ [])
    go true f = first (list_any (eq y) ds) f ∙ sym (ap (λ q. if q || list_any (eq y) left then x ∷ left else (x ∷ left) ++ y ∷ []) f)
    go false f =
        later (list_any (eq y) ds) (eq x y) f refl
        ∙ sym (ap (λ q. if q || list_any (eq y) left then x ∷ left else (x ∷ left) ++ y ∷ []) f ∙ ap (λ q. if q then x ∷ left else (x ∷ left) ++ y ∷ []) (left-any eq t x y f ds))

-- the values that are not null, with one more
pub kept-more : (vs : List Seen) (k : ℕ) (d : Seen) → k < length vs → d ≡ get_or vs k d → kept (map seen_value (take (k + 1) vs)) ≡ kept (map seen_value (take k vs)) ++ cond (not (is_null (seen_value d))) (seen_value d ∷ []) []
kept-more vs k d h e =
    ap kept (map_more seen_value vs k d h) ∙ filter-append (λ v. not (is_null v)) (map seen_value (take k vs)) (seen_value (get_or vs k d) ∷ [])
    ∙ ap (λ v. kept (map seen_value (take k vs)) ++ cond (not (is_null (seen_value v))) (seen_value v ∷ []) []) (sym e)

-- where it is null, the distinct values stay
pub distinct-same : (vs : List Seen) (k : ℕ) (d : Seen) → k < length vs → d ≡ get_or vs k d → is_null (seen_value d) ≡ true
    → distinct same_value (kept (map seen_value (take k vs))) ≡ distinct same_value (kept (map seen_value (take (k + 1) vs)))
distinct-same vs k d h e n =
    ap (distinct same_value) (sym (append-nil (kept (map seen_value (take k vs)))) ∙ ap (λ b. kept (map seen_value (take k vs)) ++ cond (not b) (seen_value d ∷ []) []) (sym n) ∙ sym (kept-more vs k d h e))

-- and else it is put among them
pub distinct-more : (vs : List Seen) (k : ℕ) (d : Seen) → k < length vs → d ≡ get_or vs k d → is_null (seen_value d) ≡ false
    → insert_key same_value (distinct same_value (kept (map seen_value (take k vs)))) (seen_value d) ≡ distinct same_value (kept (map seen_value (take (k + 1) vs)))
distinct-more vs k d h e n =
    sym (distinct-next same_value same_value_tests (kept (map seen_value (take k vs))) (seen_value d))
    ∙ ap (distinct same_value) (ap (λ b. kept (map seen_value (take k vs)) ++ cond (not b) (seen_value d ∷ []) []) (sym n) ∙ sym (kept-more vs k d h e))

-- ---- the first value of a list that is read from its end

pub first-before : (d : Bool) (vs : List Seen) (k : ℕ) (v : Seen) → 0 < k → k ≤ length vs → v ≡ get_or vs (k - 1) v
    → picked (item_before d) (seen_value v) (first_or Value.Null (sorted (item_before d) (kept (map seen_value (drop k vs))))) ≡ first_or Value.Null (sorted (item_before d) (kept (map seen_value (drop (k - 1) vs))))
first-before d vs k v some within e =
    let next : k ≡ suc (k - 1) = omega arith in
    ap (λ n. picked (item_before d) (seen_value v) (first_or Value.Null (sorted (item_before d) (kept (map seen_value (drop n vs)))))) next
    ∙ sym (first-next (item_before d) (order d) (seen_value v) (map seen_value (drop (suc (k - 1)) vs)))
    ∙ ap (λ v. first_or Value.Null (sorted (item_before d) (kept (map seen_value (v ∷ drop (suc (k - 1)) vs))))) e
    ∙ ap (λ l. first_or Value.Null (sorted (item_before d) (kept (map seen_value l)))) (sym (drop-cons vs (k - 1) v (omega arith)))
  where
    order : (d : Bool) → IsStrictWeakOrder (item_before d)
    order true = value_after_order
    order false = value_before_order

-- ---- aggregates of values of which none is Beyond

pub aggregate-within : (m : Method) (vs : List Value) → list_any is_beyond vs ≡ false → aggregate_of m (kept vs) ≡ aggregate m vs
aggregate-within m vs h = sym (ap (λ b. if b then Value.Beyond else aggregate_of m (kept vs)) h)

pub aggregate-beyond : (m : Method) (vs : List Value) → list_any is_beyond vs ≡ true → Value.Beyond ≡ aggregate m vs
aggregate-beyond m vs h = sym (ap (λ b. if b then Value.Beyond else aggregate_of m (kept vs)) h)

pub if-same : {X E : Type 0} (r : Result X E) (a b : X) → IfOk r (λ x. x ≡ a) → a ≡ b → IfOk r (λ x. x ≡ b)
if-same r a b h e = subst (λ z. IfOk r (λ x. x ≡ z)) e h
