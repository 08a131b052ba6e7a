-- Rows at ascending places, from one row to the next, and what a selection reaches for.
use Rattle.std.proofs.Common.{◌≡◌, ℕ, zero, suc, ◌+◌, ◌<◌, refl, sym, ◌∙◌, ap, Bool, true, false, cond, List, [], ◌∷◌, ◌++◌, Some, length, map, filter, drop, get_or, drop-cons, add-one, append_assoc, arith, subst}
use Rattle.std.specs.declared.result.Result as result
use Rattle.std.specs.Global.{Vec}
use Rattle.std.specs.Prelude.{nat_lt, slice_get}
use Rattle.std.specs.List.{cons_option, list_all, range_with_len}
use Rattle.std.proofs.lemmas.Bool.{and_from, and_parts, lt-ltb, ltb-true}
use Rattle.std.proofs.lemmas.List.{length-append}
use Rattle.std.proofs.lemmas.Option.{get_or_from_slice_get, slice_get_within}
use Rattle.edm_values.proofs.ListFacts.{all-filter}
use Rattle.edm_values.proofs.TopPlaces.{places-first}
use Rattle.edm_values.specs.declared.Value.{Value}
use Rattle.edm_values.specs.declared.refusals.Refused.{Refused}
use Rattle.edm_values.specs.Lists.{at_places, places}
use Rattle.edm_values.specs.Values.{reaches_sum, top_places}
use Rattle.apply_ast.specs.Trees.{Limit, NumberLiteral}
use Rattle.apply_ast.specs.Views.{limit_of}
use Rattle.apply_ast.specs.declared.items.Limit as of_limit
use Rattle.apply_meaning.specs.Meaning.{reaches}
use Rattle.step_run.specs.Selections.{literal_number}
use Rattle.row_orders.specs.Ranks.{GivesNumbers}

-- ---- places that pass, from one place to the next

higher : (k b n : ℕ) → k < b → list_all (λ j. nat_lt k j) (range_with_len b n) ≡ true
higher k b zero h = refl
higher k b (suc n) h = and_from _ _ (lt-ltb k b h) (higher k (b + 1) n (omega (arith, h)))

shifted : (b n : ℕ) → map suc (range_with_len b n) ≡ range_with_len (b + 1) n
shifted b zero = refl
shifted b (suc n) = ap (λ k. k ∷ map suc (range_with_len (b + 1) n)) (sym (add-one b)) ∙ ap (λ ks. (b + 1) ∷ ks) (shifted (b + 1) n)

-- all places, upwards
pub places-up : (n : ℕ) → places n ≡ range_with_len 0 n
places-up zero = refl
places-up (suc n) = places-first n ∙ ap (λ ks. 0 ∷ map suc ks) (places-up n) ∙ ap (λ ks. 0 ∷ ks) (shifted 0 n)

-- the place is the next that passes
pub next-taken : (q : ℕ → Bool) (k n : ℕ) (ks : List ℕ) → k ∷ ks ≡ filter q (range_with_len k (suc n)) → ks ≡ filter q (range_with_len (k + 1) n)
next-taken q k n ks e = go (q k) e
  where
    rest : List ℕ
    rest = filter q (range_with_len (k + 1) n)

    go : (b : Bool) → k ∷ ks ≡ cond b (k ∷ rest) rest → ks ≡ rest
    go true e = cc
    go false e =
        let above : list_all (λ j. nat_lt k j) rest ≡ true = all-filter (λ j. nat_lt k j) q (range_with_len (k + 1) n) (higher k (k + 1) n (omega arith)) in
        let own : k < k = ltb-true k k (and_parts (nat_lt k k) (list_all (λ j. nat_lt k j) ks) (ap (list_all (λ j. nat_lt k j)) e ∙ above)).0 in
        absurd (omega (arith, own))

-- the place is not the next that passes
pub next-passed : (q : ℕ → Bool) (k n : ℕ) (ks : List ℕ) → ks ≡ filter q (range_with_len k (suc n)) → ((js : List ℕ) → ks ≡ k ∷ js → ⊥) → ks ≡ filter q (range_with_len (k + 1) n)
next-passed q k n ks e other = go (q k) e
  where
    rest : List ℕ
    rest = filter q (range_with_len (k + 1) n)

    go : (b : Bool) → ks ≡ cond b (k ∷ rest) rest → ks ≡ rest
    go true e = absurd (other rest e)
    go false e = e

-- ---- rows at places that pass

at-drop : {X : Type 0} (l : List X) (k : ℕ) (x : X) (xs : List X) → drop k l ≡ x ∷ xs → (slice_get l k ≡ Some x) × (drop (suc k) l ≡ xs)
at-drop [] zero x xs e = cc
at-drop [] (suc k) x xs e = cc
at-drop (y ∷ l) zero x xs e = (cc, cc)
at-drop (y ∷ l) (suc k) x xs e = at-drop l k x xs e

-- what is left of the places and of the rows, where so many rows were kept, and those that are kept
pub record PlacesLeft {X : Type 0} (l : List X) (ks : List ℕ) (kept : List X) (k : ℕ) (rest : List X) : Type 0 where
  pub passes : ℕ → Bool
  pub places_left : drop (length kept) ks ≡ filter passes (range_with_len k (length rest))
  pub rows_kept : at_places l ks ≡ kept ++ at_places l (drop (length kept) ks)
  pub rows_left : drop k l ≡ rest

pub none-taken : {X : Type 0} (l : List X) (ks : List ℕ) (q : ℕ → Bool) → ks ≡ filter q (places (length l)) → PlacesLeft l ks [] 0 l
none-taken l ks q e = record { passes = q; places_left = e ∙ ap (filter q) (places-up (length l)); rows_kept = refl; rows_left = refl }

-- the same, by other names
pub left-as : {X : Type 0} (l : List X) (ks : List ℕ) (kept kept' : List X) (k k' : ℕ) (rest rest' : List X) → kept ≡ kept' → k ≡ k' → rest ≡ rest' → PlacesLeft l ks kept k rest → PlacesLeft l ks kept' k' rest'
left-as l ks kept kept' k k' rest rest' e f g h = subst (λ xs. PlacesLeft l ks xs k' rest') e (subst (λ n. PlacesLeft l ks kept n rest') f (subst (PlacesLeft l ks kept k) g h))

-- the next row is taken
pub row-taken : {X : Type 0} (l : List X) (ks : List ℕ) (kept : List X) (k : ℕ) (x : X) (rest : List X) → PlacesLeft l ks kept k (x ∷ rest) → length kept < length ks → get_or ks (length kept) 0 ≡ k
    → PlacesLeft l ks (kept ++ x ∷ []) (k + 1) rest
row-taken l ks kept k x rest L h e =
    let n = length kept in
    let here : drop n ks ≡ k ∷ drop (suc n) ks = drop-cons ks n 0 h ∙ ap (λ j. j ∷ drop (suc n) ks) e in
    let more : length (kept ++ x ∷ []) ≡ suc n = length-append kept (x ∷ []) ∙ add-one n in
    let row = at-drop l k x rest L.rows_left in
    record {
      passes = L.passes;
      places_left = ap (λ m. drop m ks) more ∙ next-taken L.passes k (length rest) (drop (suc n) ks) (sym here ∙ L.places_left);
      rows_kept =
          L.rows_kept
          ∙ ap (λ xs. kept ++ xs) (ap (at_places l) here ∙ ap (λ o. cons_option o (at_places l (drop (suc n) ks))) row.0 ∙ ap (λ m. x ∷ at_places l (drop m ks)) (sym more))
          ∙ sym (append_assoc kept (x ∷ []) (at_places l (drop (length (kept ++ x ∷ [])) ks)));
      rows_left = ap (λ m. drop m l) (add-one k) ∙ row.1;
    }

-- the next row is not taken
pub row-passed : {X : Type 0} (l : List X) (ks : List ℕ) (kept : List X) (k : ℕ) (x : X) (rest : List X) → PlacesLeft l ks kept k (x ∷ rest) → (length kept < length ks → get_or ks (length kept) 0 ≡ k → ⊥)
    → PlacesLeft l ks kept (k + 1) rest
row-passed l ks kept k x rest L other =
    record {
      passes = L.passes;
      places_left = next-passed L.passes k (length rest) (drop (length kept) ks) L.places_left (λ js e.
          let at = (at-drop ks (length kept) k js e).0 in
          other (slice_get_within ks (length kept) k at) (get_or_from_slice_get ks (length kept) k 0 at));
      rows_kept = L.rows_kept;
      rows_left = ap (λ m. drop m l) (add-one k) ∙ (at-drop l k x rest L.rows_left).1;
    }

-- ---- what a selection reaches for

pub sum-reaches : (x : NumberLiteral) (vs : List Value) → reaches (Limit.Sum x) vs ≡ reaches_sum (literal_number x)
sum-reaches (NumberLiteral.Int n) vs = refl
sum-reaches (NumberLiteral.Dec m s) vs = refl

-- the places of a selection in the program
pub limit-is : (limit x : of_limit.Limit) (bottom b : Bool) (vs : List Value) (r : result.Result (Vec ℕ) Refused) → limit ≡ x → bottom ≡ b → GivesNumbers r (top_places (reaches (limit_of x) vs) b vs)
    → GivesNumbers r (top_places (reaches (limit_of limit) vs) bottom vs)
limit-is limit x bottom b vs r e f h =
    subst (λ x. GivesNumbers r (top_places (reaches (limit_of x) vs) bottom vs)) (sym e) (subst (λ d. GivesNumbers r (top_places (reaches (limit_of x) vs) d vs)) (sym f) h)
