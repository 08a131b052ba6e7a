-- Transformations that only keep some of the instances, or put them in order, on places of a list.
use Rattle.std.proofs.Common.{◌≡◌, ℕ, ◌+◌, ◌<◌, Bool, true, false, refl, sym, ◌∙◌, ap, subst, arith, List, [], ◌∷◌, ◌++◌, ◌||◌, Option, Some, Ok, Err, get_or, length, map, drop, take, IsTrue}
use Rattle.std.specs.Prelude.{IfOk, filter, nat_lt, not, option_map, slice_get, unwrap_or, if◌then◌else◌}
use Rattle.std.specs.Bool.{then_some}
use Rattle.std.specs.Global.{Vec}
use Rattle.std.specs.List.{cons_option, list_all, list_any}
use Rattle.std.specs.declared.result.Result as result
use Rattle.std.proofs.lemmas.Bool.{and_parts, ltb-true}
use Rattle.std.proofs.lemmas.List.{get_or-map, get_or_default, length-map, map-append, take_more}
use Rattle.std.proofs.lemmas.List.Elements.{filter-append}
use Rattle.std.proofs.lemmas.List.Folds.{list_any-append, list_any_at}
use Rattle.std.proofs.lemmas.Option.{slice_get-get_or, slice_get-map}
use Rattle.edm_values.proofs.ListFacts.{all-at, all-filter, all-filter_map}
use Rattle.edm_values.proofs.TopPlaces.{element-there}
use Rattle.edm_values.specs.declared.Seen.{Seen}
use Rattle.edm_values.specs.declared.Value.{Value}
use Rattle.edm_values.specs.declared.refusals.Refused.{Refused}
use Rattle.edm_values.specs.declared.refusals.Refused.TheVariants.{Range, Memory}
use Rattle.edm_values.specs.Lists.{at_places}
use Rattle.edm_values.specs.Values.{is_beyond, is_value, seen_value, value_in}
use Rattle.edm_data.specs.Worlds.{World}
use Rattle.apply_ast.specs.Trees.{Expr}
use Rattle.apply_ast.specs.Views.{item_of}
use Rattle.apply_ast.specs.declared.items.OrderItem as code
use Rattle.apply_meaning.specs.Instances.{Instance, no_instance, val}
use Rattle.apply_meaning.specs.Meaning.{Outcome, refused_at_beyond, values}
use Rattle.apply_meaning.specs.Running.{Gives}
use Rattle.row_frames.specs.Keys.{seen_columns}
use Rattle.row_orders.specs.Places.{GivesOrder}
use Rattle.row_orders.specs.Ranks.{GivesNumbers}
use Rattle.step_run.proofs.ItemLists.{map-at_places, more-placed}
use Rattle.step_run.proofs.GroupTotalLaws.{length-placed, placed-at}
use Rattle.step_run.specs.KeptGroups.{GivesTrue, GivesTruth}

abbrev pub IsWithin : {X : Type 0} → List X → List ℕ → Type 0
IsWithin l ks = IsTrue (list_all (λ k. nat_lt k (length l)) ks)

-- ---- places among places

-- places of places are places
pub within-twice : {X : Type 0} (l : List X) (ks js : List ℕ) → IsWithin l ks → IsWithin l (at_places ks js)
within-twice l ks js h = all-filter_map (λ k. nat_lt k (length l)) (slice_get ks) js (λ j k e. all-at (λ k. nat_lt k (length l)) ks j k h e)

-- the instances at places of places are those of the instances at places
pub placed-twice : (l : List Instance) (ks js : List ℕ) → IsWithin l ks → IsWithin ks js → at_places (at_places l ks) js ≡ at_places l (at_places ks js)
placed-twice l ks [] h a = refl
placed-twice l ks (j ∷ js) h a =
    let b = and_parts (nat_lt j (length ks)) (list_all (λ j. nat_lt j (length ks)) js) a in
    let there = ltb-true j (length ks) b.0 in
    let k = get_or ks j 0 in
    let own : slice_get ks j ≡ Some k = slice_get-get_or ks j 0 there in
    let within = ltb-true k (length l) (all-at (λ k. nat_lt k (length l)) ks j k h own) in
    let long = length-placed l ks h in
    let left : slice_get (at_places l ks) j ≡ Some (get_or l k no_instance) =
    slice_get-get_or (at_places l ks) j no_instance (omega (arith, long, there)) ∙ ap Some (placed-at l ks j no_instance h there) in
    (λ i. cons_option (left i) (placed-twice l ks js h b.1 i))
    ∙ sym (ap (λ o. cons_option o (at_places l (at_places ks js))) (slice_get-get_or l k no_instance within))
    ∙ sym (ap (λ o. at_places l (cons_option o (at_places ks js))) own)

-- the values of an expression on the instances at places
pub values-placed : (w : World) (e : Expr) (l : List Instance) (ks : List ℕ) (vs : List Value) → vs ≡ values w e l → at_places vs ks ≡ values w e (at_places l ks)
values-placed w e l ks vs h = ap (λ vs. at_places vs ks) h ∙ sym (map-at_places (λ i. val w i e) l ks)

-- there are as many values as instances
pub as-many : (w : World) (e : Expr) (l : List Instance) (vs : List Value) → vs ≡ values w e l → length vs ≡ length l
as-many w e l vs h = ap length h ∙ length-map l (λ i. val w i e)

pub seen-within : (w : World) (e : Expr) (l : List Instance) (ks : List ℕ) (seen : List Seen) → map seen_value seen ≡ values w e l → IsWithin l ks → IsTrue (list_all (λ k. nat_lt k (length seen)) ks)
seen-within w e l ks seen h a = subst (λ n. IsTrue (list_all (λ k. nat_lt k n) ks)) (sym (sym (length-map seen seen_value) ∙ as-many w e l (map seen_value seen) h)) a

-- as many as places
pub own-long : (w : World) (e : Expr) (l : List Instance) (ks : List ℕ) (vs : List Value) → vs ≡ values w e (at_places l ks) → IsWithin l ks → length vs ≡ length ks
own-long w e l ks vs h a = as-many w e (at_places l ks) vs h ∙ length-placed l ks a

-- a refusal of a selection is one of its instances
pub order-numbers : (e : Refused) (m : Option (List ℕ)) (l l' : List Instance) → GivesNumbers (Err e) m → GivesOrder (Err e) l' (option_map (at_places l) m)
order-numbers Range m l l' h = ap (option_map (at_places l)) h
order-numbers Memory m l l' h = tt

-- places that are taken of places, where it is known which instances these are to be
pub order-placed : (l : List Instance) (ks js kept : List ℕ) (m : Outcome) → IsWithin l ks → IsWithin ks js → kept ≡ at_places ks js → m ≡ Some (at_places (at_places l ks) js) → m ≡ Some (at_places l kept)
order-placed l ks js kept m h a is given = given ∙ ap Some (placed-twice l ks js h a ∙ ap (at_places l) (sym is))

-- a refusal speaks of no places
pub order-refused : (e : Refused) (l l' : List Instance) (m : Outcome) → GivesOrder (Err e) l m → GivesOrder (Err e) l' m
order-refused Range l l' m h = h
order-refused Memory l l' m h = tt

-- ---- a filter

module _ (w : World) (e : Expr) (l : List Instance) (vs : List Value) (are : vs ≡ values w e l) where
  value-at : (k : ℕ) (i : Instance) → slice_get l k ≡ Some i → value_in vs k ≡ val w i e
  value-at k i h = ap (λ vs. value_in vs k) are ∙ ap (λ o. unwrap_or o Value.Null) (slice_get-map (λ i. val w i e) l k ∙ ap (option_map (λ i. val w i e)) h)

  read-values : (ks : List ℕ) → IsWithin l ks → map (value_in vs) ks ≡ values w e (at_places l ks)
  read-values [] h = refl
  read-values (k ∷ ks) h =
      let a = and_parts (nat_lt k (length l)) (list_all (λ k. nat_lt k (length l)) ks) h in
      let x = element-there l k (ltb-true k (length l) a.0) in
      (λ i. value-at k x.0 x.1 i ∷ read-values ks a.1 i) ∙ sym (ap (λ o. values w e (cons_option o (at_places l ks))) x.1)

  read-true : (ks : List ℕ) → IsWithin l ks → at_places l (filter (λ k. is_value true (value_in vs k)) ks) ≡ filter (λ i. is_value true (val w i e)) (at_places l ks)
  read-true [] h = refl
  read-true (k ∷ ks) h =
      let a = and_parts (nat_lt k (length l)) (list_all (λ k. nat_lt k (length l)) ks) h in
      let x = element-there l k (ltb-true k (length l) a.0) in
      one k x.0 ks (is_value true (value_in vs k)) x.1 (read-true ks a.1)
      ∙ ap (λ b. if b then x.0 ∷ filter (λ i. is_value true (val w i e)) (at_places l ks) else filter (λ i. is_value true (val w i e)) (at_places l ks)) (ap (is_value true) (value-at k x.0 x.1))
      ∙ sym (ap (λ o. filter (λ i. is_value true (val w i e)) (cons_option o (at_places l ks))) x.1)
    where
      one : (k : ℕ) (x : Instance) (ks : List ℕ) (b : Bool) → slice_get l k ≡ Some x → at_places l (filter (λ k. is_value true (value_in vs k)) ks) ≡ filter (λ i. is_value true (val w i e)) (at_places l ks)
          → at_places l (if b then k ∷ filter (λ k. is_value true (value_in vs k)) ks else filter (λ k. is_value true (value_in vs k)) ks)
          ≡ (if b then x ∷ filter (λ i. is_value true (val w i e)) (at_places l ks) else filter (λ i. is_value true (val w i e)) (at_places l ks))
      one k x ks true h same = λ i. cons_option (h i) (same i)
      one k x ks false h same = same

  -- what a filter keeps of the instances at places
  pub true-placed : (r : result.Result (Vec ℕ) Refused) (ks : List ℕ) → IsWithin l ks → GivesTrue r vs ks
      → GivesOrder r l (refused_at_beyond (values w e (at_places l ks)) (filter (λ i. is_value true (val w i e)) (at_places l ks)))
  true-placed (Ok v) ks h g =
      ap (λ us. refused_at_beyond us (filter (λ i. is_value true (val w i e)) (at_places l ks))) (sym (read-values ks h))
      ∙ ap (λ b. then_some (not b) (filter (λ i. is_value true (val w i e)) (at_places l ks))) g.1
      ∙ ap Some (sym (ap (at_places l) g.0 ∙ read-true ks h))
  true-placed (Err Range) ks h g =
      ap (λ us. refused_at_beyond us (filter (λ i. is_value true (val w i e)) (at_places l ks))) (sym (read-values ks h))
      ∙ ap (λ b. then_some (not b) (filter (λ i. is_value true (val w i e)) (at_places l ks))) g
  true-placed (Err Memory) ks h g = tt

-- and it keeps some of the places
pub true-within : (n : ℕ) (r : result.Result (Vec ℕ) Refused) (vs : List Value) (ks : List ℕ) → IsTrue (list_all (λ k. nat_lt k n) ks) → GivesTrue r vs ks → IfOk r (λ kept. IsTrue (list_all (λ k. nat_lt k n) kept.items))
true-within n (Ok v) vs ks h g = ap (list_all (λ k. nat_lt k n)) g.0 ∙ all-filter (λ k. nat_lt k n) (λ k. is_value true (value_in vs k)) ks h
true-within n (Err e) vs ks h g = tt

-- ---- one place more

-- a value more at places
pub more-values : (values : List Seen) (ks : List ℕ) (i : ℕ) (v : Seen) (found found' : List Value) → IsTrue (list_all (λ k. nat_lt k (length values)) ks) → i < length ks → v ≡ get_or values (get_or ks i 0) v
    → found' ≡ found ++ seen_value v ∷ [] → at_places (map seen_value values) ks ≡ found ++ at_places (map seen_value values) (drop i ks) → at_places (map seen_value values) ks ≡ found' ++ at_places (map seen_value values) (drop (i + 1) ks)
more-values values ks i v found found' a h e m before =
    let there = ltb-true (get_or ks i 0) (length values) (all-at (λ k. nat_lt k (length values)) ks i (get_or ks i 0) a (slice_get-get_or ks i 0 h)) in
    more-placed (map seen_value values) ks i (seen_value v) found found' (subst (λ n. IsTrue (list_all (λ k. nat_lt k n) ks)) (sym (length-map values seen_value)) a) h
    (ap seen_value e ∙ sym (get_or-map seen_value values (get_or ks i 0) v (seen_value v) there)) m before

pub more-seen : (values : List Seen) (ks : List ℕ) (i : ℕ) (v : Seen) (found found' : List Seen) → IsTrue (list_all (λ k. nat_lt k (length values)) ks) → i < length ks → v ≡ get_or values (get_or ks i 0) v
    → found' ≡ found ++ v ∷ [] → at_places (map seen_value values) ks ≡ map seen_value found ++ at_places (map seen_value values) (drop i ks) → at_places (map seen_value values) ks ≡ map seen_value found' ++ at_places (map seen_value values) (drop (i + 1) ks)
more-seen values ks i v found found' a h e m before = more-values values ks i v (map seen_value found) (map seen_value found') a h e (ap (map seen_value) m ∙ map-append seen_value found (v ∷ [])) before

-- the value at a place
pub seen-at : (values : List Seen) (k : ℕ) (v : Seen) → k < length values → v ≡ get_or values k v → value_in (map seen_value values) k ≡ seen_value v
seen-at values k v h e = ap (λ o. unwrap_or o Value.Null) (slice_get-map seen_value values k ∙ ap (option_map seen_value) (slice_get-get_or values k v h)) ∙ ap seen_value (sym e)

-- and at a place that is listed
pub seen-there : (values : List Seen) (ks : List ℕ) (i : ℕ) (v : Seen) → IsTrue (list_all (λ k. nat_lt k (length values)) ks) → i < length ks → v ≡ get_or values (get_or ks i 0) v → value_in (map seen_value values) (get_or ks i 0) ≡ seen_value v
seen-there values ks i v a h e = seen-at values (get_or ks i 0) v (ltb-true (get_or ks i 0) (length values) (all-at (λ k. nat_lt k (length values)) ks i (get_or ks i 0) a (slice_get-get_or ks i 0 h))) e

module _ (vs : List Value) (ks : List ℕ) (i : ℕ) (h : i < length ks) where
  abbrev at : ℕ
  at = get_or ks i 0

  taken : take (i + 1) ks ≡ take i ks ++ at ∷ []
  taken = take_more ks i 0 h

  -- a place more at which the value is known
  pub true-more : (kept kept' : List ℕ) (keep : Bool) → keep ≡ is_value true (value_in vs at) → is_beyond (value_in vs at) ≡ false → kept' ≡ kept ++ (if keep then at ∷ [] else [])
      → kept ≡ filter (λ k. is_value true (value_in vs k)) (take i ks) → list_any is_beyond (map (value_in vs) (take i ks)) ≡ false
      → (kept' ≡ filter (λ k. is_value true (value_in vs k)) (take (i + 1) ks)) × (list_any is_beyond (map (value_in vs) (take (i + 1) ks)) ≡ false)
  true-more kept kept' keep t sure m so_far none = (
    m
        ∙ (λ j. so_far j ++ (if t j then at ∷ [] else []))
        ∙ sym (filter-append (λ k. is_value true (value_in vs k)) (take i ks) (at ∷ []))
        ∙ ap (filter (λ k. is_value true (value_in vs k))) (sym taken),
    ap (λ js. list_any is_beyond (map (value_in vs) js)) taken
        ∙ ap (list_any is_beyond) (map-append (value_in vs) (take i ks) (at ∷ []))
        ∙ list_any-append is_beyond (map (value_in vs) (take i ks)) (value_in vs at ∷ [])
        ∙ (λ j. none j || (sure j || false)),
  )

  -- one value is Beyond
  pub true-beyond : is_beyond (value_in vs at) ≡ true → list_any is_beyond (map (value_in vs) ks) ≡ true
  true-beyond b =
      let size = length-map ks (value_in vs) in
      list_any_at is_beyond (map (value_in vs) ks) i (value_in vs at) (omega (arith, h, size)) (ap is_beyond (get_or-map (value_in vs) ks i 0 (value_in vs at) h) ∙ b)

pub true-err : (e : Refused) (values : List Seen) (ks : List ℕ) (i : ℕ) (v : Seen) → IsTrue (list_all (λ k. nat_lt k (length values)) ks) → i < length ks → v ≡ get_or values (get_or ks i 0) v → GivesTruth (Err e) (seen_value v) → GivesTrue (Err e) (map seen_value values) ks
true-err Range values ks i v a h e b = true-beyond (map seen_value values) ks i h (ap is_beyond (seen-there values ks i v a h e) ∙ b)
true-err Memory values ks i v a h e b = tt

-- a place more at places
pub more-places : (ks js : List ℕ) (i : ℕ) (found found' : List ℕ) → IsTrue (list_all (λ j. nat_lt j (length ks)) js) → i < length js → found' ≡ found ++ get_or ks (get_or js i 0) 0 ∷ []
    → at_places ks js ≡ found ++ at_places ks (drop i js) → at_places ks js ≡ found' ++ at_places ks (drop (i + 1) js)
more-places ks js i found found' a h m before =
    let x = get_or ks (get_or js i 0) 0 in
    let there = ltb-true (get_or js i 0) (length ks) (all-at (λ j. nat_lt j (length ks)) js i (get_or js i 0) a (slice_get-get_or js i 0 h)) in
    more-placed ks js i x found found' a h (get_or_default ks (get_or js i 0) 0 x there) m before

-- ---- orders

pub order-gives : (e : Refused) (l : List Instance) (m : Outcome) → GivesOrder (Err e) l m → Gives (Err e) m
order-gives Range l m h = h
order-gives Memory l m h = tt

pub gives-order : (e : Refused) (l : List Instance) (m : Outcome) → Gives (Err e) m → GivesOrder (Err e) l m
gives-order Range l m h = h
gives-order Memory l m h = tt

-- what was read of an item
pub read-item : (w : World) (l : List Instance) (lists : List (Vec Seen)) (xs : List code.OrderItem) (k : ℕ) (v : Vec Seen) (x : code.OrderItem) → seen_columns lists ≡ map (λ x. values w (item_of x).expr l) xs
    → k < length xs → v ≡ get_or lists k v → x ≡ get_or xs k x → map seen_value v.items ≡ values w (item_of x).expr l
read-item w l lists xs k v x read h e f =
    let read-of : Vec Seen → List Value = λ v. map (λ s. seen_value s) v.items in
    let size = length-map lists read-of in
    let same = ap length read ∙ length-map xs (λ x. values w (item_of x).expr l) in
    let within : k < length lists = omega (arith, size, same, h) in
    ap read-of e
    ∙ sym (get_or-map read-of lists k v [] within)
    ∙ ap (λ vs. get_or vs k []) read
    ∙ get_or-map (λ x. values w (item_of x).expr l) xs k x [] h
    ∙ ap (λ x. values w (item_of x).expr l) (sym f)
