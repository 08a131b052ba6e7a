-- Customs that were typed over a model, with all of its custom aggregates, give each of them its type.
use Rattle.std.proofs.Common.{◌≡◌, refl, sym, ◌∙◌, ap, subst, ℕ, zero, suc, ◌+◌, ◌<◌, Bool, true, false, List, [], ◌∷◌, ◌++◌, Option, Some, None, map, length, cond, arith, inl, inr, add-zero}
use Rattle.std.specs.Prelude.{All, find, flat_map, is_some, option_and_then, option_map, slice_get, unwrap_or}
use Rattle.std.specs.List.{enumerate_from, list_all}
use Rattle.std.proofs.lemmas.Bool.{and_from, cases_lt, eq-eqb}
use Rattle.std.proofs.lemmas.Grind.{flat_map-append}
use Rattle.std.proofs.lemmas.List.Elements.{All-nil, All-cons, All-head, All-tail, All-map, All-weaker}
use Rattle.std.proofs.lemmas.Option.{slice_get_within}
use Rattle.edm_values.specs.declared.EdmType.{EdmType}
use Rattle.edm_values.specs.Lists.{is_some_and, places, same_text}
use Rattle.edm_values.specs.Names.{Name}
use Rattle.edm_values.proofs.OptionFacts.{chained, mapped, none_or, some_value}
use Rattle.edm_values.proofs.SameTexts.{same_texts, text-self}
use Rattle.edm_values.proofs.SearchFacts.{found-passes, found-numbered}
use Rattle.edm_model.specs.Models.{Custom, EntityType, Model, Part}
use Rattle.edm_model.specs.LookUps.{custom_named, customs_of_type, item_named, type_at}
use Rattle.edm_model.specs.IdLists.{custom_entry, custom_list, customs_in}
use Rattle.edm_model.specs.declared.parts.Custom as parts
use Rattle.context_typing.specs.Readings.{AreTypedOver, IsTypedCustom, is_named, reading_of, readings}
use Rattle.context_typing.specs.Shapes.{ColumnShape, set_shape}
use Rattle.context_typing.specs.Typing.{Reading, custom_at, custom_kind, custom_risky, customs_typed, new_column}
use Rattle.context_typing.specs.declared.customs.TypedCustom.{TypedCustom}
use Rattle.context_typing.proofs.CustomFacts.{custom_found}

-- ---- what holds of all elements, and what searches find

-- what holds of all of two lists holds of all of each
all_parts : {X : Type 0} (P : X → Type 0) (xs ys : List X) → All P (xs ++ ys) → All P xs × All P ys
all_parts P [] ys a = (All-nil P, a)
all_parts P (x ∷ xs) ys a =
    let t = all_parts P xs ys (All-tail P x (xs ++ ys) a) in
    (All-cons P x xs (All-head P x (xs ++ ys) a) t.0, t.1)

-- what holds of all that a function gives on a list holds of what it gives on each element
all_mapped : {X Y : Type 0} (P : Y → Type 0) (f : X → Y) (xs : List X) → All P (map f xs) → All (λ x. P (f x)) xs
all_mapped P f [] a = All-nil (λ x. P (f x))
all_mapped P f (x ∷ xs) a = All-cons (λ x. P (f x)) x xs (All-head P (f x) (map f xs) a) (all_mapped P f xs (All-tail P (f x) (map f xs) a))

-- what holds of all that a function gives at the places of a list holds of what it gives at each
all_flat : {X : Type 0} (P : X → Type 0) (f : ℕ → List X) (n t : ℕ) → All P (flat_map f (places n)) → t < n → All P (f t)
all_flat P f zero t a h = absurd (omega arith)
all_flat P f (suc n) t a h =
    let parts = all_parts P (flat_map f (places n)) (f n ++ []) (subst (All P) (flat_map-append f (places n) (n ∷ [])) a) in
    elim (cases_lt t n) [
      | inl below ↦ all_flat P f n t parts.0 below
      | inr above ↦ (let e : n ≡ t = omega arith in subst (λ k. All P (f k)) e (all_parts P (f n) [] parts.1).0)
    ]

-- a test that the element at each place passes
all_at : {X : Type 0} (q : X → Bool) (xs : List X) → ((k : ℕ) (x : X) → slice_get xs k ≡ Some x → q x ≡ true) → list_all q xs ≡ true
all_at q [] h = refl
all_at q (x ∷ xs) h = and_from _ _ (h 0 x refl) (all_at q xs (λ k. h (suc k)))

-- the same with the places counted from a number
all_counted : {X : Type 0} (q : ℕ × X → Bool) (n : ℕ) (xs : List X) → ((k : ℕ) (x : X) → slice_get xs k ≡ Some x → q (n + k, x) ≡ true) → list_all q (enumerate_from n xs) ≡ true
all_counted q n [] h = refl
all_counted q n (x ∷ xs) h =
    and_from _ _ (ap (λ j. q (j, x)) (sym (add-zero n)) ∙ h 0 x refl)
    (all_counted q (n + 1) xs (λ k y e. let same : n + 1 + k ≡ n + suc k = omega arith in ap (λ j. q (j, y)) same ∙ h (suc k) y e))

-- a search finds something where the element passes its test
abbrev IsFound : {X : Type 0} → List X → X → Type 0
IsFound {X} xs x = (q : X → Bool) → q x ≡ true → (y : X) × (find q xs ≡ Some y)

-- so it does for each element
each_found : {X : Type 0} (xs : List X) → All (IsFound xs) xs
each_found [] = All-nil (IsFound [])
each_found (x ∷ xs) =
    All-cons (IsFound (x ∷ xs)) x xs (λ q h. (x, ap (λ b. cond b (Some x) (find q xs)) h))
    (All-weaker (IsFound xs) (IsFound (x ∷ xs)) (λ y f q h. let t = f q h in later (q x) (find q xs) t.0 t.1) xs (each_found xs))
  where
    later : (b : Bool) (o : Option _) (y : _) → o ≡ Some y → (z : _) × (cond b (Some x) o ≡ Some z)
    later true o y e = (x, refl)
    later false o y e = (y, e)

-- ---- the custom aggregates of a model

module _ (m : Model) (c : List TypedCustom) where
  -- one of the list has this id, and was typed over the model
  record HasTyped (id : Part) : Type 0 where
    custom : TypedCustom
    is : custom.read.id ≡ id
    typed : IsTypedCustom m custom
    found : IsFound c custom

  -- the list has each id that stands in it
  each_has : AreTypedOver m c → All (λ x. HasTyped x.read.id) c
  each_has typed = λ k d within. record { custom = _; is = refl; typed = typed k d within; found = each_found c k d within }

  -- it has the id of each custom aggregate of the model
  has_entries : AreTypedOver m c → map (λ x. x.read.id) c ≡ map (λ u. u.id) (custom_list m) → All (λ u. HasTyped u.id) (custom_list m)
  has_entries typed ids =
      all_mapped HasTyped (λ (u : parts.Custom). u.id) (custom_list m) (subst (All HasTyped) ids (All-map HasTyped (λ (x : TypedCustom). x.read.id) c (each_has typed)))

  -- what holds of the ids of a type's custom aggregates holds at each place
  of_entries : (P : Part → Type 0) (t n : ℕ) (us : List Custom) (k : ℕ) (u : Custom) → All (λ v. P v.id) (map (custom_entry t) (enumerate_from n us)) → slice_get us k ≡ Some u → P (record { of = t; at = n + k })
  of_entries P t n [] k u a e = none_or u e
  of_entries P t n (v ∷ us) zero u a e =
      subst (λ j. P (record { of = t; at = j })) (sym (add-zero n)) (All-head (λ v. P v.id) (custom_entry t (n, v)) (map (custom_entry t) (enumerate_from (n + 1) us)) a)
  of_entries P t n (v ∷ us) (suc k) u a e =
      let same : n + 1 + k ≡ n + suc k = omega arith in
      subst (λ j. P (record { of = t; at = j })) same
      (of_entries P t (n + 1) us k u (All-tail (λ v. P v.id) (custom_entry t (n, v)) (map (custom_entry t) (enumerate_from (n + 1) us)) a) e)

  -- what was typed under an id has the type and the name of the custom aggregate there
  name_at : (t k : ℕ) (u : Custom) (x : TypedCustom) → slice_get (customs_of_type m t) k ≡ Some u → x.read.id ≡ record { of = t; at = k } → IsTypedCustom m x → (x.owner ≡ t) × (u.name ≡ x.name)
  name_at t k u x e is typed =
      let f : ℕ × Custom → ℕ × Option EdmType × Bool = λ v. (v.0, custom_kind m v.1 (reading_of x), custom_risky m v.1 (reading_of x)) in
      let v = mapped f (custom_named m x.owner x.name) (x.read.id.at, Some x.kind, x.risky) typed.1 in
      let y = chained (λ (e : EntityType). item_named (λ (u : Custom). u.name) x.name e.customs) (type_at m x.owner) v.0 v.1 in
      let test : ℕ × Custom → Bool = λ y. same_text (y.1).name x.name in
      let place = found-numbered test 0 (y.0).customs v.0 y.2 in
      let owner : x.owner ≡ t = sym typed.0 ∙ ap (λ (p : Part). p.of) is in
      let at : place.0 ≡ k = omega (arith, place.1, ap (λ (z : ℕ × Option EdmType × Bool). z.0) v.2, ap (λ (p : Part). p.at) is) in
      let found : slice_get (customs_of_type m x.owner) place.0 ≡ Some (v.0).1 =
      ap (λ (o : Option EntityType). slice_get (unwrap_or (option_map (λ (e : EntityType). e.customs) o) []) place.0) y.1 ∙ place.2 in
      let same : u ≡ (v.0).1 = some_value (sym e ∙ (λ i. slice_get (customs_of_type m (sym owner i)) (sym at i)) ∙ found) in
      (owner, ap (λ (u : Custom). u.name) same ∙ same_texts ((v.0).1).name x.name (found-passes test (enumerate_from 0 (y.0).customs) v.0 y.2))

  -- where a column is made of the custom aggregate that was found, it has a type
  column_kind : (n : Name) (o : Option (Custom × Reading)) (d : ColumnShape) → option_and_then (λ y. option_map (λ k. new_column n k (custom_risky m y.0 y.1)) (custom_kind m y.0 y.1)) o ≡ Some d → is_some_and (λ y. is_some (custom_kind m y.0 y.1)) o ≡ true
  column_kind n None d e = none_or d e
  column_kind n (Some y) d e = ap is_some (mapped (λ k. new_column n k (custom_risky m y.0 y.1)) (custom_kind m y.0 y.1) d e).1

  -- the custom aggregate at a place has a type
  kind_at : AreTypedOver m c → (t k : ℕ) (u : Custom) → slice_get (customs_of_type m t) k ≡ Some u → HasTyped (record { of = t; at = k })
      → is_some_and (λ x. is_some (custom_kind m x.0 x.1)) (custom_at m (readings c) t u.name) ≡ true
  kind_at all t k u e has =
      let n = name_at t k u has.custom e has.is has.typed in
      let passes : is_named t u.name has.custom ≡ true =
      and_from _ _ (eq-eqb has.custom.owner t n.0) (ap (λ a. same_text a u.name) (sym n.1) ∙ text-self u.name) in
      let x = has.found (is_named t u.name) passes in
      column_kind u.name (custom_at m (readings c) t u.name) (new_column u.name x.0.kind x.0.risky)
      (custom_found m c (set_shape t) t u.name u.name x.0 all refl (sym x.1))

-- each custom aggregate of the model has a reading, and its definition a typing
pub customs_are_typed : (m : Model) (c : List TypedCustom) → AreTypedOver m c → map (λ x. x.read.id) c ≡ map (λ u. u.id) (custom_list m) → customs_typed m (readings c) ≡ true
customs_are_typed m c typed ids = all_counted of_type 0 m.types (λ t e at. all_at (of_custom (0 + t)) e.customs (λ k u there. at_place (0 + t) t e k u (omega arith) at there))
  where
    of_custom : ℕ → Custom → Bool
    of_custom t u = is_some_and (λ x. is_some (custom_kind m x.0 x.1)) (custom_at m (readings c) t u.name)

    of_type : ℕ × EntityType → Bool
    of_type t = list_all (of_custom t.0) (t.1).customs

    at_place : (j t : ℕ) (e : EntityType) (k : ℕ) (u : Custom) → j ≡ t → slice_get m.types t ≡ Some e → slice_get e.customs k ≡ Some u → of_custom j u ≡ true
    at_place j t e k u same at there =
        let stands : slice_get (customs_of_type m t) k ≡ Some u = ap (λ (o : Option EntityType). slice_get (unwrap_or (option_map (λ (e : EntityType). e.customs) o) []) k) at ∙ there in
        let has = of_entries m c (HasTyped m c) t 0 (customs_of_type m t) k u (all_flat (λ u. HasTyped m c u.id) (customs_in m) (length m.types) t (has_entries m c typed ids) (slice_get_within m.types t e at)) stands in
        let place : 0 + k ≡ k = omega arith in
        ap (λ i. of_custom i u) same ∙ kind_at m c typed t k u stands (subst (λ i. HasTyped m c (record { of = t; at = i })) place has)
