-- Entities have the same value of a property by which they refer to others exactly where they refer to the same.
use Rattle.std.proofs.Common.{◌≡◌, ℕ, zero, suc, ◌<◌, ◌≤◌, refl, sym, ◌∙◌, ap, subst, Bool, true, false, List, [], ◌∷◌, ◌++◌, ◌+◌, ◌&&◌, length, get_or, take, map, nat_eq, arith, Option, Some, None, ⊎_elim}
use Rattle.std.specs.Prelude.{Err, IfOk, IfSome, Ok, Result, if◌then◌else◌, not, option_and_then, option_map, position, slice_get, unwrap_or}
use Rattle.std.specs.List.{find, list_any}
use Rattle.std.specs.Option.{is_none}
use Rattle.std.proofs.lemmas.Bool.{and_parts, cases_lt, false≢true, or_from}
use Rattle.std.proofs.lemmas.List.{length-map, take_more}
use Rattle.std.proofs.lemmas.List.Folds.{list_any_at}
use Rattle.std.proofs.lemmas.List.Quantifiers.{position-Some}
use Rattle.std.proofs.lemmas.Option.{get_or_from_slice_get, slice_get-map, slice_get_past, slice_get_within}
use Rattle.std.proofs.lemmas.Simd.{map-map}
use Rattle.edm_values.specs.declared.Value.{Value}
use Rattle.edm_values.specs.Literals.{is_of_kind}
use Rattle.edm_values.specs.Names.{Path}
use Rattle.edm_values.specs.OrderLaws.{same_value_is}
use Rattle.edm_values.specs.Values.{is_beyond, is_null, same_value, value_in}
use Rattle.edm_model.specs.LookUps.{IsSet, navigation_at, properties_of, set_of_type, set_type}
use Rattle.edm_model.specs.Models.{Navigation, Part, Property}
use Rattle.edm_data.specs.DataFile.{Dangling, World', dangles, is_dangling, references_reading, unless_found}
use Rattle.edm_data.specs.Fitting.{FitsModel, are_values_of, is_value_of}
use Rattle.edm_data.specs.LinkLists.{LinkList, link_in}
use Rattle.edm_data.specs.References.{by_key, count, entities_of, follow, keys_of, navigations_in, property, referred}
use Rattle.edm_data.specs.Worlds.{World, Entity, all_places, entity_at}
use Rattle.edm_data.proofs.FirstPlaces.{none-in_all_places}
use Rattle.edm_data.proofs.ReferenceLemmas.{nav_at, nav_same}
use Rattle.apply_meaning.specs.Instances.{lookup}
use Rattle.row_frames.specs.declared.tables.Pick.{Pick}
use Rattle.row_frames.specs.declared.tables.Table.{Table}
use Rattle.row_frames.specs.Frames.{all_picked, picked}
use Rattle.row_frames.specs.Keys.{key_column}
use Rattle.row_frames.specs.LinkCodes.{AreTold, IsBy, IsLinkCode, link_code}
use Rattle.row_frames.specs.Own.{IsOwn}
use Rattle.value_codes.specs.Above.{AreCoded}
use Rattle.value_codes.specs.Codes.{AreCodes, CodeList}
use Rattle.value_codes.proofs.CodeLemmas.{coded-more, element, same_as}

-- ---- each reference leads to an entity

no-fault : (o : Option Entity) (w : World) → unless_found o Dangling (World' w) ≡ World' w → o ≡ None
no-fault None w h = refl
no-fault (Some e) w h = absurd cc

none-of : {X : Type 0} (p : X → Bool) (xs : List X) (i : ℕ) (x : X) → list_any p xs ≡ false → slice_get xs i ≡ Some x → p x ≡ false
none-of p xs i x none is = go (p x) refl where
  go : (b : Bool) → p x ≡ b → p x ≡ false
  go false e = e
  go true e = absurd (false≢true (sym none ∙ list_any_at p xs i x (slice_get_within xs i x is) (ap p (get_or_from_slice_get xs i x x is) ∙ e)))

lead : (w : World) (s k i : ℕ) (n : Navigation) → references_reading w ≡ World' w → k < count w s → slice_get (navigations_in w.model s) i ≡ Some n → dangles w (entity_at s k) n ≡ false
lead w s k i n sound less is =
    let none : find (is_dangling w) (all_places w.entities) ≡ None = no-fault (find (is_dangling w) (all_places w.entities)) w sound in
    none-of (dangles w (entity_at s k)) (navigations_in w.model s) i n (none-in_all_places (is_dangling w) w.entities none s k less) is

-- ---- the value that an entity refers by

abbrev at_of : Option Entity → Option ℕ
at_of o = option_map (λ e. e.at) o

-- what a value refers to, and the value that refers to it
abbrev led : World → ℕ → Value → Option ℕ
led w t v = at_of (if is_null v then None else by_key w t v)

abbrev leading : World → ℕ → Option ℕ → Value
leading w t None = Value.Null
leading w t (Some x) = get_or (keys_of w t) x Value.Null

null-is : (v : Value) → is_null v ≡ true → v ≡ Value.Null
null-is Value.Null h = refl
null-is (Value.Bool b) h = absurd (false≢true h)
null-is (Value.Int z) h = absurd (false≢true h)
null-is (Value.Dec d) h = absurd (false≢true h)
null-is (Value.Text t) h = absurd (false≢true h)
null-is (Value.Day d) h = absurd (false≢true h)
null-is Value.Beyond h = absurd (false≢true h)

found-key : (w : World) (t : ℕ) (v : Value) (o : Option ℕ) → position (same_value v) (keys_of w t) ≡ o → is_none (option_map (entity_at t) o) ≡ false → v ≡ leading w t (at_of (option_map (entity_at t) o))
found-key w t v None is there = absurd (false≢true (sym there))
found-key w t v (Some x) is there = let r = position-Some (same_value v) (keys_of w t) x Value.Null is in same_value_is v (get_or (keys_of w t) x Value.Null) r.1

back-led : (w : World) (t : ℕ) (v : Value) → (is_null v ≡ false → is_none (by_key w t v) ≡ false) → v ≡ leading w t (led w t v)
back-led w t v there = go (is_null v) refl where
  go : (b : Bool) → is_null v ≡ b → v ≡ leading w t (led w t v)
  go true h = null-is v h ∙ sym (ap (λ b. leading w t (at_of (if b then None else by_key w t v))) h)
  go false h =
      found-key w t v (position (same_value v) (keys_of w t)) refl (there h)
      ∙ sym (ap (λ b. leading w t (at_of (if b then None else by_key w t v))) h)

same-code : (a b : Option ℕ) → link_code a ≡ link_code b → a ≡ b
same-code None None h = refl
same-code None (Some k) h = absurd (omega arith)
same-code (Some k) None h = absurd (omega arith)
same-code (Some j) (Some k) h = ap Some (omega arith)

-- no value past the end
past-end : (w : World) (s k q : ℕ) → count w s ≤ k → property w (entity_at s k) q ≡ Value.Null
past-end w s k q past = ap (λ o. value_in (unwrap_or o []) q) (slice_get_past (entities_of w s) k past)

none-there : (v : Value) (m d : Bool) → m ≡ false → (not m && not (is_null v) && d) ≡ false → is_null v ≡ false → d ≡ false
none-there v m d one h full = ap (λ b. b && d) (sym (ap not full)) ∙ ap (λ b. not b && not (is_null v) && d) (sym one) ∙ h

module _ (w : World) (s q : ℕ) (n : Part) (N : Navigation) (sound : references_reading w ≡ World' w) (at : navigation_at w.model s n.at ≡ Some N) (one : N.many ≡ false) (by : N.dependent ≡ q) where
  abbrev t : ℕ
  t = set_of_type w.model N.target

  abbrev value : ℕ → Value
  value k = property w (entity_at s k) q

  follows : (k : ℕ) → at_of (follow w (entity_at s k) n.at) ≡ led w t (value k)
  follows k =
      ap (λ o. at_of (option_and_then (λ (x : Navigation). if x.many then None else referred w (entity_at s k) x) o)) at
      ∙ ap (λ b. at_of (if b then None else referred w (entity_at s k) N)) one
      ∙ ap (λ p. led w t (property w (entity_at s k) p)) by

  answered : (k : ℕ) → k < count w s → is_null (value k) ≡ false → is_none (by_key w t (value k)) ≡ false
  answered k less full =
      let quiet = lead w s k n.at N sound less (sym (nav_at w.model s n.at) ∙ at) in
      let own : is_null (property w (entity_at s k) N.dependent) ≡ false = ap (λ p. is_null (property w (entity_at s k) p)) by ∙ full in
      let none : is_none (referred w (entity_at s k) N) ≡ false = none-there (property w (entity_at s k) N.dependent) N.many (is_none (referred w (entity_at s k) N)) one quiet own in
      sym (ap (λ b. is_none (if b then None else by_key w t (property w (entity_at s k) N.dependent))) own ∙ ap (λ p. is_none (by_key w t (property w (entity_at s k) p))) by) ∙ none

  shown : (k : ℕ) → value k ≡ leading w t (led w t (value k))
  shown k = ⊎_elim
      (λ less. back-led w t (value k) (answered k less))
      (λ past. let null = past-end w s k q past in null ∙ sym (ap (λ v. leading w t (led w t v)) null))
      (cases_lt k (count w s))

  pub told : AreTold w s q (λ k. at_of (follow w (entity_at s k) n.at))
  told j k =
      same_as (value j) (value k) (link_code (led w t (value j))) (link_code (led w t (value k)))
      (λ h. ap (λ v. link_code (led w t v)) h)
      (λ h. shown j ∙ ap (leading w t) (same-code (led w t (value j)) (led w t (value k)) h) ∙ sym (shown k))
      ∙ (λ i. nat_eq (link_code (sym (follows j) i)) (link_code (sym (follows k) i)))

-- by a navigation of the set's type
pub told-by : (w : World) (s q : ℕ) (n : Part) → references_reading w ≡ World' w → IsSet w.model s → n.of ≡ set_type w.model s → IsBy w.model n q → AreTold w s q (λ k. at_of (follow w (entity_at s k) n.at))
told-by w s q n sound there type by = told w s q n by.navigation sound (sym (nav_same w.model s n there type) ∙ by.is) by.one by.dependent

-- ---- no value is Beyond

quiet-value : (p : Property) (v : Value) → is_value_of p v ≡ true → is_beyond v ≡ false
quiet-value p Value.Null h = refl
quiet-value p (Value.Bool b) h = refl
quiet-value p (Value.Int z) h = refl
quiet-value p (Value.Dec d) h = refl
quiet-value p (Value.Text t) h = refl
quiet-value p (Value.Day d) h = refl
quiet-value p Value.Beyond h = absurd (false≢true (and_parts (is_of_kind p.kind Value.Beyond) false h).1)

quiet-row : (ps : List Property) (vs : List Value) (k : ℕ) → are_values_of ps vs ≡ true → is_beyond (value_in vs k) ≡ false
quiet-row ps [] k h = refl
quiet-row [] (v ∷ vs) k h = absurd (false≢true h)
quiet-row (p ∷ ps) (v ∷ vs) zero h = quiet-value p v (and_parts (is_value_of p v) (are_values_of ps vs) h).0
quiet-row (p ∷ ps) (v ∷ vs) (suc k) h = quiet-row ps vs k (and_parts (is_value_of p v) (are_values_of ps vs) h).1

property-quiet : (w : World) (e : Entity) (q : ℕ) → FitsModel w → is_beyond (property w e q) ≡ false
property-quiet w e q F = go (slice_get (entities_of w e.set) e.at) refl where
  go : (o : Option (List Value)) → slice_get (entities_of w e.set) e.at ≡ o → is_beyond (property w e q) ≡ false
  go None h = ap (λ o. is_beyond (value_in (unwrap_or o []) q)) h
  go (Some vs) h = ap (λ o. is_beyond (value_in (unwrap_or o []) q)) h ∙ quiet-row (properties_of w.model (set_type w.model e.set)) vs q (F.rows e.set e.at vs h)

-- ---- the numbers of rows that are picked

module _ (w : World) (p : Path) (s q : ℕ) (ts : List Table) (links : LinkList) (fits : FitsModel w) (own : (x : Pick) → x.table < length ts → IsOwn w p s q (picked ts x)) (are : AreTold w s q (link_in links)) where
  abbrev path_value : Pick → Value
  path_value x = lookup w (picked ts x) p

  code-is : (x : Pick) (c : ℕ) (o : IsOwn w p s q (picked ts x)) → IsLinkCode ts links x c → c ≡ link_code (link_in links o.at)
  code-is x c o is = subst (λ r. IfSome r (λ e. c ≡ link_code (link_in links e.at))) o.root is.code

  same-rows : (x y : Pick) (a b : ℕ) → IsLinkCode ts links x a → IsLinkCode ts links y b → same_value (path_value x) (path_value y) ≡ nat_eq a b
  same-rows x y a b first second =
      let o = own x first.within in
      let r = own y second.within in
      (λ i. same_value (o.value i) (r.value i)) ∙ are o.at r.at ∙ (λ i. nat_eq (sym (code-is x a o first) i) (sym (code-is y b r second) i))

  value-at : (xs : List Pick) (k : ℕ) (x : Pick) → slice_get xs k ≡ Some x → value_in (map path_value xs) k ≡ path_value x
  value-at xs k x is = ap (λ o. unwrap_or o Value.Null) (slice_get-map path_value xs k ∙ ap (option_map path_value) is)

  quiet-rows : (xs : List Pick) (cs : List ℕ) → AreCoded (IsLinkCode ts links) xs cs → list_any is_beyond (map path_value xs) ≡ false
  quiet-rows xs cs coded = all xs (λ k x is. let here = coded.each k x is in let o = own x here.within in ap is_beyond o.value ∙ property-quiet w (entity_at s o.at) q fits) where
    all : (ys : List Pick) → ((k : ℕ) (x : Pick) → slice_get ys k ≡ Some x → is_beyond (path_value x) ≡ false) → list_any is_beyond (map path_value ys) ≡ false
    all [] h = refl
    all (y ∷ ys) h = or_from _ _ (h 0 y refl) (all ys (λ k x is. h (suc k) x is))

  coded-rows : (xs : List Pick) (c : CodeList) → AreCoded (IsLinkCode ts links) xs c.codes → AreCodes (map path_value xs) c
  coded-rows xs c coded = record {
    size = coded.size ∙ sym (length-map xs path_value);
    same = λ i j first second.
        let x = element xs i (let e = length-map xs path_value in omega (arith, e, first)) in
        let y = element xs j (let e = length-map xs path_value in omega (arith, e, second)) in
        (λ k. same_value (value-at xs i x.0 x.1 k) (value-at xs j y.0 y.1 k)) ∙ same-rows x.0 y.0 (get_or c.codes i 0) (get_or c.codes j 0) (coded.each i x.0 x.1) (coded.each j y.0 y.1);
  }

  -- the values of the path on the instances
  abbrev pub HasCodes : List Pick → CodeList → Type 0
  HasCodes xs c = AreCodes (key_column w (all_picked ts xs) p) c × (list_any is_beyond (key_column w (all_picked ts xs) p) ≡ false)

  pub codes-by-links : (xs : List Pick) (c : CodeList) → AreCoded (IsLinkCode ts links) xs c.codes → HasCodes xs c
  codes-by-links xs c coded =
      let across : key_column w (all_picked ts xs) p ≡ map path_value xs = map-map (λ i. lookup w i p) (picked ts) xs in
      (subst (λ vs. AreCodes vs c) (sym across) (coded-rows xs c coded), ap (list_any is_beyond) across ∙ quiet-rows xs c.codes coded)

-- the number of one row more
pub coded-at : {X : Type 0} (R : X → ℕ → Type 0) (xs : List X) (cs : List ℕ) (k : ℕ) (d : X) (c : ℕ) → k < length xs → AreCoded R (take k xs) cs → R (get_or xs k d) c → AreCoded R (take (k + 1) xs) (cs ++ c ∷ [])
coded-at R xs cs k d c within coded here = subst (λ l. AreCoded R l (cs ++ c ∷ [])) (sym (take_more xs k d within)) (coded-more R (take k xs) cs (get_or xs k d) c coded here)

-- and of what was made of them, where memory was enough
pub made-by-links : {E : Type 0} (w : World) (p : Path) (s q n : ℕ) (ts : List Table) (links links' : LinkList) (xs : List Pick) (r : Result (Option CodeList) E) → FitsModel w
    → ((x : Pick) → x.table < length ts → IsOwn w p s q (picked ts x))
    → AreTold w s q (λ k. option_map (λ (e : Entity). e.at) (follow w (entity_at s k) n)) → ((k : ℕ) → link_in links k ≡ option_map (λ (e : Entity). e.at) (follow w (entity_at s k) n)) → links' ≡ links
    → IfOk r (λ o. IfSome o (λ (c : CodeList). AreCoded (IsLinkCode ts links') xs c.codes))
    → IfOk r (λ o. IfSome o (AreCodes (key_column w (all_picked ts xs) p))) × IfOk r (λ o. IfSome o (λ _. list_any is_beyond (key_column w (all_picked ts xs) p) ≡ false))
made-by-links w p s q n ts links links' xs (Err e) fits own are kept same coded = (tt, tt)
made-by-links w p s q n ts links links' xs (Ok None) fits own are kept same coded = (tt, tt)
made-by-links w p s q n ts links links' xs (Ok (Some c)) fits own are kept same coded =
    let told : AreTold w s q (link_in links) = λ j k. are j k ∙ (λ i. nat_eq (link_code (sym (kept j) i)) (link_code (sym (kept k) i))) in
    codes-by-links w p s q ts links fits own told xs c (subst (λ ls. AreCoded (IsLinkCode ts ls) xs c.codes) same coded)
