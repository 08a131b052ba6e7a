-- The entity of a set that has a key is the only one on which a test of the key is true.
use Rattle.std.proofs.Common.{◌≡◌, ℕ, zero, suc, ◌<◌, ◌≤◌, refl, sym, ◌∙◌, ap, Bool, true, false, List, [], ◌∷◌, ◌++◌, map, cond, get_or, Less, Equal, Greater, arith, subst, IsTrue, Option, Some, None, ⊎_elim}
use Rattle.std.specs.Prelude.{ℤ, filter, nat_eq, option_map, position, slice_get, unwrap_or}
use Rattle.std.specs.List.{list_any}
use Rattle.std.specs.Ordering.{is_eq, ordering_then}
use Rattle.std.specs.declared.cmp.Ordering.{Ordering}
use Rattle.std.proofs.lemmas.Bool.{and_parts, cases_lt, eq-eqb, eqb-true, false≢true, ne_eqb, or_from}
use Rattle.std.proofs.lemmas.List.{length-map}
use Rattle.std.proofs.lemmas.List.Elements.{filter-append}
use Rattle.std.proofs.lemmas.List.Quantifiers.{position-Some}
use Rattle.edm_values.specs.declared.EdmType.{EdmType}
use Rattle.edm_values.specs.declared.Value.{Value}
use Rattle.edm_values.specs.Lists.{places}
use Rattle.edm_values.specs.Literals.{is_of_kind}
use Rattle.edm_values.specs.Names.{Path}
use Rattle.edm_values.specs.OrderLaws.{same_value_is, same_value_itself}
use Rattle.edm_values.specs.Values.{equal, is_beyond, is_value, number_cmp, same_value, value_in}
use Rattle.edm_values.proofs.OptionFacts.{mapped, same_bool, some_value}
use Rattle.edm_model.specs.LookUps.{IsSet, key_at, key_of, properties_of, property_at, set_type}
use Rattle.edm_model.specs.Models.{Model, Part, Property}
use Rattle.edm_data.specs.DataFile.{World', keys_reading}
use Rattle.edm_data.specs.Fitting.{FitsModel, are_values_of, is_value_of}
use Rattle.edm_data.specs.References.{by_key, count, entities_of, key, keys_of, property}
use Rattle.edm_data.specs.Worlds.{World, Entity, entity_at}
use Rattle.edm_data.proofs.TableLemmas.{key_place}
use Rattle.apply_ast.specs.Trees.{Expr}
use Rattle.apply_meaning.specs.Instances.{Instance, entity_instance, lookup, rows, val}
use Rattle.apply_meaning.specs.Meaning.{values}
use Rattle.apply_meaning.specs.MeaningLaws.{IsLoaded}
use Rattle.row_frames.specs.Own.{IsOwn}
use Rattle.row_frames.specs.Related.{placed}
use Rattle.hier_rows.proofs.KeptLaws.{property-quiet}
use Rattle.hier_rows.proofs.KeyLaws.{found-by-key, key-here}
use Rattle.frame_run.specs.Front.{IsKeyPath, IsSought}
use Rattle.frame_run.specs.HeldRows.{entity_list, first_of}

-- ---- values that are equal exactly where they are one

same-other : (a b : Value) → same_value a b ≡ same_value b a
same-other a b = same_bool (same_value a b) (same_value b a)
    (λ h. ap (λ x. same_value x a) (sym (same_value_is a b h)) ∙ same_value_itself a)
    (λ h. ap (λ x. same_value x b) (sym (same_value_is b a h)) ∙ same_value_itself b)

-- a text beside any value
pub text-sought : (t : List ℕ) (x : Value) → is_beyond x ≡ false → IsSought (Value.Text t) x
text-sought t Value.Null h = record { same = refl; quiet = refl }
text-sought t (Value.Bool b) h = record { same = refl; quiet = refl }
text-sought t (Value.Int z) h = record { same = refl; quiet = refl }
text-sought t (Value.Dec d) h = record { same = refl; quiet = refl }
text-sought t (Value.Text s) h = record { same = same-other (Value.Text s) (Value.Text t); quiet = refl }
text-sought t (Value.Day d) h = record { same = refl; quiet = refl }
text-sought t Value.Beyond h = absurd (false≢true (sym h))

-- an integer beside a value of the type of integers
pub int-sought : (z : ℤ) (x : Value) → IsTrue (is_of_kind EdmType.Int x) → is_beyond x ≡ false → IsSought (Value.Int z) x
int-sought z Value.Null k h = record { same = refl; quiet = refl }
int-sought z (Value.Bool b) k h = absurd (false≢true k)
int-sought z (Value.Int y) k h = record { same = equal-same y z; quiet = refl }
  where
    then-equal : (o : Ordering) → o ≡ ordering_then o Equal
    then-equal Less = refl
    then-equal Equal = refl
    then-equal Greater = refl

    equal-same : (y z : ℤ) → is_value true (equal (Value.Int y) (Value.Int z)) ≡ same_value (Value.Int z) (Value.Int y)
    equal-same y z = ap is_eq (then-equal (number_cmp (y, 0) (z, 0))) ∙ same-other (Value.Int y) (Value.Int z)
int-sought z (Value.Dec d) k h = absurd (false≢true k)
int-sought z (Value.Text t) k h = absurd (false≢true k)
int-sought z (Value.Day d) k h = absurd (false≢true k)
int-sought z Value.Beyond k h = absurd (false≢true (sym h))

-- ---- keys

value-kind : (p : Property) (v : Value) → is_value_of p v ≡ true → IsTrue (is_of_kind p.kind v)
value-kind p Value.Null h = refl
value-kind p (Value.Bool b) h = (and_parts _ _ h).0
value-kind p (Value.Int z) h = (and_parts _ _ h).0
value-kind p (Value.Dec d) h = (and_parts _ _ h).0
value-kind p (Value.Text t) h = (and_parts _ _ h).0
value-kind p (Value.Day d) h = (and_parts _ _ h).0
value-kind p Value.Beyond h = refl

row-kind : (ps : List Property) (vs : List Value) (k : ℕ) (p : Property) → are_values_of ps vs ≡ true → slice_get ps k ≡ Some p → IsTrue (is_of_kind p.kind (value_in vs k))
row-kind [] vs k p h e = cc
row-kind (q ∷ ps) [] k p h e = absurd (false≢true h)
row-kind (q ∷ ps) (v ∷ vs) zero p h e =
    let same : q ≡ p = cc in
    value-kind p v (ap (λ (r : Property). is_value_of r v) (sym same) ∙ (and_parts (is_value_of q v) (are_values_of ps vs) h).0)
row-kind (q ∷ ps) (v ∷ vs) (suc k) p h e = row-kind ps vs k p (and_parts (is_value_of q v) (are_values_of ps vs) h).1 e

-- the value of a property is of its type
pub property-kind : (w : World) (s k q : ℕ) (p : Property) → FitsModel w → slice_get (properties_of w.model (set_type w.model s)) q ≡ Some p → IsTrue (is_of_kind p.kind (property w (entity_at s k) q))
property-kind w s k q p F at = go (slice_get (entities_of w s) k) refl
  where
    go : (o : Option (List Value)) → slice_get (entities_of w s) k ≡ o → IsTrue (is_of_kind p.kind (property w (entity_at s k) q))
    go None h = ap (λ o. is_of_kind p.kind (value_in (unwrap_or o []) q)) h
    go (Some vs) h = ap (λ o. is_of_kind p.kind (value_in (unwrap_or o []) q)) h ∙ row-kind (properties_of w.model (set_type w.model s)) vs q p (F.rows s k vs h) at

-- the path is the key of the set's entities
pub key-path : (w : World) (p : Path) (s own q : ℕ) (kind : EdmType) (m : Model) (t : ℕ) (K : Part) → IsLoaded w → IsSet w.model s → ((k : ℕ) → IsOwn w p own q (placed s k))
    → m ≡ w.model → t ≡ set_type m s → K ≡ key_of m t → q ≡ K.at → option_map (λ x. x.kind) (property_at m K) ≡ Some kind → (k : ℕ) → IsKeyPath w p s kind k
key-path w p s own q kind m t K L there is em et eK eq ek k =
    let i = is k in
    let e : entity_at s k ≡ entity_at own i.at = some_value i.root in
    let T = set_type w.model s in
    let type : t ≡ T = et ∙ ap (λ (m : Model). set_type m s) em in
    let key-is : K ≡ key_of w.model T = eK ∙ (λ j. key_of (em j) (type j)) in
    let place : q ≡ key_at w.model s = eq ∙ ap (λ (x : Part). x.at) key-is ∙ key_place w.model s there in
    let found = mapped (λ (x : Property). x.kind) (property_at m K) kind ek in
    let at : slice_get (properties_of w.model T) (key_at w.model s) ≡ Some found.0 =
    ap (slice_get (properties_of w.model T)) (sym (key_place w.model s there)) ∙ (λ j. property_at (sym em j) (sym key-is j)) ∙ found.1 in
    record {
      value = i.value ∙ ap (λ y. property w y q) (sym e) ∙ ap (property w (entity_at s k)) place;
      kind = subst (λ x. IsTrue (is_of_kind x (key w (entity_at s k)))) found.2 (property-kind w s k (key_at w.model s) found.0 L.lists at);
      quiet = property-quiet w (entity_at s k) (key_at w.model s) L.lists;
    }

-- ---- what passes among places

filter-below : (p q : ℕ → Bool) (n : ℕ) → ((k : ℕ) → k < n → p k ≡ q k) → filter p (places n) ≡ filter q (places n)
filter-below p q zero h = refl
filter-below p q (suc n) h =
    filter-append p (places n) (n ∷ [])
    ∙ (λ i. filter-below p q n (λ k less. h k (omega (arith, less))) i ++ cond (h n (omega arith) i) (n ∷ []) [])
    ∙ sym (filter-append q (places n) (n ∷ []))

filter-nothing : (xs : List ℕ) → filter (λ k. false) xs ≡ []
filter-nothing [] = refl
filter-nothing (x ∷ xs) = filter-nothing xs

filter-past : (j n : ℕ) → n ≤ j → filter (λ k. nat_eq k j) (places n) ≡ []
filter-past j n h = filter-below (λ k. nat_eq k j) (λ k. false) n (λ k less. ne_eqb k j (λ e. absurd (omega (arith, h, less, e)))) ∙ filter-nothing (places n)

filter-one : (j n : ℕ) → j < n → filter (λ k. nat_eq k j) (places n) ≡ j ∷ []
filter-one j zero h = absurd (omega (arith, h))
filter-one j (suc n) h = ⊎_elim
    (λ less.
    filter-append (λ k. nat_eq k j) (places n) (n ∷ [])
    ∙ (λ i. filter-one j n less i ++ cond (ne_eqb n j (λ e. absurd (omega (arith, less, e))) i) (n ∷ []) []))
    (λ more.
    let same : n ≡ j = omega (arith, h, more) in
    filter-append (λ k. nat_eq k j) (places n) (n ∷ [])
    ∙ (λ i. filter-past j n more i ++ cond (eq-eqb n j same i) (same i ∷ []) []))
    (cases_lt j n)

filter-placed : (P : Instance → Bool) (s : ℕ) (ks : List ℕ) → filter P (map (placed s) ks) ≡ map (placed s) (filter (λ k. P (placed s k)) ks)
filter-placed P s [] = refl
filter-placed P s (k ∷ ks) =
    (elim (P (placed s k)) as (λ b. cond b (placed s k ∷ filter P (map (placed s) ks)) (filter P (map (placed s) ks)) ≡ map (placed s) (cond b (k ∷ filter (λ j. P (placed s j)) ks) (filter (λ j. P (placed s j)) ks)))
    [ true ↦ ap (λ l. placed s k ∷ l) (filter-placed P s ks) | false ↦ filter-placed P s ks ])

-- ---- the entity that has a key

-- the place of an entity that is found
abbrev at_list : Option Entity → List ℕ
at_list None = []
at_list (Some e) = e.at ∷ []

key-is : (w : World) (s k : ℕ) (v : Value) → k < count w s → get_or (keys_of w s) k (value_in [] (key_at w.model s)) ≡ key w (entity_at s k)
key-is w s k v h = key-here (entities_of w s) (λ vs. value_in vs (key_at w.model s)) [] [] k h

only-place : (w : World) (s : ℕ) (v : Value) → keys_reading w ≡ World' w → filter (λ k. same_value v (key w (entity_at s k))) (places (count w s)) ≡ at_list (by_key w s v)
only-place w s v distinct = go (by_key w s v) refl
  where
    go : (o : Option Entity) → by_key w s v ≡ o → filter (λ k. same_value v (key w (entity_at s k))) (places (count w s)) ≡ at_list o
    go None e =
        filter-below _ (λ k. false) (count w s)
        (λ k less. same_bool (same_value v (key w (entity_at s k))) false (λ t. absurd (let h : None ≡ Some (entity_at s k) = sym e ∙ found-by-key w s k v distinct less t in cc)) (λ t. absurd (false≢true t)))
        ∙ filter-nothing (places (count w s))
    go (Some x) e =
        let m = mapped (entity_at s) (position (same_value v) (keys_of w s)) x e in
        let j = m.0 in
        let is : entity_at s j ≡ x = m.2 in
        let r = position-Some (same_value v) (keys_of w s) j (value_in [] (key_at w.model s)) m.1 in
        let within = r.0 in
        let size = length-map (entities_of w s) (λ vs. value_in vs (key_at w.model s)) in
        let less : j < count w s = omega (arith, within, size) in
        let here : same_value v (key w (entity_at s j)) ≡ true = ap (same_value v) (sym (key-is w s j v less)) ∙ r.1 in
        filter-below _ (λ k. nat_eq k j) (count w s)
        (λ k low. same_bool (same_value v (key w (entity_at s k))) (nat_eq k j)
        (λ t. eq-eqb k j (ap (λ (y : Entity). y.at) (some_value (sym (found-by-key w s k v distinct low t) ∙ e ∙ ap Some (sym is)))))
        (λ t. ap (λ i. same_value v (key w (entity_at s i))) (eqb-true k j t) ∙ here))
        ∙ filter-one j (count w s) less
        ∙ ap (λ (y : Entity). y.at ∷ []) is

listed-here : (s : ℕ) (o : Option Entity) → map (placed s) (at_list o) ≡ entity_list s (option_map (λ e. e.at) o)
listed-here s None = refl
listed-here s (Some e) = refl

module _ (w : World) (s n : ℕ) (p : Path) (e : Expr) (v : Value) (kind : EdmType) (says : (i : Instance) → val w i e ≡ equal (lookup w i p) v) (keys : (k : ℕ) → IsKeyPath w p s kind k)
    (sought : (x : Value) → IsTrue (is_of_kind kind x) → is_beyond x ≡ false → IsSought v x) where
  value-here : (k : ℕ) → val w (placed s k) e ≡ equal (key w (entity_at s k)) v
  value-here k = says (placed s k) ∙ ap (λ x. equal x v) (keys k).value

  asked : (k : ℕ) → IsSought v (key w (entity_at s k))
  asked k = sought (key w (entity_at s k)) (keys k).kind (keys k).quiet

  -- where the expression is true
  pub keyed-only : n ≡ count w s → keys_reading w ≡ World' w → filter (λ i. is_value true (val w i e)) (first_of s n) ≡ entity_list s (option_map (λ x. x.at) (by_key w s v))
  keyed-only size distinct =
      ap (λ m. filter (λ i. is_value true (val w i e)) (first_of s m)) size
      ∙ filter-placed (λ i. is_value true (val w i e)) s (places (count w s))
      ∙ ap (map (placed s)) (filter-below _ (λ k. same_value v (key w (entity_at s k))) (count w s) (λ k less. ap (is_value true) (value-here k) ∙ (asked k).same) ∙ only-place w s v distinct)
      ∙ listed-here s (by_key w s v)

  quiet-places : (ks : List ℕ) → list_any is_beyond (values w e (map (placed s) ks)) ≡ false
  quiet-places [] = refl
  quiet-places (k ∷ ks) = or_from _ _ (ap is_beyond (value-here k) ∙ (asked k).quiet) (quiet-places ks)

  -- no value is Beyond
  pub keyed-quiet : list_any is_beyond (values w e (first_of s n)) ≡ false
  keyed-quiet = quiet-places (places n)

-- ---- all entities of a set

pub first-rows : (w : World) (s n : ℕ) → n ≡ count w s → first_of s n ≡ rows w s
first-rows w s n e = ap (first_of s) e ∙ go (places (count w s))
  where
    go : (ks : List ℕ) → map (placed s) ks ≡ map entity_instance (map (entity_at s) ks)
    go [] = refl
    go (k ∷ ks) = ap (λ l. placed s k ∷ l) (go ks)
