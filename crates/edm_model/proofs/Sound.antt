-- What holds of the model of an accepted tree.
use Rattle.std.proofs.Common.{◌≡◌, ℕ, ◌<◌, ◌==◌, Bool, true, false, not, List, [], ◌∷◌, ◌++◌, get_or, map, length, Some, None, refl, sym, ◌∙◌, ap, subst, arith, nat_eq, codes}
use Rattle.std.specs.Prelude.{◌&&◌, if◌then◌else◌, Option, option_map, option_and_then, unwrap_or, is_none, slice_get, nat_le}
use Rattle.std.specs.List.{list_all}
use Rattle.std.proofs.lemmas.Bool.{false≢true, not-true}
use Rattle.std.proofs.lemmas.Bool.Decides.{nat_tests}
use Rattle.std.proofs.lemmas.List.Quantifiers.{position-Some}
use Rattle.std.proofs.lemmas.Option.{none-some, same_Some, slice_get-map, slice_get_within, slice_get-get_or}
use Rattle.serde_json.specs.Data.{Data, null}
use Rattle.serde_json.specs.Find.{get}
use Rattle.edm_values.specs.Lists.{is_some_and, exactly_one, same_text}
use Rattle.edm_values.specs.declared.EdmType.{EdmType}
use Rattle.edm_values.specs.Literals.{same_kind}
use Rattle.edm_values.specs.Parts.{scale_max}
use Rattle.edm_values.specs.Values.{precision_max}
use Rattle.edm_model.specs.Models.{Property, Navigation, Hierarchy, Custom, EntityType, EntitySet, Part}
use Rattle.edm_model.specs.LookUps.{properties_of, navigations_of, hierarchies_of_type, property_at, navigation_on, hierarchy_on, key_of, set_type, set_of_type, IsType, IsSet, IsProperty, IsNavigation}
use Rattle.edm_schema.specs.JsonTrees.{Member, is_true, lacks, text_at, whole_number}
use Rattle.edm_schema.specs.ModelTrees.{is_model, type_tree, type_members, type_place, set_members, property_members, navigation_members, term_members, hierarchy_term, key_name, member_place, named, kind_of, property_kind, is_nullable, is_key_kind, is_navigable, is_constrained, has_partner, is_reference_to, leads_to, is_entity_set, constraint, namespace, is_hierarchy, precision_of, scale_of, decimal_kind, kind_name, whole_between}
use Rattle.edm_model.specs.ModelFile.{model_of, property_of, navigation_of, set_of, is_many, partner_place, target_of}
use Rattle.edm_model.specs.Soundness.{IsSound, IsReference, AreOfOneKind, is_declared_kind}
use Rattle.edm_schema.specs.NameOrders.{InOrder}
use Rattle.edm_schema.proofs.Mapped.{length-mapped}
use Rattle.edm_model.proofs.Accepted.{in_types, of_types, type_passes}
use Rattle.edm_model.proofs.IdLaws.{places_within, parts_there, all_parts_there, all_customs_there}
use Rattle.edm_model.proofs.NameLaws.{set_names, type_names, property_names, navigation_names, qualifiers, custom_names, properties_are_no_navigations, customs_are_no_properties, customs_are_no_navigations, sets_in_order, types_in_order, properties_in_order, navigations_in_order, hierarchies_in_order, customs_in_order, found_place_of, found_named}
use Rattle.edm_schema.proofs.Passing.{find_place, one_place, only_place}
use Rattle.edm_model.proofs.Places.{within_types}
use Rattle.edm_model.proofs.SetEach.{set_each_same}
use Rattle.edm_model.proofs.TreeParts.{key_is, property_here, property_there, is_property_at, navigation_here, navigation_there, hierarchy_here}
use Rattle.edm_values.proofs.OptionFacts.{some_there, chained, some_and, mapped}
use Rattle.edm_values.proofs.EachLemmas.{and-left, and-right}
use Rattle.edm_values.proofs.ListFacts.{all-at}
use Rattle.edm_values.proofs.PlaceFacts.{all-place}

-- the member of a name, with its place
pub named_at : (ms : List Member) (name : List ℕ) (x : Data) → named ms name ≡ Some x → (k : ℕ) × (m : Member) × (member_place ms name ≡ Some k) × (slice_get ms k ≡ Some m) × (m.1 ≡ x)
named_at ms name x h =
    let f = mapped (λ (m : Member). m.1) _ x h in
    let r = find_place (λ (m : Member). same_text m.0 name) ms f.0 f.1 in
    (r.0, f.0, r.1, r.2, f.2)

nat_same : (k p : ℕ) → nat_eq k p ≡ true → p ≡ k
nat_same k p h = grind (arith, nat_tests)

if_single : (a b : Bool) (o : Option Data) → (if is_none o then a else b) ≡ true → (b ≡ true → unwrap_or (option_map is_true o) false ≡ true) → unwrap_or (option_map is_true o) false ≡ false → a ≡ true
if_single a b None h f one = h
if_single a b (Some x) h f one = absurd (false≢true (sym one ∙ f h))

if_many : (a b : Bool) (o : Option Data) → (if is_none o then a else b) ≡ true → unwrap_or (option_map is_true o) false ≡ true → b ≡ true
if_many a b None h many = absurd (false≢true many)
if_many a b (Some x) h many = h

lacks_many : (o : Option Data) → is_none o ≡ true → unwrap_or (option_map is_true o) false ≡ false
lacks_many None h = refl
lacks_many (Some x) h = absurd (false≢true h)

same_place : (k : ℕ) → (k == k) ≡ true
same_place k = grind (arith, nat_tests)

place_same : (k t : ℕ) → (k == t) ≡ true → k ≡ t
place_same k t h = grind (arith, nat_tests)

between : (low high : ℕ) (o : Option ℕ) (n : ℕ) → option_and_then (λ n. if nat_le low n && nat_le n high then Some n else None) o ≡ Some n → (nat_le low n && nat_le n high) ≡ true
between low high None n h = absurd (none-some n h)
between low high (Some m) n h = elim (nat_le low m && nat_le m high) as (λ b. (nat_le low m && nat_le m high) ≡ b → (if b then Some m else None) ≡ Some n → (nat_le low n && nat_le n high) ≡ true) [
  | true ↦ λ e g. subst (λ k. (nat_le low k && nat_le k high) ≡ true) (same_Some m n g) e
  | false ↦ λ e g. absurd (none-some n g)
] refl h

decimal_declared : (s p : Option ℕ) → ((n : ℕ) → s ≡ Some n → (nat_le 0 n && nat_le n scale_max) ≡ true) → ((n : ℕ) → p ≡ Some n → (nat_le 1 n && nat_le n precision_max) ≡ true) → is_declared_kind (unwrap_or (decimal_kind s p) EdmType.Text) ≡ true
decimal_declared None p f g = refl
decimal_declared (Some s) None f g = refl
decimal_declared (Some s) (Some p) f g =
    let low = f s refl in
    let high = g p refl in
    elim (nat_le s p) as (λ b. nat_le s p ≡ b → is_declared_kind (unwrap_or (if b then Some (EdmType.Dec s p) else None) EdmType.Text) ≡ true) [
      | true ↦ λ e. and_all (nat_le s scale_max) (nat_le 1 p) (nat_le p precision_max) (nat_le s p) (and-right (nat_le 0 s) (nat_le s scale_max) low) (and-left (nat_le 1 p) (nat_le p precision_max) high) (and-right (nat_le 1 p) (nat_le p precision_max) high) e
      | false ↦ λ e. refl
    ] refl
  where
    and_all : (a b c e : Bool) → a ≡ true → b ≡ true → c ≡ true → e ≡ true → (((a && b) && c) && e) ≡ true
    and_all a b c e ha hb hc he = rw (ha, hb, hc, he) refl

precision_between : (o : Option Data) (n : ℕ) → unwrap_or (option_map (whole_between 1 precision_max) o) (Some precision_max) ≡ Some n → (nat_le 1 n && nat_le n precision_max) ≡ true
precision_between None n h = subst (λ k. (nat_le 1 k && nat_le k precision_max) ≡ true) (same_Some precision_max n h) refl
precision_between (Some x) n h = between 1 precision_max (whole_number x) n h

scale_between : (o : Option Data) (n : ℕ) → option_and_then (whole_between 0 scale_max) o ≡ Some n → (nat_le 0 n && nat_le n scale_max) ≡ true
scale_between None n h = absurd (none-some n h)
scale_between (Some x) n h = between 0 scale_max (whole_number x) n h

named_declared : (i d s y b : Bool) (decimal : Option EdmType) → is_declared_kind (unwrap_or decimal EdmType.Text) ≡ true → is_declared_kind (unwrap_or (if i then Some EdmType.Int else (if d then decimal else (if s then Some EdmType.Text else (if y then Some EdmType.Day else (if b then Some EdmType.Bool else None))))) EdmType.Text) ≡ true
named_declared true d s y b decimal h = refl
named_declared false true s y b decimal h = h
named_declared false false true y b decimal h = refl
named_declared false false false true b decimal h = refl
named_declared false false false false true decimal h = refl
named_declared false false false false false decimal h = refl

-- the type of a property is one of the profile
kind_declared : (p : Data) → is_declared_kind (unwrap_or (kind_of p) EdmType.Text) ≡ true
kind_declared p = named_declared (same_text (kind_name p) (codes "Edm.Int64")) (same_text (kind_name p) (codes "Edm.Decimal")) (same_text (kind_name p) (codes "Edm.String")) (same_text (kind_name p) (codes "Edm.Date")) (same_text (kind_name p) (codes "Edm.Boolean")) (decimal_kind (scale_of p) (precision_of p)) (decimal_declared (scale_of p) (precision_of p) (scale_between (get (codes "$Scale") p)) (precision_between (get (codes "$Precision") p)))

module _ (d : Data) (h : is_model d ≡ true) where
  key_there : (t : ℕ) → t < length (type_members d) → (k : ℕ) × (m : Member) × (member_place (property_members (type_tree d t)) (key_name (type_tree d t)) ≡ Some k) × (slice_get (property_members (type_tree d t)) k ≡ Some m) × ((not (is_nullable m.1) && is_some_and is_key_kind (kind_of m.1)) ≡ true)
  key_there t below =
      let test = λ (p : Data). not (is_nullable p) && is_some_and is_key_kind (kind_of p) in
      let one = some_and test (named (property_members (type_tree d t)) (key_name (type_tree d t))) (and-right _ _ (and-left _ _ (and-left _ _ (and-left _ _ (and-left _ _ (and-left _ _ (and-left _ _ (and-left _ _ (type_passes d h t below))))))))) in
      let place = named_at (property_members (type_tree d t)) (key_name (type_tree d t)) one.0 one.1 in
      (place.0, place.1, place.2, place.3, subst (λ p. test p ≡ true) (sym place.4) one.2)

  key_at : (t : ℕ) (below : t < length (type_members d)) → (key_of (model_of d) t).at ≡ (key_there t below).0
  key_at t below = key_is d t ∙ ap (λ o. unwrap_or o 0) (key_there t below).2

  keys : (t : ℕ) → IsType (model_of d) t → IsProperty (model_of d) (key_of (model_of d) t)
  keys t is =
      let below = in_types d t is in
      let key = key_there t below in
      subst (λ k. IsProperty (model_of d) (record { of = t; at = k })) (sym (key_at t below)) (is_property_at (model_of d) t key.0 (property_of key.1) (property_there d t key.0 key.1 key.3))

  -- the key's property
  key_property : (t : ℕ) (p : Property) → property_at (model_of d) (key_of (model_of d) t) ≡ Some p → (m : Member) × (property_of m ≡ p) × ((not (is_nullable m.1) && is_some_and is_key_kind (kind_of m.1)) ≡ true)
  key_property t p is =
      let inside = slice_get_within (properties_of (model_of d) t) (key_of (model_of d) t).at p is in
      let below = in_types d t (within_types (λ e. e.properties) (model_of d).types t (key_of (model_of d) t).at inside) in
      let key = key_there t below in
      let there = property_there d t key.0 key.1 key.3 in
      (key.1, same_Some (property_of key.1) p (sym there ∙ (ap (slice_get (properties_of (model_of d) t)) (sym (key_at t below)) ∙ is)), key.4)

  key_kinds : (t : ℕ) (p : Property) → property_at (model_of d) (key_of (model_of d) t) ≡ Some p → is_key_kind p.kind ≡ true
  key_kinds t p is =
      let key = key_property t p is in
      let one = some_and is_key_kind (kind_of key.0.1) (and-right _ _ key.2) in
      ap (λ q. is_key_kind q.kind) (sym key.1) ∙ (ap (λ o. is_key_kind (unwrap_or o EdmType.Text)) one.1 ∙ one.2)

  keys_not_null : (t : ℕ) (p : Property) → property_at (model_of d) (key_of (model_of d) t) ≡ Some p → p.nullable ≡ false
  keys_not_null t p is =
      let key = key_property t p is in
      ap (λ q. q.nullable) (sym key.1) ∙ not-true (is_nullable key.0.1) (and-left _ _ key.2)

  -- ---- navigations

  place_below : (n : Data) (p : ℕ) → type_place d n ≡ Some p → p < length (type_members d)
  place_below n p is = (position-Some (λ (m : Member). same_text (text_at (codes "$Type") n) (namespace d ++ 46 ∷ m.0)) (type_members d) p ([], null) is).0

  navigation_passes : (n : Part) (v : Navigation) → navigation_on (model_of d) n ≡ Some v → (m : Member) × (p : ℕ) × (navigation_of d (type_tree d n.of) m ≡ v) × (type_place d m.1 ≡ Some p) × ((if lacks (codes "$Collection") m.1 then is_constrained (type_tree d n.of) (type_tree d p) m.1 else has_partner d n.of (type_tree d p) m.1) ≡ true)
  navigation_passes n v is =
      let inside = slice_get_within (navigations_of (model_of d) n.of) n.at v is in
      let below = in_types d n.of (within_types (λ e. e.navigations) (model_of d).types n.of n.at inside) in
      let here = navigation_here d n v is in
      let passes = all-at (λ (m : Member). is_navigable d n.of (type_tree d n.of) m.1) (navigation_members (type_tree d n.of)) n.at here.0 (and-right _ _ (and-left _ _ (and-left _ _ (and-left _ _ (type_passes d h n.of below))))) here.1 in
      let place = some_and (λ p. if lacks (codes "$Collection") here.0.1 then is_constrained (type_tree d n.of) (type_tree d p) here.0.1 else has_partner d n.of (type_tree d p) here.0.1) (type_place d here.0.1) passes in
      (here.0, place.0, here.2, place.1, place.2)

  targets : (n : Part) (v : Navigation) → navigation_on (model_of d) n ≡ Some v → IsType (model_of d) v.target
  targets n v is =
      let nav = navigation_passes n v is in
      let target : nav.1 ≡ v.target = sym (ap (λ o. unwrap_or o 0) nav.3) ∙ ap (λ w. w.target) nav.2 in
      subst (IsType (model_of d)) target (of_types d nav.1 (place_below nav.0.1 nav.1 nav.3))

  -- the property of a name has its kind in the model
  kind_at : (t : ℕ) (name : List ℕ) (x : EdmType) → property_kind (type_tree d t) name ≡ Some x → (k : ℕ) × (q : Property) × (member_place (property_members (type_tree d t)) name ≡ Some k) × (slice_get (properties_of (model_of d) t) k ≡ Some q) × (q.kind ≡ x)
  kind_at t name x is =
      let one = chained kind_of (named (property_members (type_tree d t)) name) x is in
      let place = named_at (property_members (type_tree d t)) name one.0 one.1 in
      let kind : kind_of place.1.1 ≡ Some x = ap kind_of place.4 ∙ one.2 in
      (place.0, property_of place.1, place.2, property_there d t place.0 place.1 place.3, ap (λ o. unwrap_or o EdmType.Text) kind)

  -- a single-valued navigation goes from a property to the target's key, of one kind
  constrained : (n : Part) (v : Navigation) → navigation_on (model_of d) n ≡ Some v → v.many ≡ false → (a : Property) × (b : Property) × (slice_get (properties_of (model_of d) n.of) v.dependent ≡ Some a) × (slice_get (properties_of (model_of d) v.target) (key_of (model_of d) v.target).at ≡ Some b) × (same_kind a.kind b.kind ≡ true)
  constrained n v is one =
      let nav = navigation_passes n v is in
      let m = nav.0 in
      let p = nav.1 in
      let target : v.target ≡ p = ap (λ w. w.target) (sym nav.2) ∙ ap (λ o. unwrap_or o 0) nav.3 in
      let many : is_many m.1 ≡ false = ap (λ w. w.many) nav.2 ∙ one in
      let ok = if_single (is_constrained (type_tree d n.of) (type_tree d p) m.1) (has_partner d n.of (type_tree d p) m.1) (get (codes "$Collection") m.1) nav.4 (λ partner. and-right _ _ (and-left _ _ (and-left _ _ partner))) many in
      let by = some_and _ (constraint m.1) (and-right _ _ ok) in
      let kinds = some_and _ (property_kind (type_tree d n.of) by.0.0) (and-right _ _ by.2) in
      let to = some_and _ (property_kind (type_tree d p) (key_name (type_tree d p))) kinds.2 in
      let from = kind_at n.of by.0.0 kinds.0 kinds.1 in
      let key = kind_at p (key_name (type_tree d p)) to.0 to.1 in
      let dependent : v.dependent ≡ from.0 = ap (λ w. w.dependent) (sym nav.2) ∙ (ap (λ o. unwrap_or (option_and_then (λ (c : Member). member_place (property_members (type_tree d n.of)) c.0) o) 0) by.1 ∙ ap (λ o. unwrap_or o 0) from.2) in
      let place : (key_of (model_of d) p).at ≡ key.0 = key_is d p ∙ ap (λ o. unwrap_or o 0) key.2 in
      (from.1, key.1, ap (slice_get (properties_of (model_of d) n.of)) dependent ∙ from.3, subst (λ t. slice_get (properties_of (model_of d) t) (key_of (model_of d) t).at ≡ Some key.1) (sym target) (ap (slice_get (properties_of (model_of d) p)) place ∙ key.3), ap (λ k. same_kind k key.1.kind) from.4 ∙ (ap (same_kind kinds.0) key.4 ∙ to.2))

  dependents : (n : Part) (v : Navigation) → navigation_on (model_of d) n ≡ Some v → v.many ≡ false → IsProperty (model_of d) (record { of = n.of; at = v.dependent })
  dependents n v is one = let c = constrained n v is one in is_property_at (model_of d) n.of v.dependent c.0 c.2

  dependent_kinds : (n : Part) (v : Navigation) → navigation_on (model_of d) n ≡ Some v → v.many ≡ false → AreOfOneKind (model_of d) (record { of = n.of; at = v.dependent }) (key_of (model_of d) v.target)
  dependent_kinds n v is one =
      let c = constrained n v is one in
      ap (option_and_then (λ (a : Property). option_map (λ (b : Property). same_kind a.kind b.kind) (property_at (model_of d) (key_of (model_of d) v.target)))) c.2 ∙ (ap (option_map (λ (b : Property). same_kind c.0.kind b.kind)) c.3 ∙ ap Some c.4)

  -- a single-valued navigation of a name that leads to the type at a place
  reference_there : (t k : ℕ) (name : List ℕ) → is_reference_to d k (type_tree d t) name ≡ true → (j : ℕ) × (member_place (navigation_members (type_tree d t)) name ≡ Some j) × IsReference (model_of d) (record { of = t; at = j }) k
  reference_there t k name is =
      let one = some_and (λ (n : Data). lacks (codes "$Collection") n && leads_to d k n) (named (navigation_members (type_tree d t)) name) is in
      let place = named_at (navigation_members (type_tree d t)) name one.0 one.1 in
      let there = navigation_there d t place.0 place.1 place.3 in
      let ok : (lacks (codes "$Collection") place.1.1 && leads_to d k place.1.1) ≡ true = subst (λ n. (lacks (codes "$Collection") n && leads_to d k n) ≡ true) (sym place.4) one.2 in
      let to = some_and (nat_eq k) (type_place d place.1.1) (and-right _ _ ok) in
      let same : to.0 ≡ k = nat_same k to.0 to.2 in
      (place.0, place.2, (ap (option_map (λ (v : Navigation). v.many)) there ∙ ap Some (lacks_many (get (codes "$Collection") place.1.1) (and-left _ _ ok)), ap (option_map (λ (v : Navigation). v.target)) there ∙ ap Some (ap (λ o. unwrap_or o 0) to.1 ∙ same)))

  partners : (n : Part) (v : Navigation) → navigation_on (model_of d) n ≡ Some v → v.many ≡ true → IsReference (model_of d) (record { of = v.target; at = v.partner }) n.of
  partners n v is many =
      let nav = navigation_passes n v is in
      let m = nav.0 in
      let p = nav.1 in
      let target : v.target ≡ p = ap (λ w. w.target) (sym nav.2) ∙ ap (λ o. unwrap_or o 0) nav.3 in
      let ok = if_many (is_constrained (type_tree d n.of) (type_tree d p) m.1) (has_partner d n.of (type_tree d p) m.1) (get (codes "$Collection") m.1) nav.4 (ap (λ w. w.many) nav.2 ∙ many) in
      let back = reference_there p n.of (text_at (codes "$Partner") m.1) (and-right _ _ ok) in
      let tree : target_of d m.1 ≡ type_tree d p = ap (λ o. unwrap_or (option_map (type_tree d) o) null) nav.3 in
      let is_many_here : is_many m.1 ≡ true = ap (λ w. w.many) nav.2 ∙ many in
      let read : partner_place d m.1 ≡ unwrap_or (member_place (navigation_members (target_of d m.1)) (text_at (codes "$Partner") m.1)) 0 = ap (λ b. if b then unwrap_or (member_place (navigation_members (target_of d m.1)) (text_at (codes "$Partner") m.1)) 0 else 0) is_many_here in
      let partner : v.partner ≡ back.0 = ap (λ w. w.partner) (sym nav.2) ∙ (read ∙ (ap (λ t. unwrap_or (member_place (navigation_members t) (text_at (codes "$Partner") m.1)) 0) tree ∙ ap (λ o. unwrap_or o 0) back.1)) in
      subst (λ t. IsReference (model_of d) (record { of = t; at = v.partner }) n.of) (sym target) (subst (λ j. IsReference (model_of d) (record { of = p; at = j }) n.of) (sym partner) back.2)

  parents : (q : Part) (r : Hierarchy) → hierarchy_on (model_of d) q ≡ Some r → IsReference (model_of d) (record { of = q.of; at = r.parent }) q.of
  parents q r is =
      let inside = slice_get_within (hierarchies_of_type (model_of d) q.of) q.at r is in
      let below = in_types d q.of (within_types (λ e. e.hierarchies) (model_of d).types q.of q.at inside) in
      let here = hierarchy_here d q r is in
      let passes = all-at (λ (m : Member). is_hierarchy d q.of (type_tree d q.of) m.1) (term_members hierarchy_term (type_tree d q.of)) q.at here.0 (and-right _ _ (and-left _ _ (and-left _ _ (type_passes d h q.of below)))) here.1 in
      let back = reference_there q.of q.of (text_at (codes "ParentNavigationProperty") here.0.1) (and-right _ _ passes) in
      let parent : r.parent ≡ back.0 = ap (λ w. w.parent) (sym here.2) ∙ ap (λ o. unwrap_or o 0) back.1 in
      subst (λ j. IsReference (model_of d) (record { of = q.of; at = j }) q.of) (sym parent) back.2

  -- ---- sets

  each_set : list_all (λ m. is_entity_set d m.1) (set_members d) ≡ true
  each_set = and-left _ _ (and-right _ _ (and-left _ _ h))

  one_each : (t : ℕ) → t < length (type_members d) → exactly_one (λ s. s.of == t) (map (set_of d) (set_members d)) ≡ true
  one_each t below = all-place (λ k. exactly_one (λ s. s.of == k) (map (set_of d) (set_members d))) (length (type_members d)) t (sym (set_each_same d (length (type_members d)) (set_members d) each_set) ∙ and-right _ _ (and-right _ _ (and-left _ _ h))) below

  -- the set at a place and its type
  set_there : (s : ℕ) → IsSet (model_of d) s → (e : EntitySet) × (slice_get (map (set_of d) (set_members d)) s ≡ Some e) × (e.of < length (type_members d))
  set_there s is =
      let below : s < length (set_members d) = subst (λ n. s < n) (length-mapped (set_of d) (set_members d)) is in
      let m = get_or (set_members d) s ([], null) in
      let at : slice_get (set_members d) s ≡ Some m = slice_get-get_or (set_members d) s ([], null) below in
      let place = some_there (type_place d m.1) (and-right _ _ (all-at (λ (x : Member). is_entity_set d x.1) (set_members d) s m each_set at)) in
      (set_of d m, slice_get-map (set_of d) (set_members d) s ∙ ap (option_map (set_of d)) at, subst (λ k. k < length (type_members d)) (sym (ap (λ o. unwrap_or o 0) place.1)) (place_below m.1 place.0 place.1))

  set_type_is : (s : ℕ) (is : IsSet (model_of d) s) → set_type (model_of d) s ≡ (set_there s is).0.of
  set_type_is s is = ap (λ o. unwrap_or (option_map (λ (e : EntitySet). e.of) o) 0) (set_there s is).1

  set_types : (s : ℕ) → IsSet (model_of d) s → IsType (model_of d) (set_type (model_of d) s)
  set_types s is = subst (IsType (model_of d)) (sym (set_type_is s is)) (of_types d (set_there s is).0.of (set_there s is).2)

  sets_of_types : (s : ℕ) → IsSet (model_of d) s → set_of_type (model_of d) (set_type (model_of d) s) ≡ s
  sets_of_types s is =
      let e = set_there s is in
      let found = only_place (λ (x : EntitySet). x.of == e.0.of) (map (set_of d) (set_members d)) s e.0 (one_each e.0.of e.2) e.1 (same_place e.0.of) in
      ap (set_of_type (model_of d)) (set_type_is s is) ∙ ap (λ o. unwrap_or o 0) found

  type_sets : (t : ℕ) → IsType (model_of d) t → IsSet (model_of d) (set_of_type (model_of d) t)
  type_sets t is =
      let one = one_place (λ (x : EntitySet). x.of == t) (map (set_of d) (set_members d)) (one_each t (in_types d t is)) in
      subst (IsSet (model_of d)) (sym (ap (λ o. unwrap_or o 0) one.2)) (slice_get_within (map (set_of d) (set_members d)) one.0 one.1 one.3)

  types_of_sets : (t : ℕ) → IsType (model_of d) t → set_type (model_of d) (set_of_type (model_of d) t) ≡ t
  types_of_sets t is =
      let one = one_place (λ (x : EntitySet). x.of == t) (map (set_of d) (set_members d)) (one_each t (in_types d t is)) in
      ap (set_type (model_of d)) (ap (λ o. unwrap_or o 0) one.2) ∙ (ap (λ o. unwrap_or (option_map (λ (e : EntitySet). e.of) o) 0) one.3 ∙ place_same one.1.of t one.4)

  -- ---- kinds and names

  kinds : (p : Part) (q : Property) → property_at (model_of d) p ≡ Some q → is_declared_kind q.kind ≡ true
  kinds p q is = let here = property_here d p q is in ap (λ x. is_declared_kind x.kind) (sym here.2) ∙ kind_declared here.0.1

-- the model of an accepted tree is sound
pub sound : (d : Data) → is_model d ≡ true → InOrder d → IsSound (model_of d)
sound d h o = record {
  set_types = set_types d h;
  sets_of_types = sets_of_types d h;
  type_sets = type_sets d h;
  types_of_sets = types_of_sets d h;
  keys = keys d h;
  key_kinds = key_kinds d h;
  keys_not_null = keys_not_null d h;
  kinds = kinds d h;
  targets = targets d h;
  dependents = dependents d h;
  dependent_kinds = dependent_kinds d h;
  partners = partners d h;
  parents = parents d h;
  property_names = property_names d h;
  sets_ordered = sets_in_order d o;
  types_ordered = types_in_order d o;
  properties_ordered = properties_in_order d o;
  navigations_ordered = navigations_in_order d o;
  hierarchies_ordered = hierarchies_in_order d o;
  customs_ordered = customs_in_order d o;
  set_names = set_names d h;
  type_names = type_names d h;
  navigation_names = navigation_names d h;
  qualifiers = qualifiers d h;
  custom_names = custom_names d h;
  properties_are_no_navigations = properties_are_no_navigations d o;
  customs_are_no_properties = customs_are_no_properties d h;
  customs_are_no_navigations = customs_are_no_navigations d h;
  sets_found = λ s e. found_place_of (λ (x : EntitySet). x.name) (map (set_of d) (set_members d)) s e (sets_in_order d o);
  properties_found = λ t k q. found_named (λ (x : EntityType). x.properties) (λ (x : Property). x.name) (model_of d) t k q (properties_in_order d o t);
  navigations_found = λ t k v. found_named (λ (x : EntityType). x.navigations) (λ (x : Navigation). x.name) (model_of d) t k v (navigations_in_order d o t);
  hierarchies_found = λ t k q. found_named (λ (x : EntityType). x.hierarchies) (λ (x : Hierarchy). x.qualifier) (model_of d) t k q (hierarchies_in_order d o t);
  customs_found = λ t k u. found_named (λ (x : EntityType). x.customs) (λ (x : Custom). x.name) (model_of d) t k u (customs_in_order d o t);
  sets_there = places_within (length (model_of d).sets);
  properties_there = λ t is. parts_there (IsProperty (model_of d)) t (length (properties_of (model_of d) t)) (λ k below. (is, below));
  navigations_there = λ t is. parts_there (IsNavigation (model_of d)) t (length (navigations_of (model_of d) t)) (λ k below. (is, below));
  hierarchies_there = all_parts_there (model_of d);
  customs_there = all_customs_there (model_of d);
}
