-- The names of the parts of an accepted model: they are simple identifiers, differ where they must, and each is found.
use Rattle.std.proofs.Common.{◌≡◌, ℕ, zero, suc, ◌+◌, ◌<◌, Bool, true, false, not, List, [], ◌∷◌, map, length, cond, Some, None, refl, sym, ◌∙◌, ap, subst, arith, codes, inl, inr}
use Rattle.std.specs.Prelude.{◌&&◌, ◌||◌, Option, option_map, option_and_then, unwrap_or, slice_get, filter, find, position}
use Rattle.std.specs.List.{list_any, enumerate_from, AllByRecursion}
use Rattle.std.specs.List.Sorted.{IsStrictlySortedBy}
use Rattle.std.specs.Cmp.Lexicographic.{slice_cmp}
use Rattle.std.specs.Ordering.{nat_cmp, is_eq}
use Rattle.std.specs.declared.cmp.Ordering.{Ordering}
use Rattle.std.proofs.lemmas.Bool.{false≢true, cases_lt}
use Rattle.std.proofs.lemmas.Cmp.{nat_list_cmp_total, tied_itself}
use Rattle.std.proofs.lemmas.Map.Text.{is_eq-slice_cmp}
use Rattle.std.proofs.lemmas.Option.{none-some, same_Some, slice_get_within, slice_get_past}
use Rattle.std.proofs.lemmas.Simd.{map-map}
use Rattle.std.proofs.Math.Bool.{or-true}
use Rattle.serde_json.specs.Data.{Data, null}
use Rattle.serde_json.specs.Find.{get, as_str}
use Rattle.edm_values.specs.Lists.{same_text}
use Rattle.edm_values.specs.Names.{Name, is_name}
use Rattle.edm_values.proofs.SameTexts.{same_texts, text-self}
use Rattle.edm_values.proofs.EachLemmas.{and-left, and-right}
use Rattle.edm_values.proofs.ListFacts.{all-at}
use Rattle.edm_model.specs.Models.{Property, Navigation, Hierarchy, Custom, EntityType, EntitySet, Model, Part}
use Rattle.edm_model.specs.LookUps.{type_at, properties_of, navigations_of, hierarchies_of_type, customs_of_type, property_at, navigation_on, hierarchy_on, custom_on, of_type_at, of_type, item_named}
use Rattle.edm_schema.specs.JsonTrees.{Member, members_in, is_text}
use Rattle.edm_schema.specs.ModelTrees.{is_model, type_tree, type_members, set_members, term_members, hierarchy_term, definition_term, qualifier, is_of_term, is_own, is_property, is_navigation, is_definition, is_custom_name, has_simple_parts, schema, container}
use Rattle.edm_model.specs.ModelFile.{model_of, type_of, set_of, property_of, navigation_of, hierarchy_of, custom_of}
use Rattle.edm_schema.specs.NameOrders.{InOrder, AreOrdered}
use Rattle.edm_model.proofs.Accepted.{or_second, tree_passes, in_types, type_passes}
use Rattle.edm_model.proofs.FoundByName.{item_place}
use Rattle.edm_schema.proofs.Ordered.{none_ordered, made_ordered, qualified_ordered}
use Rattle.edm_schema.proofs.Passing.{filter_get}
use Rattle.edm_model.proofs.Places.{within_types}
use Rattle.edm_model.proofs.TreeParts.{properties_is, navigations_is, hierarchies_is, customs_is, property_here, navigation_here, hierarchy_here, custom_here, type_here, set_here}

-- ---- names are simple identifiers

module _ (d : Data) (h : is_model d ≡ true) where
  -- what the name of a member of a type passes
  simple_parts : (t : ℕ) → t < length (type_members d) → has_simple_parts (type_tree d t) ≡ true
  simple_parts t below = tree_passes has_simple_parts (type_members d) t (and-right _ _ (and-right _ _ h)) below

  pub type_names : (t : ℕ) (e : EntityType) → type_at (model_of d) t ≡ Some e → is_name e.name ≡ true
  type_names t e is =
      let here = type_here d t e is in
      ap (λ x. is_name x.name) (sym here.2) ∙ all-at (λ (m : Member). is_name m.0) (type_members d) t here.0 (and-left _ _ (and-left _ _ (and-right _ _ h))) here.1

  pub set_names : (s : ℕ) (e : EntitySet) → slice_get (model_of d).sets s ≡ Some e → is_name e.name ≡ true
  set_names s e is =
      let here = set_here d s e is in
      ap (λ x. is_name x.name) (sym here.2) ∙ all-at (λ (m : Member). is_name m.0) (set_members d) s here.0 (and-right _ _ (and-left _ _ (and-right _ _ h))) here.1

  pub property_names : (p : Part) (q : Property) → property_at (model_of d) p ≡ Some q → is_name q.name ≡ true
  property_names p q is =
      let here = property_here d p q is in
      let inside = slice_get_within (properties_of (model_of d) p.of) p.at q is in
      let below = in_types d p.of (within_types (λ e. e.properties) (model_of d).types p.of p.at inside) in
      let both = filter_get _ (λ (m : Member). is_own m.0 && is_property m.1) (members_in (type_tree d p.of)) p.at here.0 (simple_parts p.of below) here.1 in
      ap (λ x. is_name x.name) (sym here.2) ∙ or_second (is_own here.0.0) (is_name here.0.0) (and-left _ _ (and-left _ _ (and-left _ _ both.0))) (and-left _ _ both.1)

  pub navigation_names : (n : Part) (v : Navigation) → navigation_on (model_of d) n ≡ Some v → is_name v.name ≡ true
  navigation_names n v is =
      let here = navigation_here d n v is in
      let inside = slice_get_within (navigations_of (model_of d) n.of) n.at v is in
      let below = in_types d n.of (within_types (λ e. e.navigations) (model_of d).types n.of n.at inside) in
      let both = filter_get _ (λ (m : Member). is_own m.0 && is_navigation m.1) (members_in (type_tree d n.of)) n.at here.0 (simple_parts n.of below) here.1 in
      ap (λ x. is_name x.name) (sym here.2) ∙ or_second (is_own here.0.0) (is_name here.0.0) (and-left _ _ (and-left _ _ (and-left _ _ both.0))) (and-left _ _ both.1)

  pub qualifiers : (p : Part) (q : Hierarchy) → hierarchy_on (model_of d) p ≡ Some q → is_name q.qualifier ≡ true
  qualifiers p q is =
      let here = hierarchy_here d p q is in
      let inside = slice_get_within (hierarchies_of_type (model_of d) p.of) p.at q is in
      let below = in_types d p.of (within_types (λ e. e.hierarchies) (model_of d).types p.of p.at inside) in
      let both = filter_get _ (λ (m : Member). is_of_term hierarchy_term m.0) (members_in (type_tree d p.of)) p.at here.0 (simple_parts p.of below) here.1 in
      ap (λ x. is_name x.qualifier) (sym here.2) ∙ or_second (is_of_term hierarchy_term here.0.0) (is_name (qualifier hierarchy_term here.0.0)) (and-right _ _ (and-left _ _ (and-left _ _ both.0))) both.1

  pub custom_names : (p : Part) (u : Custom) → custom_on (model_of d) p ≡ Some u → is_name u.name ≡ true
  custom_names p u is =
      let here = custom_here d p u is in
      let inside = slice_get_within (customs_of_type (model_of d) p.of) p.at u is in
      let below = in_types d p.of (within_types (λ e. e.customs) (model_of d).types p.of p.at inside) in
      let both = filter_get _ (λ (m : Member). is_of_term definition_term m.0) (members_in (type_tree d p.of)) p.at here.0 (simple_parts p.of below) here.1 in
      ap (λ x. is_name x.name) (sym here.2) ∙ or_second (is_of_term definition_term here.0.0) (is_name (qualifier definition_term here.0.0)) (and-right _ _ both.0) both.1

-- ---- names that differ

deeper : {X : Type 0} (test : X → Bool) (y : X) (xs : List X) (x : X) → (j : ℕ) × (slice_get xs j ≡ Some x) × (test x ≡ true) → (j : ℕ) × (slice_get (y ∷ xs) j ≡ Some x) × (test x ≡ true)
deeper test y xs x found = (suc found.0, found.1, found.2)

-- a place of what is left of a list is a place of the list
filter_place : {X : Type 0} (test : X → Bool) (xs : List X) (k : ℕ) (x : X) → slice_get (filter test xs) k ≡ Some x → (j : ℕ) × (slice_get xs j ≡ Some x) × (test x ≡ true)
filter_place test [] k x is = absurd (none-some x is)
filter_place test (y ∷ xs) zero x is =
    elim (test y) as (λ b. test y ≡ b → slice_get (cond b (y ∷ filter test xs) (filter test xs)) 0 ≡ Some x → (j : ℕ) × (slice_get (y ∷ xs) j ≡ Some x) × (test x ≡ true)) [
      | true ↦ λ e f. (0, f, subst (λ z. test z ≡ true) (same_Some y x f) e)
      | false ↦ λ e f. deeper test y xs x (filter_place test xs zero x f)
    ] refl is
filter_place test (y ∷ xs) (suc k) x is =
    elim (test y) as (λ b. slice_get (cond b (y ∷ filter test xs) (filter test xs)) (suc k) ≡ Some x → (j : ℕ) × (slice_get (y ∷ xs) j ≡ Some x) × (test x ≡ true)) [
      | true ↦ λ f. deeper test y xs x (filter_place test xs k x f)
      | false ↦ λ f. deeper test y xs x (filter_place test xs (suc k) x f)
    ] is

before : (n : Name) (ms : List Member) (j : ℕ) (m : Member) → AllByRecursion (λ y. slice_cmp nat_cmp n y ≡ Ordering.Less) (map (λ m. m.0) ms) → slice_get ms j ≡ Some m → slice_cmp nat_cmp n m.0 ≡ Ordering.Less
before n [] j m all is = absurd (none-some m is)
before n (x ∷ ms) zero m all is = subst (λ (y : Member). slice_cmp nat_cmp n y.0 ≡ Ordering.Less) (same_Some x m is) all.0
before n (x ∷ ms) (suc j) m all is = before n ms j m all.1 is

-- no name stands before itself
not_before : (x y : Name) → slice_cmp nat_cmp x y ≡ Ordering.Less → x ≡ y → ⊥
not_before x y less same =
    let tied : slice_cmp nat_cmp x y ≡ Ordering.Equal = ap (slice_cmp nat_cmp x) (sym same) ∙ tied_itself nat_list_cmp_total x in
    cc

-- members in order with one name are one
one_member : (ms : List Member) (j k : ℕ) (m n : Member) → AreOrdered (map (λ m. m.0) ms) → slice_get ms j ≡ Some m → slice_get ms k ≡ Some n → m.0 ≡ n.0 → m ≡ n
unfolding IsStrictlySortedBy
one_member [] j k m n o a b same = absurd (none-some m a)
one_member (x ∷ ms) zero zero m n o a b same = sym (same_Some x m a) ∙ same_Some x n b
one_member (x ∷ ms) zero (suc k) m n o a b same = absurd (not_before x.0 n.0 (before x.0 ms k n o.0 b) (ap (λ (y : Member). y.0) (same_Some x m a) ∙ same))
one_member (x ∷ ms) (suc j) zero m n o a b same = absurd (not_before x.0 m.0 (before x.0 ms j m o.0 a) (ap (λ (y : Member). y.0) (same_Some x n b) ∙ sym same))
one_member (x ∷ ms) (suc j) (suc k) m n o a b same = one_member ms j k m n o.1 a b same

-- no object is of both kinds
two_kinds : (a b : List ℕ) (x : Data) → same_text a b ≡ false → is_text a x ≡ true → is_text b x ≡ true → ⊥
two_kinds a b x differ ha hb = by (as_str x) ha hb
  where
    by : (o : Option (List ℕ)) → unwrap_or (option_map (same_text a) o) false ≡ true → unwrap_or (option_map (same_text b) o) false ≡ true → ⊥
    by None ha hb = false≢true ha
    by (Some s) ha hb = false≢true (sym differ ∙ (ap (same_text a) (same_texts b s hb) ∙ ha))

kind_of_both : (o : Option Data) → unwrap_or (option_map (is_text (codes "Property")) o) true ≡ true → unwrap_or (option_map (is_text (codes "NavigationProperty")) o) false ≡ true → ⊥
kind_of_both None p n = false≢true n
kind_of_both (Some x) p n = two_kinds (codes "Property") (codes "NavigationProperty") x refl p n

-- a property is no navigation
pub property_or_navigation : (x : Data) → is_property x ≡ true → is_navigation x ≡ true → ⊥
property_or_navigation x p n = kind_of_both (get (codes "$Kind") x) (and-right _ _ p) (and-right _ _ n)

any_at : {X : Type 0} (test : X → Bool) (xs : List X) (k : ℕ) (x : X) → slice_get xs k ≡ Some x → test x ≡ true → list_any test xs ≡ true
any_at test [] k x is passes = absurd (none-some x is)
any_at test (y ∷ xs) zero x is passes = rw (ap test (same_Some y x is) ∙ passes) refl
any_at test (y ∷ xs) (suc k) x is passes = ap (λ b. test y || b) (any_at test xs k x is passes) ∙ or-true (test y)

-- the members of each entity type are in order, also where there is none
pub tree_ordered : (d : Data) → InOrder d → (t : ℕ) → AreOrdered (map (λ m. m.0) (members_in (type_tree d t)))
tree_ordered d o t = elim (cases_lt t (length (type_members d))) [
  | inl below ↦ o.of_types t below
  | inr above ↦ subst (λ (x : Option Member). AreOrdered (map (λ m. m.0) (members_in (unwrap_or (option_map (λ m. m.1) x) null)))) (sym (slice_get_past (type_members d) t above)) none_ordered
]

pub properties_are_no_navigations : (d : Data) → InOrder d → (t j k : ℕ) (q : Property) (v : Navigation) → slice_get (properties_of (model_of d) t) j ≡ Some q → slice_get (navigations_of (model_of d) t) k ≡ Some v → q.name ≡ v.name → ⊥
properties_are_no_navigations d o t j k q v a b same =
    let p = property_here d (record { of = t; at = j }) q a in
    let n = navigation_here d (record { of = t; at = k }) v b in
    let ms = members_in (type_tree d t) in
    let at = filter_place (λ (m : Member). is_own m.0 && is_property m.1) ms j p.0 p.1 in
    let to = filter_place (λ (m : Member). is_own m.0 && is_navigation m.1) ms k n.0 n.1 in
    let name : p.0.0 ≡ n.0.0 = ap (λ x. x.name) p.2 ∙ (same ∙ ap (λ x. x.name) (sym n.2)) in
    let one = one_member ms at.0 to.0 p.0 n.0 (tree_ordered d o t) at.1 to.1 name in
    property_or_navigation p.0.1 (and-right _ _ at.2) (subst (λ (m : Member). is_navigation m.1 ≡ true) (sym one) (and-right _ _ to.2))

module _ (d : Data) (h : is_model d ≡ true) where
  -- no member of a type has the name of a custom aggregate
  not_own : (t k j : ℕ) (u : Custom) (m : Member) → slice_get (customs_of_type (model_of d) t) k ≡ Some u → slice_get (members_in (type_tree d t)) j ≡ Some m → is_own m.0 ≡ true → u.name ≡ m.0 → ⊥
  not_own t k j u m is at own same =
      let here = custom_here d (record { of = t; at = k }) u is in
      let inside = slice_get_within (customs_of_type (model_of d) t) k u is in
      let below = in_types d t (within_types (λ e. e.customs) (model_of d).types t k inside) in
      let name = qualifier definition_term here.0.0 in
      let passes = all-at (λ (x : Member). is_definition x.1 && is_custom_name (type_tree d t) (qualifier definition_term x.0)) (term_members definition_term (type_tree d t)) k here.0 (and-right _ _ (type_passes d h t below)) here.1 in
      let none : not (list_any (λ (x : Member). is_own x.0 && same_text x.0 name) (members_in (type_tree d t))) ≡ true = and-right _ _ (and-right _ _ passes) in
      let text : m.0 ≡ name = sym same ∙ ap (λ x. x.name) (sym here.2) in
      let both : (is_own m.0 && same_text m.0 name) ≡ true = rw (own, ap (λ n. same_text n name) text ∙ text-self name) refl in
      false≢true (sym (ap not (any_at (λ (x : Member). is_own x.0 && same_text x.0 name) (members_in (type_tree d t)) j m at both)) ∙ none)

  pub customs_are_no_properties : (t j k : ℕ) (u : Custom) (q : Property) → slice_get (customs_of_type (model_of d) t) j ≡ Some u → slice_get (properties_of (model_of d) t) k ≡ Some q → u.name ≡ q.name → ⊥
  customs_are_no_properties t j k u q a b same =
      let p = property_here d (record { of = t; at = k }) q b in
      let at = filter_place (λ (m : Member). is_own m.0 && is_property m.1) (members_in (type_tree d t)) k p.0 p.1 in
      not_own t j at.0 u p.0 a at.1 (and-left _ _ at.2) (same ∙ ap (λ x. x.name) (sym p.2))

  pub customs_are_no_navigations : (t j k : ℕ) (u : Custom) (v : Navigation) → slice_get (customs_of_type (model_of d) t) j ≡ Some u → slice_get (navigations_of (model_of d) t) k ≡ Some v → u.name ≡ v.name → ⊥
  customs_are_no_navigations t j k u v a b same =
      let n = navigation_here d (record { of = t; at = k }) v b in
      let at = filter_place (λ (m : Member). is_own m.0 && is_navigation m.1) (members_in (type_tree d t)) k n.0 n.1 in
      not_own t j at.0 u n.0 a at.1 (and-left _ _ at.2) (same ∙ ap (λ x. x.name) (sym n.2))

-- ---- names in order

module _ (d : Data) (o : InOrder d) where
  pub sets_in_order : AreOrdered (map (λ s. s.name) (model_of d).sets)
  sets_in_order = made_ordered (λ (e : EntitySet). e.name) (set_of d) _ (members_in (container d)) (λ m. refl) o.of_container

  pub types_in_order : AreOrdered (map (λ t. t.name) (model_of d).types)
  types_in_order = made_ordered (λ (e : EntityType). e.name) (type_of d) _ (members_in (schema d)) (λ m. refl) o.of_schema

  pub properties_in_order : (t : ℕ) → AreOrdered (map (λ p. p.name) (properties_of (model_of d) t))
  properties_in_order t = subst (λ (xs : List Property). AreOrdered (map (λ p. p.name) xs)) (sym (properties_is d t)) (made_ordered (λ (p : Property). p.name) property_of (λ m. is_own m.0 && is_property m.1) (members_in (type_tree d t)) (λ m. refl) (tree_ordered d o t))

  pub navigations_in_order : (t : ℕ) → AreOrdered (map (λ n. n.name) (navigations_of (model_of d) t))
  navigations_in_order t = subst (λ (xs : List Navigation). AreOrdered (map (λ n. n.name) xs)) (sym (navigations_is d t)) (made_ordered (λ (n : Navigation). n.name) (navigation_of d (type_tree d t)) (λ m. is_own m.0 && is_navigation m.1) (members_in (type_tree d t)) (λ m. refl) (tree_ordered d o t))

  pub hierarchies_in_order : (t : ℕ) → AreOrdered (map (λ q. q.qualifier) (hierarchies_of_type (model_of d) t))
  hierarchies_in_order t = subst (λ (xs : List Hierarchy). AreOrdered (map (λ q. q.qualifier) xs)) (sym (hierarchies_is d t)) (subst AreOrdered (sym (map-map (λ (q : Hierarchy). q.qualifier) (hierarchy_of (type_tree d t)) (term_members hierarchy_term (type_tree d t)))) (qualified_ordered hierarchy_term (members_in (type_tree d t)) (tree_ordered d o t)))

  pub customs_in_order : (t : ℕ) → AreOrdered (map (λ c. c.name) (customs_of_type (model_of d) t))
  customs_in_order t = subst (λ (xs : List Custom). AreOrdered (map (λ c. c.name) xs)) (sym (customs_is d t)) (subst AreOrdered (sym (map-map (λ (c : Custom). c.name) custom_of (term_members definition_term (type_tree d t)))) (qualified_ordered definition_term (members_in (type_tree d t)) (tree_ordered d o t)))

-- ---- what has a name is found by it

module _ {X : Type 0} (name : X → Name) where
  later : (n : Name) (xs : List X) (k : ℕ) (x : X) → AllByRecursion (λ y. slice_cmp nat_cmp n y ≡ Ordering.Less) (map name xs) → slice_get xs k ≡ Some x → same_text n (name x) ≡ false
  later n [] k x all is = absurd (none-some x is)
  later n (y ∷ xs) zero x all is = sym (is_eq-slice_cmp n (name x)) ∙ ap is_eq (ap (λ z. slice_cmp nat_cmp n (name z)) (sym (same_Some y x is)) ∙ all.0)
  later n (y ∷ xs) (suc k) x all is = later n xs k x all.1 is

  item_from : (i : ℕ) (xs : List X) (k : ℕ) (x : X) → AreOrdered (map name xs) → slice_get xs k ≡ Some x → find (λ y. same_text (name y.1) (name x)) (enumerate_from i xs) ≡ Some (i + k, x)
  unfolding IsStrictlySortedBy
  item_from i [] k x o is = absurd (none-some x is)
  item_from i (y ∷ xs) zero x o is = rw (ap (λ z. same_text (name z) (name x)) (same_Some y x is) ∙ text-self (name x)) (λ j. Some (e j, same_Some y x is j))
    where
      e : i ≡ i + 0
      e = omega arith
  item_from i (y ∷ xs) (suc k) x o is = rw (later (name y) xs k x o.0 is) (item_from (i + 1) xs k x o.1 is ∙ ap (λ j. Some (j, x)) (omega arith))

-- the item at a place is found by its name
pub item_at : {X : Type 0} (name : X → Name) (xs : List X) (k : ℕ) (x : X) → AreOrdered (map name xs) → slice_get xs k ≡ Some x → item_named name (name x) xs ≡ Some (k, x)
item_at name xs k x o is = item_from name 0 xs k x o is ∙ ap (λ j. Some (j, x)) (omega arith)

-- so is its place
pub found_place_of : {X : Type 0} (name : X → Name) (xs : List X) (k : ℕ) (x : X) → AreOrdered (map name xs) → slice_get xs k ≡ Some x → position (λ y. same_text (name y) (name x)) xs ≡ Some k
found_place_of name xs k x o is = sym (item_place name (name x) xs) ∙ ap (option_map {U = ℕ} (λ y. y.0)) (item_at name xs k x o is)

-- what stands in a list of a type is found by its name
pub found_named : {X : Type 0} (items : EntityType → List X) (name : X → Name) (m : Model) (t k : ℕ) (x : X) → AreOrdered (map name (of_type_at items m t)) → slice_get (of_type_at items m t) k ≡ Some x → of_type items name m t (name x) ≡ Some (k, x)
found_named items name m t k x o is = by (type_at m t) o is
  where
    by : (e : Option EntityType) → AreOrdered (map name (unwrap_or (option_map items e) [])) → slice_get (unwrap_or (option_map items e) []) k ≡ Some x → option_and_then (λ e. item_named name (name x) (items e)) e ≡ Some (k, x)
    by None o is = absurd (none-some x is)
    by (Some e) o is = item_at name (items e) k x o is
