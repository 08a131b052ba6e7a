-- An item has a fault of shape exactly where it is no entity.
use Rattle.std.proofs.Common.{◌≡◌, ℕ, zero, suc, Bool, true, false, List, [], ◌∷◌, map, refl, sym, ◌∙◌, ap, subst, Some, None, eqb-true, eq-eqb}
use Rattle.std.specs.Prelude.{◌&&◌, ◌||◌, ◌==◌, if◌then◌else◌, not, find}
use Rattle.std.proofs.lemmas.Bool.{and_parts, and_right, not-true}
use Rattle.std.specs.declared.option.Option.{Option}
use Rattle.std.specs.Option.{option_map, unwrap_or, is_none}
use Rattle.std.specs.List.{list_any, list_all, slice_get}
use Rattle.std.proofs.lemmas.Option.{slice_get-map}
use Rattle.serde_json.specs.Data.{Data}
use Rattle.edm_values.specs.Lists.{all_some, same_text, is_some_and}
use Rattle.edm_model.specs.Models.{Model, Property, EntitySet, Part}
use Rattle.edm_model.specs.LookUps.{IsSet, properties_of, property_at, set_type}
use Rattle.edm_model.specs.JsonTrees.{Member, is_object, members_in}
use Rattle.edm_data.specs.Worlds.{Entity}
use Rattle.edm_data.specs.DataFile.{is_known_member, property_value, entity_of, array_in, item_of, items_of_set, items_of_sets, is_no_entity}
use Rattle.edm_data.proofs.EntityLemmas.{values-none}
use Rattle.data_diagnosis.specs.declared.shapes.ShapeFault.{ShapeFault}
use Rattle.data_diagnosis.specs.EntityFaults.{is_absent, is_shape_fault}
use Rattle.data_diagnosis.specs.FileLaws.{item_at, ShapeFaultsAreOfNoEntity}
use Rattle.data_diagnosis.proofs.ShapeFaults.{members-known, unknown-named}

-- ---- a fault is one of no entity

-- not all members are known where one is unknown
named-unknown : (p q : Member → Bool) (ms : List Member) → list_any (λ e. q e && not (p e)) ms ≡ true → list_all p ms ≡ false
named-unknown p q [] h = cc
named-unknown p q (e ∷ ms) h = (elim (p e) as (λ b. ((q e && not b) || list_any (λ e. q e && not (p e)) ms) ≡ true → (b && list_all p ms) ≡ false) [ true ↦ λ h. named-unknown p q ms (rw (and_right (q e) false refl) at h) | false ↦ λ h. refl ]) h

-- a property of these has no value
some-none : {P V : Type 0} (f : P → Option V) (test : P → Bool) (ps : List P) (i : ℕ) → is_some_and (λ q. test q && is_none (f q)) (slice_get ps i) ≡ true → option_map f (slice_get ps i) ≡ Some None
some-none f test ps i h = here (slice_get ps i) h where
  nothing : {V : Type 0} (o : Option V) → is_none o ≡ true → o ≡ None
  nothing None h = refl
  nothing (Some v) h = cc

  here : (o : Option _) → is_some_and (λ q. test q && is_none (f q)) o ≡ true → option_map f o ≡ Some None
  here None h = cc
  here (Some q) h = ap Some (nothing (f q) (and_parts (test q) (is_none (f q)) h).1)

-- with a property that has no value it is no entity
property-refuses : (m : Model) (t : ℕ) (d : Data) (p : Part) (test : Property → Bool) → (is_object d && p.of == t && is_some_and (λ q. test q && is_none (property_value d q)) (property_at m p)) ≡ true → entity_of (properties_of m t) d ≡ None
property-refuses m t d p test h =
    let parts = and_parts _ _ h in
    let type : p.of ≡ t = eqb-true p.of t (and_parts _ _ parts.0).1 in
    let none = sym (values-none (property_value d) (properties_of m p.of) p.at (some-none (property_value d) test (properties_of m p.of) p.at parts.1)) in
    both (is_object d && list_all (is_known_member (properties_of m t)) (members_in d)) _ (subst (λ t. all_some (map (property_value d) (properties_of m t)) ≡ None) type none) where
      both : {V : Type 0} (b : Bool) (o : Option V) → o ≡ None → (if b then o else None) ≡ None
      both true o h = h
      both false o h = refl

-- what has a fault of shape is no entity
fault-refuses : (m : Model) (t : ℕ) (d : Data) (f : ShapeFault) → is_shape_fault m t d f ≡ true → entity_of (properties_of m t) d ≡ None
fault-refuses m t d ShapeFault.Object h = let not-one : is_object d ≡ false = not-true (is_object d) h in rw not-one refl
fault-refuses m t d (ShapeFault.Member name) h =
    let unknown = named-unknown (is_known_member (properties_of m t)) (λ e. same_text e.0 name.now) (members_in d) (and_parts _ _ h).1 in
    rw (unknown, and_right (is_object d) false refl) refl
fault-refuses m t d (ShapeFault.Null p) h = property-refuses m t d p (λ q. is_absent q d) h
fault-refuses m t d (ShapeFault.Value p) h = property-refuses m t d p (λ q. not (is_absent q d)) h

-- ---- what is no entity has a fault

-- a property that has no value, of these of which not all have one
valueless : {P V : Type 0} (f : P → Option V) (ps : List P) → all_some (map f ps) ≡ None → (i : ℕ) × (q : P) × (slice_get ps i ≡ Some q) × (is_none (f q) ≡ true)
valueless f [] h = cc
valueless {P} {V} f (p ∷ ps) h = first (valueless f ps) (f p) refl where
  rest-none : {V : Type 0} (v : V) (o : Option (List V)) → option_map (λ ys. v ∷ ys) o ≡ None → o ≡ None
  rest-none v None h = refl
  rest-none v (Some vs) h = cc

  first : (all_some (map f ps) ≡ None → (i : ℕ) × (q : P) × (slice_get ps i ≡ Some q) × (is_none (f q) ≡ true)) → (o : Option V) → f p ≡ o → (i : ℕ) × (q : P) × (slice_get (p ∷ ps) i ≡ Some q) × (is_none (f q) ≡ true)
  first more None e = (zero, p, refl, ap is_none e)
  first more (Some v) e =
      let rest = more (rest-none v (all_some (map f ps)) (sym (ap (λ o. all_some (o ∷ map f ps)) e) ∙ h)) in
      (suc rest.0, rest.1, rest.2, rest.3)

-- what is no entity has a fault of shape
pub refused-fault : (m : Model) (t : ℕ) (d : Data) → entity_of (properties_of m t) d ≡ None → (f : ShapeFault) × (is_shape_fault m t d f ≡ true)
refused-fault m t d h = by-object (is_object d) refl where
  ps : List Property
  ps = properties_of m t

  -- an object whose members are known
  by-property : is_object d ≡ true → list_all (is_known_member ps) (members_in d) ≡ true → (f : ShapeFault) × (is_shape_fault m t d f ≡ true)
  by-property one known =
      let none : all_some (map (property_value d) ps) ≡ None = rw (one, known) at h in
      let found = valueless (property_value d) ps none in
      by-value found.0 found.1 found.2 found.3 (is_absent found.1 d) refl where
        by-value : (i : ℕ) (q : Property) → slice_get ps i ≡ Some q → is_none (property_value d q) ≡ true → (b : Bool) → is_absent q d ≡ b → (f : ShapeFault) × (is_shape_fault m t d f ≡ true)
        by-value i q at none true e = (ShapeFault.Null (record { of = t; at = i }), rw (one, eq-eqb t t refl, at, e, none) refl)
        by-value i q at none false e = (ShapeFault.Value (record { of = t; at = i }), rw (one, eq-eqb t t refl, at, e, none) refl)

  -- an object
  by-member : is_object d ≡ true → (o : Option Member) → find (λ e. not (is_known_member ps e)) (members_in d) ≡ o → (f : ShapeFault) × (is_shape_fault m t d f ≡ true)
  by-member one None e = by-property one (members-known (is_known_member ps) (members_in d) e)
  by-member one (Some x) e = (ShapeFault.Member (record { ref_ptr = (0, 0); now = x.0 }), rw one (unknown-named (is_known_member ps) (members_in d) x.0 (ap (option_map (λ e. e.0)) e)))

  by-object : (b : Bool) → is_object d ≡ b → (f : ShapeFault) × (is_shape_fault m t d f ≡ true)
  by-object true e = by-member e (find (λ e. not (is_known_member ps e)) (members_in d)) refl
  by-object false e = (ShapeFault.Object, ap not e)

-- ---- the items of a file

-- what the file's reading has of an item
row-of-item : (m : Model) (d : Data) (e : Entity) (x : Data) → IsSet m e.set → item_at m d e ≡ Some x → is_no_entity (items_of_sets m d) e ≡ is_none (entity_of (properties_of m (set_type m e.set)) x)
row-of-item m d e x there at = by-set (slice_get m.sets e.set) refl where
  by-set : (o : Option EntitySet) → slice_get m.sets e.set ≡ o → is_no_entity (items_of_sets m d) e ≡ is_none (entity_of (properties_of m (set_type m e.set)) x)
  by-set None none = let nowhere : item_at m d e ≡ None = rw none refl in cc
  by-set (Some s) some =
      let row : slice_get (items_of_sets m d) e.set ≡ Some (items_of_set m d s) = slice_get-map (items_of_set m d) m.sets e.set ∙ ap (option_map (items_of_set m d)) some in
      let item : slice_get (array_in d s) e.at ≡ Some x = rw some at at in
      let read : slice_get (items_of_set m d s) e.at ≡ Some (item_of m s x) = slice_get-map (item_of m s) (array_in d s) e.at ∙ ap (option_map (item_of m s)) item in
      let type : set_type m e.set ≡ s.of = ap (λ o. unwrap_or (option_map (λ e. e.of) o) 0) some in
      rw (row, read, type) refl

-- an item has a fault of shape exactly where the file's reading has no entity at its place
pub shape-faults-are : ShapeFaultsAreOfNoEntity
shape-faults-are m d e x there at =
    let t = set_type m e.set in
    let row = row-of-item m d e x there at in
    (λ no. refused-fault m t x (nothing (entity_of (properties_of m t) x) (sym row ∙ no)), λ fault. row ∙ ap is_none (fault-refuses m t x fault.0 fault.1)) where
      nothing : {V : Type 0} (o : Option V) → is_none o ≡ true → o ≡ None
      nothing None h = refl
      nothing (Some v) h = cc
