-- By what an item is no entity: its members, and the values of its properties.
use Rattle.std.proofs.Common.{◌≡◌, ℕ, zero, suc, ◌+◌, Bool, true, false, List, [], ◌∷◌, map, take, refl, ◌∙◌, ap, cond, Some, None, add-one}
use Rattle.std.specs.Prelude.{◌&&◌, ◌||◌, not, find}
use Rattle.std.proofs.lemmas.Bool.{or_right}
use Rattle.std.specs.declared.option.Option.{Option}
use Rattle.std.specs.Option.{option_map, is_some, is_none}
use Rattle.std.specs.List.{list_any, list_all, slice_get}
use Rattle.serde_json.specs.Data.{Data, Members}
use Rattle.serde_json.specs.Find.{as_object}
use Rattle.edm_values.specs.Lists.{all_some, same_text}
use Rattle.edm_values.proofs.SameTexts.{text-self}
use Rattle.edm_values.proofs.OptionFacts.{is_some-option_map}
use Rattle.edm_model.specs.Models.{Model}
use Rattle.edm_model.specs.LookUps.{properties_of}
use Rattle.edm_model.specs.JsonTrees.{Member, is_object, member_list, members_in}
use Rattle.edm_data.specs.DataFile.{is_known_member, property_value, entity_of}

-- ---- one property

-- whether a property has no value, by the value
pub valueless-is : {P V : Type 0} (f : P → Option V) (o : Option P) (v : Option V) → option_map f o ≡ Some v → option_map (λ q. is_none (f q)) o ≡ Some (is_none v)
valueless-is f None v h = cc
valueless-is f (Some q) v h = let same : f q ≡ v = cc in rw same refl

pub none-mapped : {A B : Type 0} (f : A → B) (o : Option A) → is_none o ≡ true → option_map f o ≡ None
none-mapped f None h = refl
none-mapped f (Some x) h = cc

pub is_none-option_map : {A B : Type 0} (f : A → B) (o : Option A) → is_none (option_map f o) ≡ is_none o
is_none-option_map f None = refl
is_none-option_map f (Some x) = refl

-- ---- all properties, one after another

-- one property more has a value
pub values-more : {P V : Type 0} (f : P → Option V) (ps : List P) (i : ℕ) → option_map (λ q. is_none (f q)) (slice_get ps i) ≡ Some false → list_all (λ q. is_some (f q)) (take i ps) ≡ true → list_all (λ q. is_some (f q)) (take (i + 1) ps) ≡ true
values-more f ps i here before = rw add-one (front f ps i here before) where
  there : {V : Type 0} (o : Option V) → is_none o ≡ false → is_some o ≡ true
  there None h = cc
  there (Some v) h = refl

  front : {P V : Type 0} (f : P → Option V) (ps : List P) (i : ℕ) → option_map (λ q. is_none (f q)) (slice_get ps i) ≡ Some false → list_all (λ q. is_some (f q)) (take i ps) ≡ true → list_all (λ q. is_some (f q)) (take (suc i) ps) ≡ true
  front f [] i here before = cc
  front f (p ∷ ps) zero here before = let has : is_none (f p) ≡ false = cc in rw (there (f p) has) refl
  front f (p ∷ ps) (suc i) here before = (elim (is_some (f p)) as (λ b. (b && list_all (λ q. is_some (f q)) (take i ps)) ≡ true → (b && list_all (λ q. is_some (f q)) (take (suc i) ps)) ≡ true) [ true ↦ λ e. front f ps i here e | false ↦ λ e. cc ]) before

-- all values are there where each is
pub values-all : {P V : Type 0} (f : P → Option V) (ps : List P) → is_some (all_some (map f ps)) ≡ list_all (λ q. is_some (f q)) ps
values-all f [] = refl
values-all f (p ∷ ps) = front (f p) (map f ps) ∙ ap (λ b. is_some (f p) && b) (values-all f ps) where
  front : {V : Type 0} (o : Option V) (os : List (Option V)) → is_some (all_some (o ∷ os)) ≡ (is_some o && is_some (all_some os))
  front None os = refl
  front (Some v) os = is_some-option_map (λ ys. v ∷ ys) (all_some os)

-- ---- members

-- no member is unknown
pub members-known : (p : Member → Bool) (ms : List Member) → find (λ e. not (p e)) ms ≡ None → list_all p ms ≡ true
members-known p [] h = refl
members-known p (e ∷ ms) h = (elim (p e) as (λ b. cond (not b) (Some e) (find (λ e. not (p e)) ms) ≡ None → (b && list_all p ms) ≡ true) [ true ↦ λ h. members-known p ms h | false ↦ λ h. cc ]) h

-- a member is unknown
members-unknown : (p : Member → Bool) (ms : List Member) (n : List ℕ) → option_map (λ e. e.0) (find (λ e. not (p e)) ms) ≡ Some n → list_all p ms ≡ false
members-unknown p [] n h = cc
members-unknown p (e ∷ ms) n h = (elim (p e) as (λ b. option_map (λ e. e.0) (cond (not b) (Some e) (find (λ e. not (p e)) ms)) ≡ Some n → (b && list_all p ms) ≡ false) [ true ↦ λ h. members-unknown p ms n h | false ↦ λ h. refl ]) h

-- the member that is named is unknown
pub unknown-named : (p : Member → Bool) (ms : List Member) (n : List ℕ) → option_map (λ e. e.0) (find (λ e. not (p e)) ms) ≡ Some n → list_any (λ e. same_text e.0 n && not (p e)) ms ≡ true
unknown-named p [] n h = cc
unknown-named p (e ∷ ms) n h = (elim (p e) as (λ b. option_map (λ e. e.0) (cond (not b) (Some e) (find (λ e. not (p e)) ms)) ≡ Some n → ((same_text e.0 n && not b) || list_any (λ e. same_text e.0 n && not (p e)) ms) ≡ true) [ true ↦ λ h. or_right (same_text e.0 n && false) (list_any (λ e. same_text e.0 n && not (p e)) ms) (unknown-named p ms n h) | false ↦ λ h. let same : e.0 ≡ n = cc in rw (same, text-self n) refl ]) h

-- ---- entities

-- the member that is named is a fault
pub member-fault : (m : Model) (t u : ℕ) (d : Data) (ms : Members) (n : List ℕ) → u ≡ t → as_object d ≡ Some ms → option_map (λ e. e.0) (find (λ e. not (is_known_member (properties_of m u) e)) (member_list ms)) ≡ Some n → (is_object d && list_any (λ e. same_text e.0 n && not (is_known_member (properties_of m t) e)) (members_in d)) ≡ true
member-fault m t u d ms n type members found = rw (members, ← type) (unknown-named (is_known_member (properties_of m u)) (member_list ms) n found)

-- with a member that is no property it is no entity
pub member-refused : (m : Model) (t u : ℕ) (d : Data) (ms : Members) (n : List ℕ) → u ≡ t → as_object d ≡ Some ms → option_map (λ e. e.0) (find (λ e. not (is_known_member (properties_of m u) e)) (member_list ms)) ≡ Some n → entity_of (properties_of m t) d ≡ None
member-refused m t u d ms n type members found = rw (members, ← type, members-unknown (is_known_member (properties_of m u)) (member_list ms) n found) refl

-- an object whose members are known
pub entity-values : (m : Model) (t u : ℕ) (d : Data) (ms : Members) → u ≡ t → as_object d ≡ Some ms → find (λ e. not (is_known_member (properties_of m u) e)) (member_list ms) ≡ None → entity_of (properties_of m t) d ≡ all_some (map (property_value d) (properties_of m u))
entity-values m t u d ms type members none = rw (members, ← type, members-known (is_known_member (properties_of m u)) (member_list ms) none) refl
