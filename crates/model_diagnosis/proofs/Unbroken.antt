-- Where a search finds nothing, the rules hold.
use Rattle.std.proofs.Common.{◌≡◌, ℕ, zero, suc, ◌+◌, ◌<◌, ◌≤◌, Bool, true, false, not, List, [], ◌∷◌, map, take, get_or, length, Some, None, codes, refl, sym, ◌∙◌, ap, subst, arith}
use Rattle.std.specs.Prelude.{◌&&◌, ◌||◌, option_map, unwrap_or, slice_get, filter, is_some, IfNone, Option, if◌then◌else◌}
use Rattle.std.specs.List.{list_all, Contains}
use Rattle.std.proofs.lemmas.List.{take_all}
use Rattle.std.proofs.lemmas.List.Folds.{list_all-map, list_all_more}
use Rattle.std.proofs.lemmas.Bool.{and_from}
use Rattle.serde_json.specs.Data.{Data, null}
use Rattle.edm_values.specs.Lists.{places, is_some_and}
use Rattle.edm_schema.specs.JsonTrees as tree
use Rattle.edm_schema.specs.JsonTrees.{Member, members_in, is_object, is_string, is_boolean, is_true, is_text, lacks, text_at, passes_at, passes_if_at}
use Rattle.edm_schema.specs.MemberLists.{member_seen, qualified_members}
use Rattle.edm_schema.specs.declared.members.Member.{Member as Declared}
use Rattle.edm_schema.specs.ModelTrees.{is_type, is_own, is_property, is_navigation, has_one_key, has_known_members, has_property_type, has_scale_in_place, kind_of, is_navigable, is_constrained, has_partner, is_reference_to, type_place, constraint, key_name, property_kind, are_of_one_kind, is_hierarchy, is_definition, is_custom_name, qualifier, hierarchy_term, aggregate_term, definition_term, own_members, property_members, navigation_members, term_members, type_members, type_tree}
use Rattle.model_diagnosis.specs.Faults.{property_names, reference_names, collection_names}
use Rattle.model_diagnosis.specs.Searched.{has_only, passes_property_tests, passes_reference_tests, passes_collection_tests, is_sound_property, has_sound_parts, has_sound_terms, has_sound_links}
use Rattle.model_diagnosis.proofs.Tests.{all_weaker, all_filtered, all_places, passes_among}
use Rattle.edm_values.proofs.EachLemmas.{and-left, and-right}
use Rattle.edm_values.proofs.ListFacts.{filter-passes}
use Rattle.edm_values.proofs.PlaceFacts.{all-place}

-- what all that was searched passes, all members pass
pub all_searched : {X : Type 0} (f : X → tree.Member) (p : tree.Member → Bool) (items : List X) (ms : List tree.Member) (i : ℕ) → map f items ≡ ms → length items ≤ i → list_all (λ x. p (f x)) (take i items) ≡ true → list_all p ms ≡ true
all_searched f p items ms i same within passes =
    subst (λ (ys : List tree.Member). list_all p ys ≡ true) same (list_all-map p f items ∙ (ap (list_all (λ x. p (f x))) (sym (take_all i items within)) ∙ passes))

-- so of the members of a term, which are searched by their qualifiers
pub all_of_term : (p : tree.Member → Bool) (term : List ℕ) (t : Data) (items : List Declared) (i : ℕ) → map member_seen items ≡ qualified_members term t → length items ≤ i → list_all (λ x. p (member_seen x)) (take i items) ≡ true → list_all (λ m. p (qualifier term m.0, m.1)) (term_members term t) ≡ true
all_of_term p term t items i same within passes =
    sym (list_all-map p (λ (m : tree.Member). (qualifier term m.0, m.1)) (term_members term t)) ∙ all_searched member_seen p items (qualified_members term t) i same within passes

-- one more that passes
pub one_more : {X : Type 0} (p : X → Bool) (items : List X) (i : ℕ) (x : X) → i < length items → x ≡ get_or items i x → list_all p (take i items) ≡ true → p x ≡ true → list_all p (take (i + 1) items) ≡ true
one_more p items i x within is before passes =
    list_all_more p items i x within ∙ and_from (list_all p (take i items)) (p (get_or items i x)) before (ap p (sym is) ∙ passes)

pub kept_passes : {X : Type 0} (keep : X → Bool) (xs : List X) (x : X) → Contains (filter keep xs) x → keep x ≡ true
kept_passes keep xs x = passes_among keep (filter keep xs) x (filter-passes keep xs)

-- a property whose members have names of properties and pass their tests keeps its rules
pub property_holds : (p : Data) → is_property p ≡ true → has_only property_names p ≡ true → passes_property_tests p ≡ true → is_sound_property p ≡ true
property_holds p h names tests =
    let object : is_object p ≡ true = and-left _ _ h in
    let text : passes_if_at (codes "$Type") is_string p ≡ true = and-left _ _ (and-left _ _ (and-left _ _ tests)) in
    let flag : passes_if_at (codes "$Nullable") is_boolean p ≡ true = and-right _ _ (and-left _ _ (and-left _ _ tests)) in
    let kind : is_some (kind_of p) ≡ true = and-right _ _ (and-left _ _ tests) in
    let scale : has_scale_in_place p ≡ true = and-right _ _ tests in
    rw (object, names, text, flag, kind, scale) refl

-- a single-valued navigation to this target that passes its tests keeps its rules
pub reference_holds : (d : Data) (k : ℕ) (t target n : Data) (p : ℕ) → Some p ≡ type_place d n → target ≡ type_tree d p → is_navigation n ≡ true → lacks (codes "$Collection") n ≡ true → has_only reference_names n ≡ true
    → passes_reference_tests t target n ≡ true → is_navigable d k t n ≡ true
reference_holds d k t target n p place is navigation one names tests =
    let object : is_object n ≡ true = and-left _ _ navigation in
    let there : passes_at (codes "$ReferentialConstraint") is_object n ≡ true = and-left _ _ tests in
    let to_key : is_some_and (λ c. is_text (key_name target) c.1 && are_of_one_kind (property_kind t c.0) (property_kind target (key_name target))) (constraint n) ≡ true = and-right _ _ tests in
    let holds : is_constrained t target n ≡ true = rw (object, names, there, to_key) refl in
    subst (λ (o : Option ℕ). is_some_and (λ q. if lacks (codes "$Collection") n then is_constrained t (type_tree d q) n else has_partner d k (type_tree d q) n) o ≡ true) place
    (ap (λ b. if b then is_constrained t (type_tree d p) n else has_partner d k (type_tree d p) n) one ∙ subst (λ u. is_constrained t u n ≡ true) is holds)

-- a collection-valued navigation to this target that passes its tests keeps its rules
pub collection_holds : (d : Data) (k : ℕ) (t target n : Data) (p : ℕ) → Some p ≡ type_place d n → target ≡ type_tree d p → is_navigation n ≡ true → lacks (codes "$Collection") n ≡ false → has_only collection_names n ≡ true
    → passes_collection_tests d k target n ≡ true → is_navigable d k t n ≡ true
collection_holds d k t target n p place is navigation many names tests =
    let object : is_object n ≡ true = and-left _ _ navigation in
    let flag : passes_at (codes "$Collection") is_true n ≡ true = and-left _ _ (and-left _ _ tests) in
    let text : passes_at (codes "$Partner") is_string n ≡ true = and-right _ _ (and-left _ _ tests) in
    let back : is_reference_to d k target (text_at (codes "$Partner") n) ≡ true = and-right _ _ tests in
    let holds : has_partner d k target n ≡ true = rw (object, names, flag, text, back) refl in
    subst (λ (o : Option ℕ). is_some_and (λ q. if lacks (codes "$Collection") n then is_constrained t (type_tree d q) n else has_partner d k (type_tree d q) n) o ≡ true) place
    (ap (λ b. if b then is_constrained t (type_tree d p) n else has_partner d k (type_tree d p) n) many ∙ subst (λ u. has_partner d k u n ≡ true) is holds)

-- the members that are no own members need no rule
pub all_known : (t : Data) → list_all (λ m. not (is_own m.0) || is_property m.1 || is_navigation m.1) (own_members t) ≡ true → has_known_members t ≡ true
all_known t = all_filtered (λ (m : Member). is_own m.0) (λ m. not (is_own m.0) || is_property m.1 || is_navigation m.1) (λ m e. ap (λ b. not b || is_property m.1 || is_navigation m.1) e) (members_in t)

-- the tree at a place passes what all trees pass
tree_passes : (p : Data → Bool) (ms : List Member) (k : ℕ) → k < length ms → list_all (λ m. p m.1) ms ≡ true → p (unwrap_or (option_map (λ m. m.1) (slice_get ms k)) null) ≡ true
tree_passes p [] k below h = absurd (omega arith)
tree_passes p (m ∷ ms) zero below h = and-left (p m.1) (list_all (λ m. p m.1) ms) h
tree_passes p (m ∷ ms) (suc k) below h = tree_passes p ms k (omega arith) (and-right (p m.1) (list_all (λ m. p m.1) ms) h)

-- an entity type of which no part and no link is at fault keeps its rules
type_holds : (d : Data) (k : ℕ) (t : Data) → has_sound_parts t ≡ true → has_sound_links d k t ≡ true → is_type d k t ≡ true
type_holds d k t own links =
    let key : has_one_key t ≡ true = and-left _ _ (and-left _ _ own) in
    let known : has_known_members t ≡ true = and-right _ _ (and-left _ _ own) in
    let properties : list_all (λ m. is_sound_property m.1) (property_members t) ≡ true = and-right _ _ own in
    let types = all_weaker (λ (m : Member). is_sound_property m.1) (λ m. has_property_type m.1) (λ m a. and-left (has_property_type m.1) (has_scale_in_place m.1) a) (property_members t) properties in
    let scales = all_weaker (λ (m : Member). is_sound_property m.1) (λ m. has_scale_in_place m.1) (λ m a. and-right (has_property_type m.1) (has_scale_in_place m.1) a) (property_members t) properties in
    let navigations : list_all (λ m. is_navigable d k t m.1) (navigation_members t) ≡ true = and-left _ _ links in
    let terms : has_sound_terms d k t ≡ true = and-right _ _ links in
    let hierarchies : list_all (λ m. is_hierarchy d k t m.1) (term_members hierarchy_term t) ≡ true = and-left _ _ (and-left _ _ terms) in
    let aggregates : list_all (λ m. is_string m.1) (term_members aggregate_term t) ≡ true = and-right _ _ (and-left _ _ terms) in
    let definitions : list_all (λ m. is_definition m.1 && is_custom_name t (qualifier definition_term m.0)) (term_members definition_term t) ≡ true = and-right _ _ terms in
    rw (key, known, types, scales, navigations, hierarchies, aggregates, definitions) refl

-- so of all entity types
pub types_hold : (d : Data) → list_all (λ m. has_sound_parts m.1) (type_members d) ≡ true → list_all (λ k. has_sound_links d k (type_tree d k)) (places (length (type_members d))) ≡ true → list_all (λ k. is_type d k (type_tree d k)) (places (length (type_members d))) ≡ true
types_hold d parts links =
    all_places (λ k. is_type d k (type_tree d k)) (length (type_members d)) (λ k below.
    type_holds d k (type_tree d k) (tree_passes has_sound_parts (type_members d) k below parts)
    (all-place (λ k. has_sound_links d k (type_tree d k)) (length (type_members d)) k links below))

-- where nothing is found what follows holds
pub if_none : {X : Type 0} (P Q : Type 0) → (P → Q) → (o : Option X) → IfNone o P → IfNone o Q
if_none P Q f None h = f h
if_none P Q f (Some x) h = h
