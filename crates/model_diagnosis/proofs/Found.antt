-- What fails a test stands among the members that are searched, so the part that it belongs to is at fault.
use Rattle.std.proofs.Common.{◌≡◌, ℕ, ◌<◌, Bool, true, false, List, [], map, length, get_or, Some, refl, sym, ◌∙◌, ap, subst, codes}
use Rattle.std.specs.Prelude.{◌&&◌, Option, option_map, option_and_then, unwrap_or, slice_get}
use Rattle.std.specs.List.{list_any, Contains}
use Rattle.std.proofs.lemmas.List.{get_or-map}
use Rattle.std.proofs.lemmas.Option.{slice_get-map, slice_get-get_or, get_or_from_slice_get}
use Rattle.std.proofs.lemmas.List.Folds.{list_any_at}
use Rattle.std.proofs.lemmas.Bool.{and_from}
use Rattle.serde_json.specs.Data.{Data}
use Rattle.edm_values.specs.Lists.{same_text, places}
use Rattle.edm_values.proofs.SameTexts.{text-self}
use Rattle.edm_values.proofs.PlaceFacts.{any-place}
use Rattle.edm_schema.specs.JsonTrees as tree
use Rattle.edm_schema.specs.JsonTrees.{lacks}
use Rattle.edm_schema.specs.ModelTrees.{type_members, type_place, type_tree}
use Rattle.edm_schema.specs.MemberLists.{type_seen, tree_of, root_of, IsSchema}
use Rattle.edm_schema.specs.declared.schema.TypeTree.{TypeTree}
use Rattle.edm_schema.specs.declared.schema.Schema.{Schema}
use Rattle.edm_schema.proofs.Counted.{mapped_place}
use Rattle.edm_schema.proofs.Mapped.{length-mapped, list_any-map}
use Rattle.edm_schema.proofs.SchemaParts.{tree_at}
use Rattle.model_diagnosis.specs.declared.faults.TypeFault.{TypeFault}
use Rattle.model_diagnosis.specs.declared.faults.Fault.TheVariants as whole
use Rattle.model_diagnosis.specs.declared.faults.ReferenceTest.{ReferenceTest}
use Rattle.model_diagnosis.specs.declared.faults.CollectionTest.{CollectionTest}
use Rattle.model_diagnosis.specs.Faults.{some_at, SomeAt, type_name, IsTypeFault, IsFault, failed_reference, failed_collection, FailsReference, FailsCollection}

-- a test that one of what is searched passes
pub any_seen : {X : Type 0} (f : X → tree.Member) (p : tree.Member → Bool) (items : List X) (ms : List tree.Member) (i : ℕ) (x : X) → map f items ≡ ms → i < length items → x ≡ get_or items i x → p (f x) ≡ true → list_any p ms ≡ true
any_seen f p items ms i x same within is passes =
    subst (λ (ys : List tree.Member). list_any p ys ≡ true) same (list_any-map p f items ∙ list_any_at (λ y. p (f y)) items i x within (ap (λ y. p (f y)) (sym is) ∙ passes))

-- what is searched has a member of this one's name that passes
pub some_seen : {X : Type 0} (f : X → tree.Member) (has : Data → Bool) (items : List X) (ms : List tree.Member) (i : ℕ) (x : X) → map f items ≡ ms → i < length items → x ≡ get_or items i x → has (f x).1 ≡ true → some_at (f x).0 has ms ≡ true
some_seen f has items ms i x same within is passes =
    any_seen f (λ m. same_text m.0 (f x).0 && has m.1) items ms i x same within is (and_from (same_text (f x).0 (f x).0) (has (f x).1) (text-self (f x).0) passes)

-- an item that is searched is among the members
pub among_seen : {X : Type 0} (f : X → tree.Member) (items : List X) (ms : List tree.Member) (i : ℕ) (x : X) → map f items ≡ ms → i < length items → x ≡ get_or items i x → Contains ms (f x)
among_seen f items ms i x same within is =
    subst (λ (ys : List tree.Member). Contains ys (f x)) same (i, subst (λ n. i < n) (sym (length-mapped f items)) within, get_or-map f items i x (f x) within ∙ ap f (sym is))

-- so of this holds what holds of it
pub seen_at : {X : Type 0} (f : X → tree.Member) (Holds : Data → Type 0) (items : List X) (ms : List tree.Member) (i : ℕ) (x : X) → map f items ≡ ms → i < length items → x ≡ get_or items i x → Holds (f x).1 → SomeAt (f x).0 Holds ms
seen_at f Holds items ms i x same within is holds = (f x, among_seen f items ms i x same within is, refl, holds)

-- of these members one of this one's name passes
pub some_among : (has : Data → Bool) (ms : List tree.Member) (m : tree.Member) → Contains ms m → has m.1 ≡ true → some_at m.0 has ms ≡ true
some_among has ms m at passes =
    list_any_at (λ n. same_text n.0 m.0 && has n.1) ms at.0 m at.1 (ap (λ (n : tree.Member). same_text n.0 m.0 && has n.1) at.2 ∙ and_from (same_text m.0 m.0) (has m.1) (text-self m.0) passes)

-- ---- entity types

name_at : (s : Schema) → IsSchema s → (k : ℕ) (t : TypeTree) → t ≡ get_or s.types.items k t → k < length s.types.items → type_name (root_of s) k ≡ t.name.now
name_at s h k t is within =
    ap (λ (ms : List tree.Member). unwrap_or (option_map (λ m. m.0) (slice_get ms k)) []) (sym h.types)
    ∙ (ap (λ (o : Option tree.Member). unwrap_or (option_map (λ m. m.0) o) []) (slice_get-map type_seen s.types.items k ∙ ap (option_map type_seen) (slice_get-get_or s.types.items k t within))
    ∙ ap (λ (u : TypeTree). u.name.now) (sym is))

-- there are as many types
pub as_many : (s : Schema) → IsSchema s → length (type_members (root_of s)) ≡ length s.types.items
as_many s h = sym (sym (length-mapped type_seen s.types.items) ∙ ap length h.types)

-- a test that a type passes at its place
pub any_type : (s : Schema) → IsSchema s → (p : ℕ → Bool) (k : ℕ) (t : TypeTree) → t ≡ get_or s.types.items k t → k < length s.types.items → p k ≡ true → list_any (λ j. same_text (type_name (root_of s) j) t.name.now && p j) (places (length (type_members (root_of s)))) ≡ true
any_type s h p k t is within passes =
    any-place (λ j. same_text (type_name (root_of s) j) t.name.now && p j) (length (type_members (root_of s))) k
    (subst (λ n. k < n) (sym (as_many s h)) within)
    (and_from (same_text (type_name (root_of s) k) t.name.now) (p k) (ap (λ n. same_text n t.name.now) (name_at s h k t is within) ∙ text-self t.name.now) passes)

-- a fault of a type that stands at a place of the file
pub type_fault : (s : Schema) → IsSchema s → (k : ℕ) (t : TypeTree) (f : TypeFault) → t ≡ get_or s.types.items k t → k < length s.types.items → IsTypeFault (root_of s) k (tree_of t) f → IsFault (root_of s) (whole.Type t.name f)
type_fault s h k t f is within fault =
    (k, subst (λ n. k < n) (sym (as_many s h)) within, name_at s h k t is within, subst (λ u. IsTypeFault (root_of s) k u f) (tree_at s h k t is within) fault)

-- ---- navigations

-- the first test that a single-valued navigation to this target fails
pub reference_fails : (d t target n : Data) (p : ℕ) (test : ReferenceTest) → Some p ≡ type_place d n → target ≡ type_tree d p → lacks (codes "$Collection") n ≡ true → Some test ≡ failed_reference t target n → FailsReference d t test n
reference_fails d t target n p test place is one first =
    (one, subst (λ (o : Option ℕ). option_and_then (λ q. failed_reference t (type_tree d q) n) o ≡ Some test) place (ap (λ u. failed_reference t u n) (sym is) ∙ sym first))

-- the first test that a collection-valued navigation to this target fails
pub collection_fails : (d : Data) (k : ℕ) (target n : Data) (p : ℕ) (test : CollectionTest) → Some p ≡ type_place d n → target ≡ type_tree d p → lacks (codes "$Collection") n ≡ false → Some test ≡ failed_collection d k target n → FailsCollection d k test n
collection_fails d k target n p test place is many first =
    (many, subst (λ (o : Option ℕ). option_and_then (λ q. failed_collection d k (type_tree d q) n) o ≡ Some test) place (ap (λ u. failed_collection d k u n) (sym is) ∙ sym first))

-- ---- counts

-- what a list of what a function gives at each place has at one of them
pub count_at : (f : ℕ → ℕ) (n k : ℕ) (xs : List ℕ) (x : ℕ) → xs ≡ map f (places n) → k < n → x ≡ get_or xs k x → x ≡ f k
count_at f n k xs x same below is =
    is ∙ (ap (λ ys. get_or ys k x) same ∙ get_or_from_slice_get (map f (places n)) k (f k) x (mapped_place f n k below))
