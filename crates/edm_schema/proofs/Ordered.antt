-- Names in byte order.
use Rattle.std.proofs.Common.{◌≡◌, ℕ, Bool, true, false, not, List, [], ◌∷◌, map, cond, length, take, drop, refl, sym, ◌∙◌, ap, subst, arith, nat_eq}
use Rattle.std.specs.Prelude.{String, string_bytes, filter}
use Rattle.std.specs.List.{AllByRecursion, starts_with}
use Rattle.std.specs.List.Sorted.{IsStrictlySortedBy}
use Rattle.std.specs.Cmp.Lexicographic.{slice_cmp, pointwise}
use Rattle.std.specs.Ordering.{nat_cmp}
use Rattle.std.specs.declared.cmp.Ordering.{Ordering}
use Rattle.std.specs.declared.alloc.Global.{Global}
use Rattle.serde_json.specs.View.{members_view}
use Rattle.serde_json.specs.declared.value.Value.{Value}
use Rattle.edm_schema.specs.JsonTrees.{Member, member_list}
use Rattle.std.proofs.lemmas.Bool.{false≢true}
use Rattle.std.proofs.lemmas.Bool.Decides.{nat_tests}
use Rattle.edm_schema.specs.ModelTrees.{is_of_term, is_annotation, qualifier}
use Rattle.edm_schema.specs.NameOrders.{AreOrdered}
use Rattle.edm_values.proofs.EachLemmas.{and-left, and-right}

-- no names are in order
pub none_ordered : AreOrdered []
unfolding IsStrictlySortedBy
none_ordered = tt

all_names : (n : List ℕ) (es : List (String Global × Value)) → AllByRecursion (λ y. slice_cmp nat_cmp n (string_bytes y) ≡ Ordering.Less) (map (λ e. e.0) es) → AllByRecursion (λ y. slice_cmp nat_cmp n y ≡ Ordering.Less) (map (λ m. m.0) (member_list (members_view es)))
all_names n [] h = tt
all_names n (e ∷ es) h = (h.0, all_names n es h.1)

-- the members of a map in the order of its keys are in byte order of their names
pub names_ordered : (es : List (String Global × Value)) → IsStrictlySortedBy (λ a b. slice_cmp nat_cmp (string_bytes a) (string_bytes b)) (map (λ e. e.0) es) → AreOrdered (map (λ m. m.0) (member_list (members_view es)))
unfolding IsStrictlySortedBy
names_ordered [] h = tt
names_ordered (e ∷ es) h = (all_names (string_bytes e.0) es h.0, names_ordered es h.1)

-- ---- lists made of members

all_filtered : {X : Type 0} (name : X → List ℕ) (test : X → Bool) (n : List ℕ) (xs : List X) → AllByRecursion (λ y. slice_cmp nat_cmp n y ≡ Ordering.Less) (map name xs) → AllByRecursion (λ y. slice_cmp nat_cmp n y ≡ Ordering.Less) (map name (filter test xs))
all_filtered name test n [] h = tt
all_filtered name test n (x ∷ xs) h = elim (test x) as (λ b. AllByRecursion (λ y. slice_cmp nat_cmp n y ≡ Ordering.Less) (map name (cond b (x ∷ filter test xs) (filter test xs)))) [ true ↦ (h.0, all_filtered name test n xs h.1) | false ↦ all_filtered name test n xs h.1 ]

-- what is left of a list is in order
pub filter_ordered : {X : Type 0} (name : X → List ℕ) (test : X → Bool) (xs : List X) → AreOrdered (map name xs) → AreOrdered (map name (filter test xs))
unfolding IsStrictlySortedBy
filter_ordered name test [] h = tt
filter_ordered name test (x ∷ xs) h = elim (test x) as (λ b. AreOrdered (map name (cond b (x ∷ filter test xs) (filter test xs)))) [ true ↦ (all_filtered name test (name x) xs h.0, filter_ordered name test xs h.1) | false ↦ filter_ordered name test xs h.1 ]

names_same : {X : Type 0} (name : X → List ℕ) (f : Member → X) (ms : List Member) → ((m : Member) → name (f m) ≡ m.0) → map name (map f ms) ≡ map (λ m. m.0) ms
names_same name f [] same = refl
names_same name f (m ∷ ms) same = ap (λ n. n ∷ map name (map f ms)) (same m) ∙ ap (λ ns. m.0 ∷ ns) (names_same name f ms same)

-- what a function made of the members that are left is in order, if it has their names
pub made_ordered : {X : Type 0} (name : X → List ℕ) (f : Member → X) (test : Member → Bool) (ms : List Member) → ((m : Member) → name (f m) ≡ m.0) → AreOrdered (map (λ m. m.0) ms) → AreOrdered (map name (map f (filter test ms)))
made_ordered name f test ms same h = subst AreOrdered (sym (names_same name f (filter test ms) same)) (filter_ordered (λ m. m.0) test ms h)

-- ---- qualifiers behind a term

equal_cmp : (x y c : ℕ) → nat_eq c x ≡ true → nat_eq c y ≡ true → nat_cmp x y ≡ Ordering.Equal
equal_cmp x y c hx hy = grind (arith, nat_tests)

-- two names of a term compare as what follows it
cmp_drop : (term a b : List ℕ) → pointwise nat_eq term (take (length term) a) ≡ true → pointwise nat_eq term (take (length term) b) ≡ true → slice_cmp nat_cmp a b ≡ slice_cmp nat_cmp (drop (length term) a) (drop (length term) b)
cmp_drop [] a b ha hb = refl
cmp_drop (c ∷ term) [] b ha hb = absurd (false≢true ha)
cmp_drop (c ∷ term) (x ∷ a) [] ha hb = absurd (false≢true hb)
cmp_drop (c ∷ term) (x ∷ a) (y ∷ b) ha hb = rw (equal_cmp x y c (and-left (nat_eq c x) _ ha) (and-left (nat_eq c y) _ hb)) (cmp_drop term a b (and-right (nat_eq c x) _ ha) (and-right (nat_eq c y) _ hb))

begins : (term n : List ℕ) → is_of_term term n ≡ true → starts_with nat_eq n term ≡ true
begins term n of = and-left (starts_with nat_eq n term) (not (is_annotation (qualifier term n))) of

all_qualified : (term n : List ℕ) (ms : List Member) → is_of_term term n ≡ true → AllByRecursion (λ y. slice_cmp nat_cmp n y ≡ Ordering.Less) (map (λ m. m.0) ms) → AllByRecursion (λ y. slice_cmp nat_cmp (qualifier term n) y ≡ Ordering.Less) (map (λ m. qualifier term m.0) (filter (λ m. is_of_term term m.0) ms))
all_qualified term n [] of h = tt
all_qualified term n (m ∷ ms) of h =
    elim (is_of_term term m.0) as (λ b. is_of_term term m.0 ≡ b → AllByRecursion (λ y. slice_cmp nat_cmp (qualifier term n) y ≡ Ordering.Less) (map (λ m. qualifier term m.0) (cond b (m ∷ filter (λ m. is_of_term term m.0) ms) (filter (λ m. is_of_term term m.0) ms)))) [
      | true ↦ λ e. (sym (cmp_drop term n m.0 (begins term n of) (begins term m.0 e)) ∙ h.0, all_qualified term n ms of h.1)
      | false ↦ λ e. all_qualified term n ms of h.1
    ] refl

-- the qualifiers of a term's members are in order
pub qualified_ordered : (term : List ℕ) (ms : List Member) → AreOrdered (map (λ m. m.0) ms) → AreOrdered (map (λ m. qualifier term m.0) (filter (λ m. is_of_term term m.0) ms))
unfolding IsStrictlySortedBy
qualified_ordered term [] h = tt
qualified_ordered term (m ∷ ms) h =
    elim (is_of_term term m.0) as (λ b. is_of_term term m.0 ≡ b → AreOrdered (map (λ m. qualifier term m.0) (cond b (m ∷ filter (λ m. is_of_term term m.0) ms) (filter (λ m. is_of_term term m.0) ms)))) [
      | true ↦ λ e. (all_qualified term m.0 ms e h.0, qualified_ordered term ms h.1)
      | false ↦ λ e. qualified_ordered term ms h.1
    ] refl
