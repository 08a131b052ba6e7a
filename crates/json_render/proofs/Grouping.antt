-- Parts in byte order of names, group by group.
use Rattle.std.proofs.Common.{◌≡◌, ℕ, zero, suc, Bool, true, false, cond, not, ◌&&◌, List, [], ◌∷◌, ◌++◌, map, filter, flat_map, take, drop, refl, sym, ◌∙◌, ap, inl, inr}
use Rattle.std.specs.Prelude.{◌⊎◌}
use Rattle.std.specs.Cmp.{IsStrictWeakOrder}
use Rattle.std.specs.Cmp.Lexicographic.{slice_cmp}
use Rattle.std.specs.List.Sorted.{ties}
use Rattle.std.specs.Ordering.{is_lt, nat_cmp, ordering_reverse}
use Rattle.std.specs.declared.cmp.Ordering.{Ordering}
use Rattle.std.specs.declared.cmp.Ordering.TheVariants.{Less, Equal, Greater}
use Rattle.std.proofs.lemmas.Bool.{cases_Bool, true≢false}
use Rattle.std.proofs.lemmas.Cmp.{nat_list_cmp_total}
use Rattle.std.proofs.lemmas.List.Sorted.{ranks_by}
use Rattle.edm_values.specs.Names.{Name}
use Rattle.edm_values.specs.Lists.{distinct, in_byte_order, same_text, text_before}
use Rattle.edm_values.specs.OrderLaws.{equal_lists}
use Rattle.edm_values.proofs.EachLemmas.{Each, each-filter, each-map, each-weaker}
use Rattle.edm_values.proofs.Reorderings.{Reorders, TestsEquality, distinct-reorders, reorders-map}
use Rattle.edm_values.proofs.SameTexts.{same_texts, text-self}
use Rattle.edm_values.proofs.SortedLists.{Ascends, filter-sorted, reorders-sorted, sorted-ascends, sorted-reorders, sorted-unique}
use Rattle.edm_values.proofs.ListFacts.{flat_map-agree}
use Rattle.edm_values.proofs.TopPlaces.{filter-none, filter-each}
use Rattle.json_render.specs.Places.{NamedPart, name_before, run_of, first_run, sorted_parts}
use Rattle.json_render.proofs.SortedEntries.{names_ranked}

-- ---- names

texts_ranked : IsStrictWeakOrder text_before
texts_ranked = ranks_by nat_list_cmp_total (λ t. t)

text_equality : TestsEquality same_text
text_equality = record { same = same_texts; itself = text-self }

neither_less : (r : Ordering) → (not (is_lt (ordering_reverse r)) && not (is_lt r)) ≡ true → ordering_reverse r ≡ Equal
neither_less Less h = absurd (true≢false (sym h))
neither_less Equal h = refl
neither_less Greater h = absurd (true≢false (sym h))

-- names of which neither stands before the other are one
tied_texts : (a b : Name) → ties text_before a b ≡ true → a ≡ b
tied_texts a b h =
    let back = nat_list_cmp_total.antisymm a b in
    equal_lists a b (back ∙ neither_less (slice_cmp nat_cmp b a) (ap (λ s. not (is_lt s) && not (is_lt (slice_cmp nat_cmp b a))) (sym back) ∙ h))

-- a name does not stand before itself
pub not_before_itself : (a : Name) → text_before a a ≡ false
not_before_itself a = go (cases_Bool (text_before a a))
  where
    go : (text_before a a ≡ true) ⊎ (text_before a a ≡ false) → text_before a a ≡ false
    go (inl h) = texts_ranked.one_way a a h
    go (inr h) = h

-- of two other names that does not stand before this one, this one stands before it
comes_before : (n m : Name) → text_before m n ≡ false → same_text m n ≡ false → text_before n m ≡ true
comes_before n m h s = go (cases_Bool (text_before n m))
  where
    go : (text_before n m ≡ true) ⊎ (text_before n m ≡ false) → text_before n m ≡ true
    go (inl g) = g
    go (inr g) = absurd (true≢false (sym (text-self m) ∙ ap (same_text m) (tied_texts m n (λ i. not (h i) && not (g i))) ∙ s))

differ_back : (a b : Name) → same_text a b ≡ false → same_text b a ≡ false
differ_back a b h = go (cases_Bool (same_text b a))
  where
    go : (same_text b a ≡ true) ⊎ (same_text b a ≡ false) → same_text b a ≡ false
    go (inl g) = absurd (true≢false (sym (text-self a) ∙ ap (same_text a) (sym (same_texts b a g)) ∙ h))
    go (inr g) = g

filter-passes : {X : Type 0} (t : X → Bool) (xs : List X) → Each (λ x. t x ≡ true) (filter t xs)
filter-passes t [] = tt
filter-passes t (x ∷ xs) = go (t x) refl (filter-passes t xs)
  where
    go : (b : Bool) → t x ≡ b → Each (λ y. t y ≡ true) (filter t xs) → Each (λ y. t y ≡ true) (cond b (x ∷ filter t xs) (filter t xs))
    go true h e = (h, e)
    go false h e = e

-- names in another order are in the same byte order
pub order-reorders : {ms ns : List Name} → Reorders ms ns → in_byte_order ms ≡ in_byte_order ns
order-reorders r = sorted-reorders text_before texts_ranked tied_texts (distinct-reorders same_text text_equality r)

-- the parts of a name
abbrev pub named : Name → List NamedPart → List NamedPart
named n es = filter (λ e. same_text e.name n) es

-- the names of parts
abbrev pub names_in : List NamedPart → List Name
names_in es = map (λ e. e.name) es

-- the groups of parts, in the order of their first places
abbrev pub groups : {M : Type 0} → (Name → List NamedPart → List M) → List NamedPart → List M
groups F es = flat_map (λ n. F n (named n es)) (distinct same_text (names_in es))

each-distinct : (P : Name → Type 0) (ns : List Name) → Each P ns → Each P (distinct same_text ns)
each-distinct P [] a = tt
each-distinct P (n ∷ ns) a = (a.0, each-filter P (λ m. not (same_text n m)) (distinct same_text ns) (each-distinct P ns a.1))

-- ---- one group after another of parts in order

-- so many from the front have the name, and those behind do not
cut-run : (n : Name) (es : List NamedPart) → Each (λ e. text_before e.name n ≡ false) es → Ascends name_before es
    → (named n es ≡ take (run_of n es) es) × Each (λ e. same_text e.name n ≡ false) (drop (run_of n es) es)
cut-run n [] a u = (refl, tt)
cut-run n (e ∷ es) a u = go (same_text e.name n) refl (cut-run n es a.1 u.1)
  where
    past : same_text e.name n ≡ false → Each (λ x. same_text x.name n ≡ false) es
    past s = each-weaker (λ x. name_before x e ≡ false) (λ x. same_text x.name n ≡ false) es (λ x h. other x h (cases_Bool (same_text x.name n))) u.0
      where
        other : (x : NamedPart) → name_before x e ≡ false → (same_text x.name n ≡ true) ⊎ (same_text x.name n ≡ false) → same_text x.name n ≡ false
        other x h (inl g) = absurd (true≢false (sym (comes_before n e.name a.0 s) ∙ ap (λ m. text_before m e.name) (sym (same_texts x.name n g)) ∙ h))
        other x h (inr g) = g

    go : (b : Bool) → same_text e.name n ≡ b → (named n es ≡ take (run_of n es) es) × Each (λ x. same_text x.name n ≡ false) (drop (run_of n es) es)
        → (cond b (e ∷ named n es) (named n es) ≡ take (cond b (suc (run_of n es)) 0) (e ∷ es)) × Each (λ x. same_text x.name n ≡ false) (drop (cond b (suc (run_of n es)) 0) (e ∷ es))
    go true s r = (ap (λ xs. e ∷ xs) r.0, r.1)
    go false s r = (filter-none (λ x. same_text x.name n) es (past s), (s, past s))

run-all : (n : Name) (es : List NamedPart) → Each (λ e. same_text e.name n ≡ true) (take (run_of n es) es)
run-all n [] = tt
run-all n (e ∷ es) = go (same_text e.name n) refl (run-all n es)
  where
    go : (b : Bool) → same_text e.name n ≡ b → Each (λ x. same_text x.name n ≡ true) (take (run_of n es) es) → Each (λ x. same_text x.name n ≡ true) (take (cond b (suc (run_of n es)) 0) (e ∷ es))
    go true s r = (s, r)
    go false s r = tt

-- the names but this one
abbrev others : Name → List Name → List Name
others n ns = filter (λ m. not (same_text n m)) ns

others-twice : (n : Name) (ns : List Name) → others n (others n ns) ≡ others n ns
others-twice n ns = filter-each (λ m. not (same_text n m)) (others n ns) (filter-passes (λ m. not (same_text n m)) ns)

-- without the parts in front that have a name, the other names stay
names-behind : (n : Name) (k : ℕ) (es : List NamedPart) → Each (λ e. same_text e.name n ≡ true) (take k es) → Each (λ e. same_text e.name n ≡ false) (drop k es) → others n (distinct same_text (names_in es)) ≡ distinct same_text (names_in (drop k es))
names-behind n zero es a d =
    filter-each (λ m. not (same_text n m)) (distinct same_text (names_in es))
    (each-distinct (λ m. not (same_text n m) ≡ true) (names_in es) (each-map (λ m. not (same_text n m) ≡ true) (λ e. same_text e.name n ≡ false) (λ e. e.name) (λ e h. ap not (differ_back e.name n h)) es d))
names-behind n (suc k) [] a d = refl
names-behind n (suc k) (e ∷ es) a d =
    let same = sym (same_texts e.name n a.0) in
    ap (λ m. others n (m ∷ others m (distinct same_text (names_in es)))) (sym same)
    ∙ ap (λ b. cond (not b) (n ∷ others n (others n (distinct same_text (names_in es)))) (others n (others n (distinct same_text (names_in es))))) (text-self n)
    ∙ others-twice n (distinct same_text (names_in es)) ∙ names-behind n k es a.1 d

named-behind : (n m : Name) (k : ℕ) (es : List NamedPart) → same_text n m ≡ false → Each (λ e. same_text e.name n ≡ true) (take k es) → named m es ≡ named m (drop k es)
named-behind n m zero es s a = refl
named-behind n m (suc k) [] s a = refl
named-behind n m (suc k) (e ∷ es) s a =
    ap (λ b. cond b (e ∷ named m es) (named m es)) (ap (λ x. same_text x m) (same_texts e.name n a.0) ∙ s) ∙ named-behind n m k es s a.1

flat-on : {A M : Type 0} (f g : A → List M) (xs : List A) → Each (λ a. f a ≡ g a) xs → flat_map f xs ≡ flat_map g xs
flat-on f g [] h = refl
flat-on f g (x ∷ xs) h = λ i. h.0 i ++ flat-on f g xs h.1 i

-- the group of the first name, and the groups of what stands behind
pub groups-step : {M : Type 0} (F : Name → List NamedPart → List M) (e : NamedPart) (es : List NamedPart) → Ascends name_before (e ∷ es)
    → groups F (e ∷ es) ≡ F e.name (take (first_run (e ∷ es)) (e ∷ es)) ++ groups F (drop (first_run (e ∷ es)) (e ∷ es))
groups-step F e es u =
    let n = e.name in
    let k = run_of n es in
    let cut = cut-run n es u.0 u.1 in
    let all = run-all n es in
    let first : cond (same_text n n) (e ∷ named n es) (named n es) ≡ e ∷ take k es = ap (λ b. cond b (e ∷ named n es) (named n es)) (text-self n) ∙ ap (λ xs. e ∷ xs) cut.0 in
    let rest = names-behind n k es all cut.1 in
    let apart : Each (λ m. same_text n m ≡ false) (distinct same_text (names_in (drop k es))) =
    each-distinct (λ m. same_text n m ≡ false) (names_in (drop k es)) (each-map (λ m. same_text n m ≡ false) (λ x. same_text x.name n ≡ false) (λ x. x.name) (λ x h. differ_back x.name n h) (drop k es) cut.1) in
    (λ i. F n (first i) ++ flat_map (λ m. F m (named m (e ∷ es))) (rest i))
    ∙ ap (λ xs. F n (e ∷ take k es) ++ xs) (flat-on (λ m. F m (named m (e ∷ es))) (λ m. F m (named m (drop k es))) (distinct same_text (names_in (drop k es)))
    (each-weaker (λ m. same_text n m ≡ false) (λ m. F m (named m (e ∷ es)) ≡ F m (named m (drop k es))) (distinct same_text (names_in (drop k es)))
    (λ m s. ap (F m) (ap (λ b. cond b (e ∷ named m es) (named m es)) s ∙ named-behind n m k es s all)) apart))

pub ascends-drop : (k : ℕ) (es : List NamedPart) → Ascends name_before es → Ascends name_before (drop k es)
ascends-drop zero es u = u
ascends-drop (suc k) [] u = u
ascends-drop (suc k) (e ∷ es) u = ascends-drop k es u.1

-- ---- the groups of parts in order, and those by names in byte order

ascends-filter : (t : Name → Bool) (ns : List Name) → Ascends text_before ns → Ascends text_before (filter t ns)
ascends-filter t [] a = tt
ascends-filter t (n ∷ ns) a = go (t n) (each-filter (λ m. text_before m n ≡ false) t ns a.0) (ascends-filter t ns a.1)
  where
    go : (b : Bool) → Each (λ m. text_before m n ≡ false) (filter t ns) → Ascends text_before (filter t ns) → Ascends text_before (cond b (n ∷ filter t ns) (filter t ns))
    go true e f = (e, f)
    go false e f = f

ascends-distinct : (ns : List Name) → Ascends text_before ns → Ascends text_before (distinct same_text ns)
ascends-distinct [] a = tt
ascends-distinct (n ∷ ns) a = (
  each-filter (λ m. text_before m n ≡ false) (λ m. not (same_text n m)) (distinct same_text ns) (each-distinct (λ m. text_before m n ≡ false) ns a.0),
  ascends-filter (λ m. not (same_text n m)) (distinct same_text ns) (ascends-distinct ns a.1),
)

names-ascend : (es : List NamedPart) → Ascends name_before es → Ascends text_before (names_in es)
names-ascend [] u = tt
names-ascend (e ∷ es) u = (each-map (λ m. text_before m e.name ≡ false) (λ x. name_before x e ≡ false) (λ x. x.name) (λ x h. h) es u.0, names-ascend es u.1)

-- parts of one name are in order
ascends-named : (n : Name) (es : List NamedPart) → Ascends name_before (named n es)
ascends-named n [] = tt
ascends-named n (e ∷ es) = go (same_text e.name n) refl (ascends-named n es)
  where
    level : same_text e.name n ≡ true → Each (λ x. name_before x e ≡ false) (named n es)
    level s = each-weaker (λ x. same_text x.name n ≡ true) (λ x. name_before x e ≡ false) (named n es)
        (λ x h. ap (λ m. text_before m e.name) (same_texts x.name n h ∙ sym (same_texts e.name n s)) ∙ not_before_itself e.name) (filter-passes (λ x. same_text x.name n) es)

    go : (b : Bool) → same_text e.name n ≡ b → Ascends name_before (named n es) → Ascends name_before (cond b (e ∷ named n es) (named n es))
    go true s r = (level s, r)
    go false s r = r

named-sorted : (n : Name) (es : List NamedPart) → named n (sorted_parts es) ≡ named n es
named-sorted n es =
    filter-sorted name_before names_ranked (λ e. same_text e.name n) es
    ∙ sorted-unique name_before names_ranked (named n es) (named n es) (ascends-named n es) (λ t. refl)

pub order-sorted : (es : List NamedPart) → in_byte_order (names_in es) ≡ distinct same_text (names_in (sorted_parts es))
order-sorted es =
    sorted-reorders text_before texts_ranked tied_texts (distinct-reorders same_text text_equality (reorders-map (λ (e : NamedPart). e.name) (reorders-sorted name_before names_ranked es)))
    ∙ sorted-unique text_before texts_ranked (distinct same_text (names_in (sorted_parts es))) (distinct same_text (names_in (sorted_parts es)))
    (ascends-distinct (names_in (sorted_parts es)) (names-ascend (sorted_parts es) (sorted-ascends name_before names_ranked es))) (λ t. refl)

-- what is made of each name in byte order and its parts is what is made of the groups of the sorted parts
pub groups-sorted : {M : Type 0} (F : Name → List NamedPart → List M) (es : List NamedPart) → flat_map (λ n. F n (named n es)) (in_byte_order (names_in es)) ≡ groups F (sorted_parts es)
groups-sorted F es =
    ap (flat_map (λ n. F n (named n es))) (order-sorted es)
    ∙ flat_map-agree (λ n. F n (named n es)) (λ n. F n (named n (sorted_parts es))) (λ n. ap (F n) (sym (named-sorted n es))) (distinct same_text (names_in (sorted_parts es)))
