-- Columns in ascending order of their paths: what a search finds, and what one column more changes.
use Rattle.std.proofs.Common.{◌≡◌, refl, sym, ◌∙◌, ap, subst, ℕ, zero, suc, ◌+◌, ◌<◌, ◌≤◌, Bool, true, false, not, cond, ◌&&◌, ◌||◌, List, [], ◌∷◌, ◌++◌, Option, Some, None, map, take, drop, length, get_or, inl, inr, ◌⊎◌, arith}
use Rattle.std.specs.Prelude.{All, find, is_some, ◌==◌}
use Rattle.std.specs.List.{list_any, insert}
use Rattle.std.specs.List.Sorted.{IsStrictlySortedBy}
use Rattle.std.specs.Cmp.{IsTotalOrder}
use Rattle.std.specs.Cmp.Lexicographic.{slice_cmp}
use Rattle.std.specs.Option.{option_or, option_copied}
use denote.Ref.{Bor}
use Rattle.std.specs.Ordering.{nat_cmp, is_eq, is_lt, is_gt, ordering_reverse, ordering_then}
use Rattle.std.specs.declared.cmp.Ordering.{Ordering}
use Rattle.std.specs.declared.cmp.Ordering.TheVariants.{Less, Equal, Greater}
use Rattle.std.proofs.Math.Bool.{and-true, and-false}
use Rattle.std.proofs.lemmas.Bool.{and_parts, and_from, both_ways, cases_lt, false_from_ne_true, eq-eqb, eqb-true, ne_eqb, not-true}
use Rattle.std.proofs.lemmas.Cmp.{nat_list_cmp_total, lists_total, tied_itself, tied_back}
use Rattle.std.proofs.lemmas.List.{get_or-map, length-map, length_push, map-append, take-map, drop-map, take-append-drop, drop_all, drop_more, get_or_append_left, get_or_push, get_or_read}
use Rattle.std.proofs.lemmas.List.Edits.{length-insert}
use Rattle.std.proofs.lemmas.List.Elements.{All-append, All-cons, All-drop, All-get_or, All-take, All-weaker, All-head, All-tail, All-from_get_or, All-from_recursion, recursion_from_All}
use Rattle.std.proofs.lemmas.List.Folds.{find-append, list_any-append, list_any_at}
use Rattle.std.proofs.lemmas.Map.Keys.{Less-from_sorted}
use Rattle.std.proofs.lemmas.Map.Text.{is_eq-slice_cmp}
use Rattle.edm_values.specs.Lists.{same_text, are_distinct}
use Rattle.edm_values.specs.Names.{Name, Path}
use Rattle.edm_values.proofs.OptionFacts.{some_value, none_or, same_bool}
use Rattle.edm_values.proofs.SameTexts.{same_texts, text-self}
use Rattle.edm_model.proofs.Mapped.{list_any-map}
use Rattle.context_typing.specs.Orders.{path_cmp, no_column, columns_at, column_paths, IsLowerBound, IsOrder}
use Rattle.context_typing.specs.Paths.{same_path, is_prefix, at_path}
use Rattle.context_typing.specs.Shapes.{ColumnShape}
use Rattle.context_typing.proofs.PathLemmas.{same_paths, path-self}

-- ---- the order of paths

pub path_total : IsTotalOrder path_cmp
path_total = lists_total nat_list_cmp_total

-- paths that tie are the same
pub same-by : (p q : Path) → same_path p q ≡ is_eq (path_cmp p q)
same-by [] [] = refl
same-by [] (m ∷ q) = refl
same-by (n ∷ p) [] = refl
same-by (n ∷ p) (m ∷ q) = ap (λ b. b && same_path p q) (sym (is_eq-slice_cmp n m)) ∙ (λ i. is_eq (slice_cmp nat_cmp n m) && same-by p q i) ∙ go (slice_cmp nat_cmp n m) (path_cmp p q)
  where
    go : (o r : Ordering) → (is_eq o && is_eq r) ≡ is_eq (ordering_then o r)
    go Less r = refl
    go Equal r = refl
    go Greater r = refl

differs : (p q : Path) (o : Ordering) → path_cmp p q ≡ o → is_eq o ≡ false → same_path p q ≡ false
differs p q o e h = same-by p q ∙ ap is_eq e ∙ h

flipped : (p q : Path) (o : Ordering) → path_cmp p q ≡ o → path_cmp q p ≡ ordering_reverse o
flipped p q o e = path_total.antisymm q p ∙ ap ordering_reverse e

-- not before and not the same: behind
behind : (p q : Path) → is_lt (path_cmp p q) ≡ false → same_path p q ≡ false → path_cmp p q ≡ Greater
behind p q h k = go (path_cmp p q) refl
  where
    go : (o : Ordering) → path_cmp p q ≡ o → path_cmp p q ≡ Greater
    go Less e = absurd (both_ways (is_lt (path_cmp p q)) h (ap is_lt e))
    go Equal e = absurd (both_ways (same_path p q) k (same-by p q ∙ ap is_eq e))
    go Greater e = e

-- two paths after a front that they share: the first ends, and the second does not
pub cmp-ended : (a b : Path) (i : ℕ) → length a ≤ i → i < length b → path_cmp a b ≡ path_cmp (drop i a) (drop i b) → Less ≡ path_cmp a b
cmp-ended a b i h k e = sym (e ∙ (λ j. path_cmp (drop_all i a h j) (drop_more b i [] k j)))

-- ---- what a path is a prefix of

-- a prefix is the front of as many names
pub prefix-front : (a b : Path) → length a ≤ length b → same_path a (take (length a) b) ≡ is_prefix a b
prefix-front [] b h = refl
prefix-front (n ∷ a) [] h = absurd (omega arith)
prefix-front (n ∷ a) (m ∷ b) h = ap (λ x. same_text n m && x) (prefix-front a b (omega arith))

pub prefix-long : (a b : Path) → length b < length a → is_prefix a b ≡ false
prefix-long [] b h = absurd (omega arith)
prefix-long (n ∷ a) [] h = refl
prefix-long (n ∷ a) (m ∷ b) h = ap (λ x. same_text n m && x) (prefix-long a b (omega arith)) ∙ and-false (same_text n m)

pub prefix-take : (k : ℕ) (p : Path) → is_prefix (take k p) p ≡ true
prefix-take zero p = refl
prefix-take (suc k) [] = refl
prefix-take (suc k) (n ∷ p) = and_from _ _ (text-self n) (prefix-take k p)

pub prefix-is : (a b : Path) → is_prefix a b ≡ true → (length a ≤ length b) × (a ≡ take (length a) b)
prefix-is [] b e = (omega arith, refl)
prefix-is (n ∷ a) [] e = cc
prefix-is (n ∷ a) (m ∷ b) e =
    let t = and_parts _ _ e in
    let r = prefix-is a b t.1 in
    (omega (arith, r.0), λ i. same_texts n m t.0 i ∷ r.1 i)

-- a text with the same bytes is the text
tied : (n m : Name) → slice_cmp nat_cmp n m ≡ Equal → n ≡ m
tied n m e = same_texts n m (sym (is_eq-slice_cmp n m) ∙ ap is_eq e)

-- a prefix stands before what it is a prefix of, or is it
pub prefix-first : (p q : Path) → is_prefix p q ≡ true → is_gt (path_cmp p q) ≡ false
prefix-first [] [] h = refl
prefix-first [] (m ∷ q) h = refl
prefix-first (n ∷ p) [] h = cc
prefix-first (n ∷ p) (m ∷ q) h =
    let t = and_parts _ _ h in
    let tie : slice_cmp nat_cmp n m ≡ Equal = ap (slice_cmp nat_cmp n) (sym (same_texts n m t.0)) ∙ tied_itself nat_list_cmp_total n in
    ap (λ o. is_gt (ordering_then o (path_cmp p q))) tie ∙ prefix-first p q t.1

-- what stands between a path and one that it is a prefix of has it as a prefix too
pub prefix-between : (p x y : Path) → is_gt (path_cmp p x) ≡ false → is_gt (path_cmp x y) ≡ false → is_prefix p y ≡ true → is_prefix p x ≡ true
prefix-between [] x y h k e = refl
prefix-between (n ∷ p) [] y h k e = cc
prefix-between (n ∷ p) (m ∷ x) [] h k e = cc
prefix-between (n ∷ p) (m ∷ x) (l ∷ y) h k e =
    let t = and_parts _ _ e in
    let same : n ≡ l = same_texts n l t.0 in
    go (prefix-between p x y) (slice_cmp nat_cmp n m) refl h (ap (λ l. is_gt (path_cmp (m ∷ x) (l ∷ y))) same ∙ k) t.1
  where
    go : (is_gt (path_cmp p x) ≡ false → is_gt (path_cmp x y) ≡ false → is_prefix p y ≡ true → is_prefix p x ≡ true)
        → (o : Ordering) → slice_cmp nat_cmp n m ≡ o → is_gt (ordering_then o (path_cmp p x)) ≡ false → is_gt (ordering_then (slice_cmp nat_cmp m n) (path_cmp x y)) ≡ false → is_prefix p y ≡ true → (same_text n m && is_prefix p x) ≡ true
    go more Less tie h k e =
        let back : slice_cmp nat_cmp m n ≡ Greater = nat_list_cmp_total.antisymm m n ∙ ap ordering_reverse tie in
        absurd (both_ways (is_gt (ordering_then (slice_cmp nat_cmp m n) (path_cmp x y))) k (ap (λ o. is_gt (ordering_then o (path_cmp x y))) back))
    go more Equal tie h k e =
        let back : slice_cmp nat_cmp m n ≡ Equal = tied_back nat_list_cmp_total n m tie in
        and_from _ _ (ap (same_text n) (sym (tied n m tie)) ∙ text-self n) (more h (ap (λ o. is_gt (ordering_then o (path_cmp x y))) (sym back) ∙ k) e)
    go more Greater tie h k e = absurd (both_ways true h refl)

-- ---- lists of columns

-- the first that passes
pub find-first : {X : Type 0} (t : X → Bool) (xs : List X) (i : ℕ) (d : X) → i < length xs → t (get_or xs i d) ≡ true → ((j : ℕ) → j < i → t (get_or xs j d) ≡ false) → find t xs ≡ Some (get_or xs i d)
find-first t [] i d h e before = absurd (omega arith)
find-first t (x ∷ xs) zero d h e before = ap (λ b. cond b (Some x) (find t xs)) e
find-first t (x ∷ xs) (suc i) d h e before =
    ap (λ b. cond b (Some x) (find t xs)) (before 0 (omega arith)) ∙ find-first t xs i d (omega arith) e (λ j k. before (suc j) (omega arith))

-- none passes
pub find-nowhere : {X : Type 0} (t : X → Bool) (xs : List X) (d : X) → ((j : ℕ) → j < length xs → t (get_or xs j d) ≡ false) → find t xs ≡ None
find-nowhere t [] d none = refl
find-nowhere t (x ∷ xs) d none = ap (λ b. cond b (Some x) (find t xs)) (none 0 (omega arith)) ∙ find-nowhere t xs d (λ j k. none (suc j) (omega arith))

-- one that passes is found, at its place
pub find-at : {X : Type 0} (t : X → Bool) (xs : List X) (x : X) → find t xs ≡ Some x → (i : ℕ) × (i < length xs) × ((d : X) → get_or xs i d ≡ x) × (t x ≡ true)
find-at t [] x e = none_or x e
find-at t (y ∷ xs) x e = go (find-at t xs x) (t y) refl e
  where
    go : (find t xs ≡ Some x → (i : ℕ) × (i < length xs) × ((d : _) → get_or xs i d ≡ x) × (t x ≡ true)) → (b : Bool) → t y ≡ b → cond b (Some y) (find t xs) ≡ Some x → (i : ℕ) × (i < length (y ∷ xs)) × ((d : _) → get_or (y ∷ xs) i d ≡ x) × (t x ≡ true)
    go more true h e = let s = some_value e in (0, omega arith, (λ d. s), ap t (sym s) ∙ h)
    go more false h e = let r = more e in (suc r.0, omega arith, r.2, r.3)

-- an element of a list at which a test passes
pub any-at : {X : Type 0} (q : X → Bool) (xs : List X) → list_any q xs ≡ true → (i : ℕ) × (x : X) × (i < length xs) × ((d : X) → get_or xs i d ≡ x) × (q x ≡ true)
any-at q [] e = cc
any-at q (y ∷ xs) e = go (any-at q xs) (q y) refl e
  where
    go : (list_any q xs ≡ true → (i : ℕ) × (x : _) × (i < length xs) × ((d : _) → get_or xs i d ≡ x) × (q x ≡ true)) → (b : Bool) → q y ≡ b → (b || list_any q xs) ≡ true → (i : ℕ) × (x : _) × (i < length (y ∷ xs)) × ((d : _) → get_or (y ∷ xs) i d ≡ x) × (q x ≡ true)
    go more true h e = (0, y, omega arith, (λ d. refl), h)
    go more false h e = let r = more e in (suc r.0, r.1, omega arith, r.3, r.4)

-- where one passes, one is found
pub found-there : {X : Type 0} (t : X → Bool) (xs : List X) → list_any t xs ≡ true → (x : X) × (find t xs ≡ Some x)
found-there t [] e = cc
found-there t (x ∷ xs) e = go (found-there t xs) (t x) refl e
  where
    go : (list_any t xs ≡ true → (y : _) × (find t xs ≡ Some y)) → (b : Bool) → t x ≡ b → (b || list_any t xs) ≡ true → (y : _) × (cond (t x) (Some x) (find t xs) ≡ Some y)
    go more true k e = (x, ap (λ b. cond b (Some x) (find t xs)) k)
    go more false k e = let r = more e in (r.0, ap (λ b. cond b (Some x) (find t xs)) k ∙ r.1)

-- where none is found, none passes
pub none-there : {X : Type 0} (t : X → Bool) (xs : List X) → find t xs ≡ None → list_any t xs ≡ false
none-there t xs e = false_from_ne_true (list_any t xs) (λ h. let f = found-there t xs h in none_or f.0 (sym e ∙ f.1))

-- ---- columns that are found by the same paths

module _ (q : Path → Bool) where
  any-moved : (xs ys : List ColumnShape) → ((p : Path) → at_path (λ c. c.path) xs p ≡ at_path (λ c. c.path) ys p) → list_any (λ c. q c.path) xs ≡ true → list_any (λ c. q c.path) ys ≡ true
  any-moved xs ys same e =
      let a = any-at (λ c. q c.path) xs e in
      let there : list_any (λ c. same_path c.path (a.1).path) xs ≡ true = list_any_at (λ c. same_path c.path (a.1).path) xs a.0 a.1 a.2 (ap (λ c. same_path c.path (a.1).path) (a.3 a.1) ∙ path-self (a.1).path) in
      let f = found-there (λ c. same_path c.path (a.1).path) xs there in
      let g = find-at (λ c. same_path c.path (a.1).path) ys f.0 (sym (same (a.1).path) ∙ f.1) in
      list_any_at (λ c. q c.path) ys g.0 f.0 g.1 (ap (λ c. q c.path) (g.2 f.0) ∙ ap q (same_paths (f.0).path (a.1).path g.3) ∙ a.4)

  -- a test of paths that some column passes
  pub any-same : (xs ys : List ColumnShape) → ((p : Path) → at_path (λ c. c.path) xs p ≡ at_path (λ c. c.path) ys p) → list_any (λ c. q c.path) xs ≡ list_any (λ c. q c.path) ys
  any-same xs ys same = same_bool _ _ (any-moved xs ys same) (any-moved ys xs (λ p. sym (same p)))

-- ---- a path put between those before it and those behind it

pub sorted-insert : (ks : List Path) (n : ℕ) (p : Path) → IsStrictlySortedBy path_cmp ks → n ≤ length ks → ((j : ℕ) → j < n → path_cmp (get_or ks j []) p ≡ Less) → ((j : ℕ) → n ≤ j → j < length ks → path_cmp p (get_or ks j []) ≡ Less)
    → IsStrictlySortedBy path_cmp (take n ks ++ p ∷ drop n ks)
unfolding IsStrictlySortedBy
sorted-insert ks zero p s h before after = (recursion_from_All (λ y. path_cmp p y ≡ Less) ks (All-from_get_or (λ y. path_cmp p y ≡ Less) ks [] (λ j k. after j (omega arith) k)), s)
sorted-insert [] (suc n) p s h before after = absurd (omega arith)
sorted-insert (k ∷ ks) (suc n) p s h before after =
    let all = All-from_recursion (λ y. path_cmp k y ≡ Less) ks s.0 in (
      recursion_from_All (λ y. path_cmp k y ≡ Less) (take n ks ++ p ∷ drop n ks)
          (All-append (λ y. path_cmp k y ≡ Less) (take n ks) (p ∷ drop n ks) (All-take (λ y. path_cmp k y ≡ Less) n ks all) (All-cons (λ y. path_cmp k y ≡ Less) p (drop n ks) (before 0 (omega arith)) (All-drop (λ y. path_cmp k y ≡ Less) n ks all))),
      sorted-insert ks n p s.1 (omega arith) (λ j l. before (suc j) (omega arith)) (λ j l m. after (suc j) (omega arith) (omega arith)),
    )

-- ---- a search

-- the paths before `low` stand before p, and those from `high` on do not
pub record IsNarrowed (ps : List Path) (p : Path) (low high : ℕ) : Type 0 where
  pub left : (i : ℕ) → i < low → path_cmp (get_or ps i []) p ≡ Less
  pub right : (i : ℕ) → high ≤ i → i < length ps → is_lt (path_cmp (get_or ps i []) p) ≡ false

module _ (ps : List Path) (rising : IsStrictlySortedBy path_cmp ps) (p : Path) where
  below : (i j : ℕ) → i < j → j < length ps → path_cmp (get_or ps i []) (get_or ps j []) ≡ Less
  below i j less within = Less-from_sorted path_cmp ps i j [] rising less within

  pub narrowed-start : (high : ℕ) → length ps ≤ high → IsNarrowed ps p 0 high
  narrowed-start high h = record { left = λ i low. absurd (omega arith); right = λ i above within. absurd (omega arith) }

  pub narrowed-right : (low high middle : ℕ) → IsNarrowed ps p low high → middle < length ps → path_cmp (get_or ps middle []) p ≡ Less → IsNarrowed ps p (middle + 1) high
  narrowed-right low high middle narrowed within less = record { left = λ i h. go i h (cases_lt i middle); right = narrowed.right }
    where
      go : (i : ℕ) → i < middle + 1 → (i < middle) ⊎ (middle ≤ i) → path_cmp (get_or ps i []) p ≡ Less
      go i h (inl before) = path_total.trans (get_or ps i []) (get_or ps middle []) p (below i middle before within) less
      go i h (inr after) = let same : i ≡ middle = omega arith in ap (λ i. path_cmp (get_or ps i []) p) same ∙ less

  not_before : (i middle : ℕ) → middle < i → i < length ps → is_lt (path_cmp (get_or ps middle []) p) ≡ false → is_lt (path_cmp (get_or ps i []) p) ≡ false
  not_before i middle before within h =
      false_from_ne_true (is_lt (path_cmp (get_or ps i []) p)) (λ e. both_ways (is_lt (path_cmp (get_or ps middle []) p)) h
      (ap is_lt (path_total.trans (get_or ps middle []) (get_or ps i []) p (below middle i before within) (less (path_cmp (get_or ps i []) p) e))))
    where
      less : (o : Ordering) → is_lt o ≡ true → o ≡ Less
      less Less e = refl
      less Equal e = cc
      less Greater e = cc

  pub narrowed-left : (low high middle : ℕ) → IsNarrowed ps p low high → middle < length ps → is_lt (path_cmp (get_or ps middle []) p) ≡ false → IsNarrowed ps p low middle
  narrowed-left low high middle narrowed within h = record { left = narrowed.left; right = λ i above inside. go i above inside (cases_lt middle i) }
    where
      go : (i : ℕ) → middle ≤ i → i < length ps → (middle < i) ⊎ (i ≤ middle) → is_lt (path_cmp (get_or ps i []) p) ≡ false
      go i above inside (inl before) = not_before i middle before inside h
      go i above inside (inr after) = let same : i ≡ middle = omega arith in ap (λ i. is_lt (path_cmp (get_or ps i []) p)) same ∙ h

  pub narrowed-end : (low high : ℕ) → IsNarrowed ps p low high → high ≤ low → low ≤ length ps → IsLowerBound ps p low
  narrowed-end low high narrowed crossed within = record { within = within; before = narrowed.left; after = λ i h k. narrowed.right i (omega arith) k }

-- ---- what a search finds among columns in order

module _ (es : List ColumnShape) (rising : IsStrictlySortedBy path_cmp (column_paths es)) (p : Path) (n : ℕ) (bound : IsLowerBound (column_paths es) p n) where
  many : length (column_paths es) ≡ length es
  many = length-map es (λ c. c.path)

  path-at : (i : ℕ) → i < length es → get_or (column_paths es) i [] ≡ (get_or es i no_column).path
  path-at i h = get_or-map (λ c. c.path) es i no_column [] h

  pub n-within : n ≤ length es
  n-within = omega (arith, bound.within, many)

  before-p : (j : ℕ) → j < n → path_cmp (get_or es j no_column).path p ≡ Less
  before-p j h = let within : j < length es = omega (arith, n-within) in ap (λ q. path_cmp q p) (sym (path-at j within)) ∙ bound.before j h

  pub search-hit : n < length es → same_path (get_or es n no_column).path p ≡ true → at_path (λ c. c.path) es p ≡ Some (get_or es n no_column)
  search-hit h e = find-first (λ c. same_path c.path p) es n no_column h e (λ j k. differs (get_or es j no_column).path p Less (before-p j k) refl)

  module _ (miss : n < length es → same_path (get_or es n no_column).path p ≡ false) where
    here : n < length es → path_cmp p (get_or es n no_column).path ≡ Less
    here h =
        let q = (get_or es n no_column).path in
        let not_less : is_lt (path_cmp q p) ≡ false = ap (λ r. is_lt (path_cmp r p)) (sym (path-at n h)) ∙ bound.after n (omega arith) (omega (arith, many)) in
        flipped q p Greater (behind q p not_less (miss h))

    -- p stands before the others
    pub after-p : (j : ℕ) → n ≤ j → j < length es → path_cmp p (get_or es j no_column).path ≡ Less
    after-p j h k = go (cases_lt n j)
      where
        go : (n < j) ⊎ (j ≤ n) → path_cmp p (get_or es j no_column).path ≡ Less
        go (inl less) =
            let m : n < length es = omega arith in
            let up : path_cmp (get_or es n no_column).path (get_or es j no_column).path ≡ Less =
            (λ i. path_cmp (sym (path-at n m) i) (sym (path-at j k) i)) ∙ Less-from_sorted path_cmp (column_paths es) n j [] rising less (omega (arith, many)) in
            path_total.trans p (get_or es n no_column).path (get_or es j no_column).path (here m) up
        go (inr more) = let same : j ≡ n = omega arith in ap (λ i. path_cmp p (get_or es i no_column).path) same ∙ here (omega arith)

    pub search-miss : at_path (λ c. c.path) es p ≡ None
    search-miss = find-nowhere (λ c. same_path c.path p) es no_column (λ j h. go j h (cases_lt j n))
      where
        go : (j : ℕ) → j < length es → (j < n) ⊎ (n ≤ j) → same_path (get_or es j no_column).path p ≡ false
        go j h (inl less) = differs (get_or es j no_column).path p Less (before-p j less) refl
        go j h (inr more) = differs (get_or es j no_column).path p Greater (flipped p (get_or es j no_column).path Less (after-p j more h)) refl

    -- the paths with p in its place
    pub sorted-more : IsStrictlySortedBy path_cmp (take n (column_paths es) ++ p ∷ drop n (column_paths es))
    sorted-more =
        sorted-insert (column_paths es) n p rising bound.within bound.before
        (λ j h k. let within : j < length es = omega (arith, many) in ap (path_cmp p) (path-at j within) ∙ after-p j h within)

  first-behind : (j : ℕ) → j < length es → is_prefix p (get_or es j no_column).path ≡ true → n ≤ j
  first-behind j h e = go (cases_lt j n)
    where
      go : (j < n) ⊎ (n ≤ j) → n ≤ j
      go (inl less) =
          let q = (get_or es j no_column).path in
          absurd (both_ways (is_gt (path_cmp p q)) (prefix-first p q e) (ap is_gt (flipped q p Less (before-p j less))))
      go (inr more) = more

  leads-forward : n < length es → list_any (λ c. is_prefix p c.path) es ≡ true → is_prefix p (get_or es n no_column).path ≡ true
  leads-forward h e =
      let a = any-at (λ c. is_prefix p c.path) es e in
      let passes : is_prefix p (get_or es a.0 no_column).path ≡ true = ap (λ c. is_prefix p c.path) (a.3 no_column) ∙ a.4 in
      let x = (get_or es n no_column).path in
      let y = (get_or es a.0 no_column).path in
      let up : is_gt (path_cmp p x) ≡ false =
      ap is_gt (path_total.antisymm p x) ∙ reversed (path_cmp x p) ∙ ap (λ q. is_lt (path_cmp q p)) (sym (path-at n h)) ∙ bound.after n (omega arith) (omega (arith, many)) in
      prefix-between p x y up (go a.0 a.2 (cases_lt n a.0) (first-behind a.0 a.2 passes)) passes
    where
      reversed : (o : Ordering) → is_gt (ordering_reverse o) ≡ is_lt o
      reversed Less = refl
      reversed Equal = refl
      reversed Greater = refl

      go : (j : ℕ) → j < length es → (n < j) ⊎ (j ≤ n) → n ≤ j → is_gt (path_cmp (get_or es n no_column).path (get_or es j no_column).path) ≡ false
      go j k (inl less) l =
          let m : n < length es = omega arith in
          ap is_gt ((λ i. path_cmp (sym (path-at n m) i) (sym (path-at j k) i)) ∙ Less-from_sorted path_cmp (column_paths es) n j [] rising less (omega (arith, many)))
      go j k (inr more) l =
          let same : n ≡ j = omega arith in
          ap (λ i. is_gt (path_cmp (get_or es i no_column).path (get_or es j no_column).path)) same ∙ ap is_gt (tied_itself path_total (get_or es j no_column).path)

  -- whether p leads to a column: whether it leads to the first that does not stand before it
  pub leads-hit : n < length es → list_any (λ c. is_prefix p c.path) es ≡ is_prefix p (get_or es n no_column).path
  leads-hit h = same_bool _ _ (leads-forward h) (λ e. list_any_at (λ c. is_prefix p c.path) es n no_column h e)

  pub leads-none : length es ≤ n → list_any (λ c. is_prefix p c.path) es ≡ false
  leads-none h =
      false_from_ne_true (list_any (λ c. is_prefix p c.path) es)
      (λ e. let a = any-at (λ c. is_prefix p c.path) es e in let k = first-behind a.0 a.2 (ap (λ c. is_prefix p c.path) (a.3 no_column) ∙ a.4) in absurd (omega (arith, a.2, k)))

-- ---- one column more

-- a column has the path
abbrev tested : Path → ColumnShape → Bool
tested p c = same_path c.path p

map-agree : {X Y : Type 0} (f g : X → Y) (xs : List X) → All (λ x. f x ≡ g x) xs → map f xs ≡ map g xs
map-agree f g [] h = refl
map-agree f g (x ∷ xs) h = λ i. All-head (λ x. f x ≡ g x) x xs h i ∷ map-agree f g xs (All-tail (λ x. f x ≡ g x) x xs h) i

distinct-push : (ps : List Path) (p : Path) → are_distinct same_path (ps ++ p ∷ []) ≡ (are_distinct same_path ps && not (list_any (λ q. same_path q p) ps))
distinct-push [] p = refl
distinct-push (q ∷ ps) p =
    (λ i. not (list_any-append (same_path q) ps (p ∷ []) i) && distinct-push ps p i)
    ∙ go (list_any (same_path q) ps) (same_path q p) (are_distinct same_path ps) (list_any (λ q. same_path q p) ps)
  where
    go : (a b d f : Bool) → (not (a || (b || false)) && (d && not f)) ≡ ((not a && d) && not (b || f))
    go true b d f = refl
    go false true true f = refl
    go false true false f = refl
    go false false d f = refl

module _ (cs : List ColumnShape) (ks : List ℕ) (order : IsOrder cs ks) (c : ColumnShape) where
  abbrev es : List ColumnShape
  es = columns_at cs ks

  abbrev found : List ColumnShape → Path → Option ColumnShape
  found xs p = at_path (λ c. c.path) xs p

  -- the columns at the old places are those of before
  kept : columns_at (cs ++ c ∷ []) ks ≡ es
  kept =
      map-agree (λ k. get_or (cs ++ c ∷ []) k no_column) (λ k. get_or cs k no_column) ks
      (All-weaker (λ k. k < length cs) (λ k. get_or (cs ++ c ∷ []) k no_column ≡ get_or cs k no_column) (λ k h. get_or_append_left cs (c ∷ []) no_column k h) ks order.within)

  wider : All (λ k. k < length (cs ++ c ∷ [])) ks
  wider = All-weaker (λ k. k < length cs) (λ k. k < length (cs ++ c ∷ [])) (λ k h. omega (arith, length_push cs c)) ks order.within

  -- what a path leads to among the columns and the new one
  found-more : (p : Path) → found (cs ++ c ∷ []) p ≡ option_or (found cs p) (cond (same_path c.path p) (Some c) None)
  found-more p = find-append (λ c. same_path c.path p) cs (c ∷ [])

  twice : (p : Path) (x : ColumnShape) → found es c.path ≡ Some x → found es p ≡ found (cs ++ c ∷ []) p
  twice p x there = go (same_path c.path p) refl
    where
      or_none : (o : Option ColumnShape) → o ≡ option_or o None
      or_none None = refl
      or_none (Some y) = refl

      go : (b : Bool) → same_path c.path p ≡ b → found es p ≡ found (cs ++ c ∷ []) p
      go true e =
          let is : found es p ≡ Some x = ap (found es) (sym (same_paths c.path p e)) ∙ there in
          is ∙ sym (found-more p ∙ (λ i. option_or ((sym (order.same p) ∙ is) i) (cond (same_path c.path p) (Some c) None)))
      go false e = order.same p ∙ or_none (found cs p) ∙ sym (found-more p ∙ ap (λ b. option_or (found cs p) (cond b (Some c) None)) e)

  each-more : list_any (λ q. same_path q c.path) (column_paths cs) ≡ is_some (found cs c.path)
  each-more = list_any-map (λ q. same_path q c.path) (λ c. c.path) cs ∙ go (found cs c.path) refl
    where
      go : (o : Option ColumnShape) → found cs c.path ≡ o → list_any (λ d. same_path d.path c.path) cs ≡ is_some (found cs c.path)
      go None e = none-there (λ d. same_path d.path c.path) cs e ∙ sym (ap is_some e)
      go (Some x) e = let f = find-at (λ d. same_path d.path c.path) cs x e in list_any_at (λ d. same_path d.path c.path) cs f.0 x f.1 (ap (λ d. same_path d.path c.path) (f.2 x) ∙ f.3) ∙ sym (ap is_some e)

  distinct-more : are_distinct same_path (column_paths (cs ++ c ∷ [])) ≡ ((length ks == length cs) && not (is_some (found cs c.path)))
  distinct-more =
      ap (are_distinct same_path) (map-append (λ c. c.path) cs (c ∷ [])) ∙ distinct-push (column_paths cs) c.path ∙ (λ i. order.each i && not (each-more i))

  -- a column whose path is there already
  pub order-old : (x : ColumnShape) → found es c.path ≡ Some x → IsOrder (cs ++ c ∷ []) ks
  order-old x there = record {
    within = wider;
    rising = subst (λ es. IsStrictlySortedBy path_cmp (column_paths es)) (sym kept) order.rising;
    same = λ p. ap (λ es. found es p) kept ∙ twice p x there;
    few = omega (arith, order.few, length_push cs c);
    each = distinct-more ∙ ap (λ o. (length ks == length cs) && not (is_some o)) (sym (order.same c.path) ∙ there) ∙ and-false (length ks == length cs)
        ∙ sym (ne_eqb (length ks) (length (cs ++ c ∷ [])) (λ e. absurd (omega (arith, order.few, length_push cs c, e))));
  }

  module _ (n : ℕ) (bound : IsLowerBound (column_paths es) c.path n) (miss : n < length es → same_path (get_or es n no_column).path c.path ≡ false) where
    abbrev more : List ℕ
    more = insert ks n (length cs)

    abbrev is-none : found es c.path ≡ None
    is-none = search-miss es order.rising c.path n bound miss

    in-range : n ≤ length ks
    in-range = omega (arith, n-within es order.rising c.path n bound, length-map ks (λ k. get_or cs k no_column))

    inserted : columns_at (cs ++ c ∷ []) more ≡ take n es ++ c ∷ drop n es
    inserted =
        let f = λ (k : ℕ). get_or (cs ++ c ∷ []) k no_column in
        map-append f (take n ks) (length cs ∷ drop n ks)
        ∙ (λ i. (sym (take-map f n ks) ∙ ap (take n) kept) i ++ get_or_push cs c no_column (length cs) refl i ∷ (sym (drop-map f n ks) ∙ ap (drop n) kept) i)

    paths-inserted : column_paths (take n es ++ c ∷ drop n es) ≡ take n (column_paths es) ++ c.path ∷ drop n (column_paths es)
    paths-inserted = map-append (λ c. c.path) (take n es) (c ∷ drop n es) ∙ (λ i. sym (take-map (λ c. c.path) n es) i ++ c.path ∷ sym (drop-map (λ c. c.path) n es) i)

    found-inserted : (p : Path) → found (take n es ++ c ∷ drop n es) p ≡ found (cs ++ c ∷ []) p
    found-inserted p = find-append (tested p) (take n es) (c ∷ drop n es) ∙ go (same_path c.path p) refl
      where
        parts : found es p ≡ option_or (find (tested p) (take n es)) (find (tested p) (drop n es))
        parts = ap (find (tested p)) (sym (take-append-drop n es)) ∙ find-append (tested p) (take n es) (drop n es)

        none_left : (a b : Option ColumnShape) → None ≡ option_or a b → a ≡ None
        none_left None b e = refl
        none_left (Some x) b e = none_or x e

        or_none : (o : Option ColumnShape) → o ≡ option_or o None
        or_none None = refl
        or_none (Some y) = refl

        go : (b : Bool) → same_path c.path p ≡ b → option_or (find (tested p) (take n es)) (cond (same_path c.path p) (Some c) (find (tested p) (drop n es))) ≡ found (cs ++ c ∷ []) p
        go true e =
            let nothing : found es p ≡ None = ap (found es) (sym (same_paths c.path p e)) ∙ is-none in
            let front : find (tested p) (take n es) ≡ None = none_left (find (tested p) (take n es)) (find (tested p) (drop n es)) (sym nothing ∙ parts) in
            (λ i. option_or (front i) (cond (same_path c.path p) (Some c) (find (tested p) (drop n es)))) ∙ ap (λ b. cond b (Some c) (find (tested p) (drop n es))) e
            ∙ sym (found-more p ∙ (λ i. option_or ((sym (order.same p) ∙ nothing) i) (cond (same_path c.path p) (Some c) None)) ∙ ap (λ b. cond b (Some c) None) e)
        go false e =
            ap (λ b. option_or (find (tested p) (take n es)) (cond b (Some c) (find (tested p) (drop n es)))) e ∙ sym parts ∙ order.same p
            ∙ or_none (found cs p) ∙ sym (found-more p ∙ ap (λ b. option_or (found cs p) (cond b (Some c) None)) e)

    -- a column with a new path
    pub order-new : IsOrder (cs ++ c ∷ []) more
    order-new = record {
      within = All-append (λ k. k < length (cs ++ c ∷ [])) (take n ks) (length cs ∷ drop n ks) (All-take (λ k. k < length (cs ++ c ∷ [])) n ks wider)
          (All-cons (λ k. k < length (cs ++ c ∷ [])) (length cs) (drop n ks) (omega (arith, length_push cs c)) (All-drop (λ k. k < length (cs ++ c ∷ [])) n ks wider));
      rising = subst (λ es. IsStrictlySortedBy path_cmp (column_paths es)) (sym inserted) (subst (IsStrictlySortedBy path_cmp) (sym paths-inserted) (sorted-more es order.rising c.path n bound miss));
      same = λ p. ap (λ es. found es p) inserted ∙ found-inserted p;
      few = omega (arith, order.few, length_push cs c, length-insert ks n (length cs) in-range);
      each = distinct-more ∙ ap (λ o. (length ks == length cs) && not (is_some o)) (sym (order.same c.path) ∙ is-none) ∙ and-true (length ks == length cs) ∙ one_more (length ks) (length cs)
          ∙ (λ i. sym (length-insert ks n (length cs) in-range) i == sym (length_push cs c) i);
    }
      where
        one_more : (a b : ℕ) → (a == b) ≡ (a + 1 == b + 1)
        one_more a b = same_bool _ _ (λ e. eq-eqb (a + 1) (b + 1) (ap (λ k. k + 1) (eqb-true a b e))) (λ e. let s = eqb-true (a + 1) (b + 1) e in eq-eqb a b (omega arith))

-- ---- no column

pub order-none : IsOrder [] []
unfolding IsStrictlySortedBy
order-none = record { within = λ k d h. absurd (omega arith); rising = tt; same = λ p. refl; few = omega arith; each = refl }

-- columns that all differ: one with this path is the one that is found
pub found-near : (cs : List ColumnShape) (i : ℕ) (p : Path) (x : ColumnShape) → are_distinct same_path (column_paths cs) ≡ true → i < length cs → x ≡ get_or cs i x → same_path x.path p ≡ true → Some x ≡ at_path (λ c. c.path) cs p
found-near [] i p x d h is e = absurd (omega arith)
found-near (c ∷ cs) zero p x d h is e = sym (ap (λ b. cond b (Some c) (at_path (λ c. c.path) cs p)) (ap (λ c. same_path c.path p) (sym is) ∙ e) ∙ ap Some (sym is))
found-near (c ∷ cs) (suc i) p x d h is e =
    let t = and_parts _ _ d in
    let none : list_any (same_path c.path) (column_paths cs) ≡ false = not-true (list_any (same_path c.path) (column_paths cs)) t.0 in
    let other : same_path c.path p ≡ false = apart none in
    found-near cs i p x t.1 (omega arith) is e ∙ sym (ap (λ b. cond b (Some c) (at_path (λ c. c.path) cs p)) other)
  where
    apart : list_any (same_path c.path) (column_paths cs) ≡ false → same_path c.path p ≡ false
    apart none = false_from_ne_true (same_path c.path p) (λ k. both_ways (list_any (same_path c.path) (column_paths cs)) none
        (list_any-map (same_path c.path) (λ c. c.path) cs ∙ list_any_at (λ d. same_path c.path d.path) cs i x (omega arith)
        (ap (λ d. same_path c.path d.path) (sym is) ∙ ap (same_path c.path) (same_paths x.path p e) ∙ k)))

-- ---- what the program's searches read

module _ (cs : List ColumnShape) (ks : List ℕ) (order : IsOrder cs ks) where
  abbrev in-order : List ColumnShape
  in-order = columns_at cs ks

  pub column-read : (i k : ℕ) (x : ColumnShape) → i < length ks → k ≡ get_or ks i 0 → x ≡ get_or cs k x → get_or in-order i no_column ≡ x
  column-read i k x h at is =
      let within : k < length cs = subst (λ k. k < length cs) (sym at) (All-get_or (λ k. k < length cs) ks i 0 h order.within) in
      get_or-map (λ k. get_or cs k no_column) ks i 0 no_column h ∙ ap (λ k. get_or cs k no_column) (sym at) ∙ sym (get_or_read cs k x within is no_column)

  counted : length in-order ≡ length ks
  counted = length-map ks (λ k. get_or cs k no_column)

  paths-counted : length (column_paths in-order) ≡ length ks
  paths-counted = length-map in-order (λ c. c.path) ∙ counted

  path-read : (i k : ℕ) (x : ColumnShape) → i < length ks → k ≡ get_or ks i 0 → x ≡ get_or cs k x → get_or (column_paths in-order) i [] ≡ x.path
  path-read i k x h at is = get_or-map (λ c. c.path) in-order i no_column [] (omega (arith, counted)) ∙ ap (λ c. c.path) (column-read i k x h at is)

  module _ (p : Path) where
    pub read-start : (high : ℕ) → length ks ≤ high → IsNarrowed (column_paths in-order) p 0 high
    read-start high h = narrowed-start (column_paths in-order) order.rising p high (omega (arith, paths-counted))

    pub read-less : (low high i k : ℕ) (x : ColumnShape) (q : Path) → IsNarrowed (column_paths in-order) p low high → i < length ks → k ≡ get_or ks i 0 → x ≡ get_or cs k x → q ≡ x.path → path_cmp q p ≡ Less → IsNarrowed (column_paths in-order) p (i + 1) high
    read-less low high i k x q narrowed h at is same less =
        narrowed-right (column_paths in-order) order.rising p low high i narrowed (omega (arith, paths-counted)) (ap (λ r. path_cmp r p) (path-read i k x h at is ∙ sym same) ∙ less)

    pub read-more : (low high i k : ℕ) (x : ColumnShape) (q : Path) → IsNarrowed (column_paths in-order) p low high → i < length ks → k ≡ get_or ks i 0 → x ≡ get_or cs k x → q ≡ x.path → is_lt (path_cmp q p) ≡ false → IsNarrowed (column_paths in-order) p low i
    read-more low high i k x q narrowed h at is same more =
        narrowed-left (column_paths in-order) order.rising p low high i narrowed (omega (arith, paths-counted)) (ap (λ r. is_lt (path_cmp r p)) (path-read i k x h at is ∙ sym same) ∙ more)

    pub read-end : (low high : ℕ) → IsNarrowed (column_paths in-order) p low high → high ≤ low → low ≤ length ks → IsLowerBound (column_paths in-order) p low
    read-end low high narrowed h k = narrowed-end (column_paths in-order) order.rising p low high narrowed h (omega (arith, paths-counted))

    pub read-miss : (i k : ℕ) (x : ColumnShape) (q : Path) → i < length ks → k ≡ get_or ks i 0 → x ≡ get_or cs k x → q ≡ x.path → same_path q p ≡ false → i < length in-order → same_path (get_or in-order i no_column).path p ≡ false
    read-miss i k x q h at is same other l = ap (λ c. same_path c.path p) (column-read i k x h at is) ∙ ap (λ r. same_path r p) (sym same) ∙ other

    pub read-past : (n : ℕ) → length ks ≤ n → n < length in-order → same_path (get_or in-order n no_column).path p ≡ false
    read-past n h l = absurd (omega (arith, counted))

    module _ (n : ℕ) (bound : IsLowerBound (column_paths in-order) p n) where
      pub read-hit : (k : ℕ) (x : ColumnShape) (q : Path) → n < length ks → k ≡ get_or ks n 0 → x ≡ get_or cs k x → q ≡ x.path → same_path q p ≡ true → at_path (λ c. c.path) in-order p ≡ Some x
      read-hit k x q h at is same e =
          search-hit in-order order.rising p n bound (omega (arith, counted)) (ap (λ c. same_path c.path p) (column-read n k x h at is) ∙ ap (λ r. same_path r p) (sym same) ∙ e) ∙ ap Some (column-read n k x h at is)

      pub found-hit : (k : ℕ) (x : ColumnShape) (q : Path) → n < length ks → k ≡ get_or ks n 0 → x ≡ get_or cs k x → q ≡ x.path → same_path q p ≡ true → Some x ≡ at_path (λ c. c.path) cs p
      found-hit k x q h at is same e = sym (read-hit k x q h at is same e) ∙ order.same p

      pub found-miss : (n < length in-order → same_path (get_or in-order n no_column).path p ≡ false) → None ≡ at_path (λ c. c.path) cs p
      found-miss miss = sym (search-miss in-order order.rising p n bound miss) ∙ order.same p

      pub leads-here : (k : ℕ) (x : ColumnShape) (q : Path) → n < length ks → k ≡ get_or ks n 0 → x ≡ get_or cs k x → q ≡ x.path → is_prefix p q ≡ list_any (λ c. is_prefix p c.path) cs
      leads-here k x q h at is same =
          ap (is_prefix p) same ∙ ap (λ c. is_prefix p c.path) (sym (column-read n k x h at is)) ∙ sym (leads-hit in-order order.rising p n bound (omega (arith, counted))) ∙ any-same (is_prefix p) in-order cs order.same

      pub leads-nowhere : length ks ≤ n → false ≡ list_any (λ c. is_prefix p c.path) cs
      leads-nowhere h = sym (leads-none in-order order.rising p n bound (omega (arith, counted))) ∙ any-same (is_prefix p) in-order cs order.same

  -- one column more, by what the program read
  module _ (c : ColumnShape) (ks' : List ℕ) (p : Path) (lent : ks' ≡ ks) (same : p ≡ c.path) (n : ℕ) (bound : IsLowerBound (column_paths (columns_at cs ks')) p n) where
    here-bound : IsLowerBound (column_paths in-order) c.path n
    here-bound = subst (λ p. IsLowerBound (column_paths in-order) p n) same (subst (λ ks. IsLowerBound (column_paths (columns_at cs ks)) p n) lent bound)

    pub place-old : (k : ℕ) (x : ColumnShape) (q r : Path) → n < length ks → k ≡ get_or ks n 0 → x ≡ get_or cs k x → q ≡ x.path → r ≡ c.path → same_path q r ≡ true → IsOrder (cs ++ c ∷ []) ks
    place-old k x q r h at is e f hit = order-old cs ks order c x (read-hit c.path n here-bound k x q h at is e (ap (same_path q) (sym f) ∙ hit))

    pub place-new : (n < length in-order → same_path (get_or in-order n no_column).path c.path ≡ false) → IsOrder (cs ++ c ∷ []) (insert ks n (length cs))
    place-new miss = order-new cs ks order c n here-bound miss

-- ---- paths that lead to a path

pub leads-found : (cs : List ColumnShape) (p : Path) (k : ℕ) → is_some (at_path (λ c. c.path) cs (take k p)) ≡ true → true ≡ list_any (λ c. is_prefix c.path p) cs
leads-found cs p k h = go (at_path (λ c. c.path) cs (take k p)) refl h
  where
    go : (o : Option ColumnShape) → at_path (λ c. c.path) cs (take k p) ≡ o → is_some o ≡ true → true ≡ list_any (λ c. is_prefix c.path p) cs
    go None e h = cc
    go (Some x) e h =
        let f = find-at (λ c. same_path c.path (take k p)) cs x e in
        sym (list_any_at (λ c. is_prefix c.path p) cs f.0 x f.1 (ap (λ c. is_prefix c.path p) (f.2 x) ∙ ap (λ q. is_prefix q p) (same_paths x.path (take k p) f.3) ∙ prefix-take k p))

pub leads-missed : (cs : List ColumnShape) (p : Path) → ((k : ℕ) → k ≤ length p → at_path (λ c. c.path) cs (take k p) ≡ None) → false ≡ list_any (λ c. is_prefix c.path p) cs
leads-missed cs p none =
    sym (false_from_ne_true (list_any (λ c. is_prefix c.path p) cs) (λ e.
    let a = any-at (λ c. is_prefix c.path p) cs e in
    let q = (a.1).path in
    let r = prefix-is q p a.4 in
    let f = found-there (λ c. same_path c.path (take (length q) p)) cs (list_any_at (λ c. same_path c.path (take (length q) p)) cs a.0 a.1 a.2 (ap (λ c. same_path c.path (take (length q) p)) (a.3 a.1) ∙ ap (same_path q) (sym r.1) ∙ path-self q)) in
    none_or f.0 (sym (none (length q) r.0) ∙ f.1)))

pub none-is : {X : Type 0} (o : Option X) → is_some o ≡ false → o ≡ None
none-is None e = refl
none-is (Some x) e = cc

pub copied-some : {X : Type 0} (o : Option (Bor X)) → is_some (option_copied o) ≡ is_some o
copied-some None = refl
copied-some (Some x) = refl
