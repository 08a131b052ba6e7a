-- Entities of a set whose node is marked, found through what refers to the marked nodes.
use Rattle.std.proofs.Common.{◌≡◌, ℕ, zero, suc, ◌<◌, ◌≤◌, refl, sym, ◌∙◌, ap, Bool, true, false, List, [], ◌∷◌, length, cond, flat_map, get_or, subst, arith, Option, Some, None, IfSome, ⊎_elim}
use Rattle.std.specs.Prelude.{◌&&◌, ◌||◌, filter, if◌then◌else◌, map, nat_eq, option_map, slice_get, unwrap_or}
use Rattle.std.specs.List.{All, list_any}
use Rattle.std.proofs.lemmas.Bool.{cases_lt, eq-eqb, ne_eqb, or_from}
use Rattle.std.proofs.lemmas.List.{get_or-map, length-map}
use Rattle.std.proofs.lemmas.List.Elements.{All-filter, All-map, filter-append}
use Rattle.std.proofs.lemmas.List.Folds.{list_any-append}
use Rattle.std.proofs.lemmas.Option.{slice_get_past, unwrap_or-slice_get}
use Rattle.edm_values.specs.Lists.{is_some_and, places}
use Rattle.edm_values.specs.Names.{Path}
use Rattle.edm_values.specs.Values.{is_beyond}
use Rattle.edm_values.proofs.TopPlaces.{length-places}
use Rattle.edm_data.specs.Hierarchies.{rows_whose}
use Rattle.edm_data.specs.LinkLists.{LinkList, link_in, linking_to}
use Rattle.edm_data.specs.References.{count}
use Rattle.edm_data.specs.Worlds.{World}
use Rattle.edm_data.proofs.PlaceLemmas.{get_or-places}
use Rattle.apply_meaning.specs.Instances.{lookup}
use Rattle.row_frames.specs.Related.{placed}
use Rattle.hier_index.proofs.WalkLaws.{each_place_below, filter_same}
use Rattle.hier_rows.specs.HierRows.{AreOptionsBelow, node_in, path_values}
use Rattle.hier_rows.specs.Sources.{node_at}
use Rattle.hier_rows.specs.declared.sources.Source.{Source}
use Rattle.hier_rows.proofs.NodeLaws.{node-within}

or-none : (b : Bool) → (b || false) ≡ b
or-none true = refl
or-none false = refl

and-none : (b : Bool) → (b && false) ≡ false
and-none true = refl
and-none false = refl

-- ---- a place among those that pass

last-same : (p : ℕ → Bool) (k n : ℕ) → k ≡ n → list_any (nat_eq k) (filter p (n ∷ [])) ≡ p n
last-same p k n e = (elim (p n) as (λ b. list_any (nat_eq k) (cond b (n ∷ []) []) ≡ b) [ true ↦ ap (λ b. b || false) (eq-eqb k n e) | false ↦ refl ])

last-other : (p : ℕ → Bool) (k n : ℕ) → (k ≡ n → ⊥) → list_any (nat_eq k) (filter p (n ∷ [])) ≡ false
last-other p k n e = (elim (p n) as (λ b. list_any (nat_eq k) (cond b (n ∷ []) []) ≡ false) [ true ↦ ap (λ b. b || false) (ne_eqb k n e) | false ↦ refl ])

one-more : (p : ℕ → Bool) (k n : ℕ) → list_any (nat_eq k) (filter p (places (suc n))) ≡ (list_any (nat_eq k) (filter p (places n)) || list_any (nat_eq k) (filter p (n ∷ [])))
one-more p k n = ap (list_any (nat_eq k)) (filter-append p (places n) (n ∷ [])) ∙ list_any-append (nat_eq k) (filter p (places n)) (filter p (n ∷ []))

outside : (p : ℕ → Bool) (k n : ℕ) → n ≤ k → list_any (nat_eq k) (filter p (places n)) ≡ false
outside p k zero h = refl
outside p k (suc n) h =
    one-more p k n
    ∙ ap (λ b. b || list_any (nat_eq k) (filter p (n ∷ []))) (outside p k n (omega (arith, h)))
    ∙ last-other p k n (λ e. absurd (omega (arith, h, e)))

inside : (p : ℕ → Bool) (k n : ℕ) → k < n → list_any (nat_eq k) (filter p (places n)) ≡ p k
inside p k zero h = absurd (omega (arith, h))
inside p k (suc n) h = ⊎_elim
    (λ less.
    one-more p k n
    ∙ ap (λ b. b || list_any (nat_eq k) (filter p (n ∷ []))) (inside p k n less)
    ∙ ap (λ b. p k || b) (last-other p k n (λ e. absurd (omega (arith, less, e))))
    ∙ or-none (p k))
    (λ more.
    let same : k ≡ n = omega (arith, h, more) in
    one-more p k n
    ∙ ap (λ b. b || list_any (nat_eq k) (filter p (n ∷ []))) (outside p k n more)
    ∙ last-same p k n same
    ∙ ap p (sym same))
    (cases_lt k n)

-- an entity is among those that refer to a node exactly where it refers to it
linking-has : (t k : ℕ) (links : LinkList) → list_any (nat_eq k) (linking_to t links) ≡ is_some_and (nat_eq t) (link_in links k)
linking-has t k links = ⊎_elim
    (λ less. inside (λ j. is_some_and (nat_eq t) (link_in links j)) k (length links) less)
    (λ more. outside (λ j. is_some_and (nat_eq t) (link_in links j)) k (length links) more
    ∙ sym (ap (λ o. is_some_and (nat_eq t) (unwrap_or o None)) (slice_get_past links k more)))
    (cases_lt k (length links))

-- ---- a node among those that are marked

any-flat : (k : ℕ) (f : ℕ → List ℕ) (xs : List ℕ) → list_any (nat_eq k) (flat_map f xs) ≡ list_any (λ x. list_any (nat_eq k) (f x)) xs
any-flat k f [] = refl
any-flat k f (x ∷ xs) = list_any-append (nat_eq k) (f x) (flat_map f xs) ∙ ap (λ b. list_any (nat_eq k) (f x) || b) (any-flat k f xs)

any-same : (p q : ℕ → Bool) → ((x : ℕ) → p x ≡ q x) → (xs : List ℕ) → list_any p xs ≡ list_any q xs
any-same p q h [] = refl
any-same p q h (x ∷ xs) = λ i. h x i || any-same p q h xs i

marked-has : (m : ℕ → Bool) (k x : ℕ) (links : LinkList) → list_any (nat_eq k) (if m x then linking_to x links else []) ≡ (m x && is_some_and (nat_eq x) (link_in links k))
marked-has m k x links = (elim (m x) as (λ b. list_any (nat_eq k) (if b then linking_to x links else []) ≡ (b && is_some_and (nat_eq x) (link_in links k))) [ true ↦ linking-has x k links | false ↦ refl ])

none-here : (m : ℕ → Bool) (xs : List ℕ) → list_any (λ x. m x && false) xs ≡ false
none-here m [] = refl
none-here m (x ∷ xs) = ap (λ b. b || list_any (λ y. m y && false) xs) (and-none (m x)) ∙ none-here m xs

more-nodes : (m : ℕ → Bool) (y n : ℕ) → list_any (λ x. m x && nat_eq x y) (places (suc n)) ≡ (list_any (λ x. m x && nat_eq x y) (places n) || ((m n && nat_eq n y) || false))
more-nodes m y n = list_any-append (λ x. m x && nat_eq x y) (places n) (n ∷ [])

past : (m : ℕ → Bool) (y n : ℕ) → n ≤ y → list_any (λ x. m x && nat_eq x y) (places n) ≡ false
past m y zero h = refl
past m y (suc n) h =
    more-nodes m y n
    ∙ ap (λ b. b || ((m n && nat_eq n y) || false)) (past m y n (omega (arith, h)))
    ∙ or-none (m n && nat_eq n y)
    ∙ ap (λ b. m n && b) (ne_eqb n y (λ e. absurd (omega (arith, h, e))))
    ∙ and-none (m n)

and-true : (b : Bool) → (b && true) ≡ b
and-true true = refl
and-true false = refl

here : (m : ℕ → Bool) (y n : ℕ) → y < n → list_any (λ x. m x && nat_eq x y) (places n) ≡ m y
here m y zero h = absurd (omega (arith, h))
here m y (suc n) h = ⊎_elim
    (λ less.
    more-nodes m y n
    ∙ ap (λ b. b || ((m n && nat_eq n y) || false)) (here m y n less)
    ∙ ap (λ b. m y || (b || false)) (ap (λ b. m n && b) (ne_eqb n y (λ e. absurd (omega (arith, less, e)))) ∙ and-none (m n))
    ∙ or-none (m y))
    (λ more.
    let same : n ≡ y = omega (arith, h, more) in
    more-nodes m y n
    ∙ ap (λ b. b || ((m n && nat_eq n y) || false)) (past m y n more)
    ∙ or-none (m n && nat_eq n y)
    ∙ ap (λ b. m n && b) (eq-eqb n y same)
    ∙ and-true (m n)
    ∙ ap m same)
    (cases_lt y n)

chosen : (m : ℕ → Bool) (n : ℕ) (o : Option ℕ) → IfSome o (λ y. y < n) → list_any (λ x. m x && is_some_and (nat_eq x) o) (places n) ≡ unwrap_or (option_map m o) false
chosen m n None h = none-here m (places n)
chosen m n (Some y) h = here m y n h

-- an entity is among those that refer to marked nodes exactly where the node that it refers to is marked
linking-marked : (m : ℕ → Bool) (n k : ℕ) (links : LinkList) → IfSome (link_in links k) (λ y. y < n) → list_any (nat_eq k) (flat_map (λ x. if m x then linking_to x links else []) (places n)) ≡ unwrap_or (option_map m (link_in links k)) false
linking-marked m n k links h =
    any-flat k (λ x. if m x then linking_to x links else []) (places n)
    ∙ any-same _ _ (λ x. marked-has m k x links) (places n)
    ∙ chosen m n (link_in links k) h

-- ---- entities in their order

pub marks-read : (count : ℕ) (found : List ℕ) (marks : List Bool) → ((k : ℕ) → k < count → get_or marks k false ≡ list_any (nat_eq k) found)
    → filter (λ k. get_or marks k false) (places count) ≡ filter (λ k. list_any (nat_eq k) found) (places count)
marks-read count found marks h = filter_same _ _ (places count) (each_place_below count _ h)

pub linking-places : (m : ℕ → Bool) (n count : ℕ) (links : LinkList) (found : List ℕ) → found ≡ flat_map (λ x. if m x then linking_to x links else []) (places n) → ((k : ℕ) → IfSome (link_in links k) (λ y. y < n))
    → filter (λ k. list_any (nat_eq k) found) (places count) ≡ filter (λ k. unwrap_or (option_map m (link_in links k)) false) (places count)
linking-places m n count links found e h =
    ap (λ l. filter (λ k. list_any (nat_eq k) l) (places count)) e
    ∙ filter_same _ _ (places count) (each_place_below count _ (λ k less. linking-marked m n k links (h k)))

node-here : (f : ℕ → Option ℕ) (n k : ℕ) → k < n → f k ≡ unwrap_or (slice_get (map f (places n)) k) None
node-here f n k h = sym (
    unwrap_or-slice_get (map f (places n)) k None
    ∙ get_or-map f (places n) k 0 None (let size = length-places n in omega (arith, h, size))
    ∙ ap f (get_or-places n k 0 h)
    )

-- the first entities whose node passes a test
pub places-whose : (test : ℕ → Bool) (f : ℕ → Option ℕ) (n : ℕ) → filter (λ k. unwrap_or (option_map test (f k)) false) (places n) ≡ rows_whose test (map f (places n))
places-whose test f n =
    filter_same _ _ (places n) (each_place_below n _ (λ k h. ap (λ o. unwrap_or (option_map test o) false) (node-here f n k h)))
    ∙ ap (λ m. filter (λ i. unwrap_or (option_map test (unwrap_or (slice_get (map f (places n)) i) None)) false) (places m)) (sym (length-map (places n) f ∙ length-places n))

-- ---- the entities of a set

pub nodes-in-set : (w : World) (s of : ℕ) (p : Path) (x : Source) (ks : List ℕ) → ((k : ℕ) → node_at x k ≡ node_in w s p (placed of k)) → map (node_at x) ks ≡ map (node_in w s p) (map (placed of) ks)
nodes-in-set w s of p x [] h = refl
nodes-in-set w s of p x (k ∷ ks) h = λ i. h k i ∷ nodes-in-set w s of p x ks h i

pub quiet-in-set : (w : World) (of : ℕ) (p : Path) (ks : List ℕ) → ((k : ℕ) → is_beyond (lookup w (placed of k) p) ≡ false) → list_any is_beyond (path_values w p (map (placed of) ks)) ≡ false
quiet-in-set w of p [] h = refl
quiet-in-set w of p (k ∷ ks) h = or_from _ _ (h k) (quiet-in-set w of p ks h)

pub within-set : (w : World) (s of : ℕ) (p : Path) (x : Source) (n : ℕ) → n ≡ count w s → ((k : ℕ) → node_at x k ≡ node_in w s p (placed of k)) → (k : ℕ) → IfSome (node_at x k) (λ y. y < n)
within-set w s of p x n e h k =
    subst (λ o. IfSome o (λ y. y < n)) (sym (h k)) (subst (λ m. IfSome (node_in w s p (placed of k)) (λ y. y < m)) (sym e) (node-within w s p (placed of k)))

pub all-within : (f : ℕ → Option ℕ) (n : ℕ) (ks : List ℕ) → ((k : ℕ) → IfSome (f k) (λ y. y < n)) → AreOptionsBelow n (map f ks)
all-within f n ks h = All-map (λ o. IfSome o (λ y. y < n)) f ks (λ k d less. h (get_or ks k d))

map-same : (xs : List ℕ) → map (λ k. k) xs ≡ xs
map-same [] = refl
map-same (x ∷ xs) = ap (λ l. x ∷ l) (map-same xs)

-- the entities that are found are among the first
pub whose-below : (test : ℕ → Bool) (f : ℕ → Option ℕ) (n : ℕ) (ks : List ℕ) → ks ≡ rows_whose test (map f (places n)) → All (λ k. k < n) ks
whose-below test f n ks e =
    subst (All (λ k. k < n)) (sym (e ∙ sym (places-whose test f n)))
    (All-filter (λ k. unwrap_or (option_map test (f k)) false) (λ k. k < n) (places n) (below n))
  where
    below : (n : ℕ) → All (λ k. k < n) (places n)
    below n = subst (All (λ k. k < n)) (map-same (places n)) (All-map (λ k. k < n) (λ k. k) (places n) (λ k d less. let size = length-places n in subst (λ j. j < n) (sym (get_or-places n k d (omega (arith, less, size)))) (omega (arith, less, size))))
