-- Recursive rollups with plain keys: the keys of each node, found on one instance of each key and node, and what an aggregation makes of them.
use Rattle.std.proofs.Common.{◌≡◌, ℕ, zero, suc, ◌+◌, ◌<◌, Bool, true, false, cond, not, ◌&&◌, ◌||◌, refl, sym, ◌∙◌, ap, arith, List, [], ◌∷◌, ◌++◌, Some, get_or, length, map, filter, take, nat_eq}
use Rattle.std.specs.Prelude.{All, option_map, slice_get}
use Rattle.std.specs.List.{list_all, list_any}
use Rattle.std.proofs.lemmas.Bool.{and_parts}
use Rattle.std.proofs.lemmas.Bool.Decides.{nat_tests}
use Rattle.std.proofs.lemmas.List.{get_or-map, length-map}
use Rattle.std.proofs.lemmas.List.Elements.{All-get_or}
use Rattle.std.proofs.lemmas.Simd.{map-map}
use Rattle.edm_values.proofs.OptionFacts.{some_value}
use Rattle.edm_values.proofs.PlaceFacts.{map-agree_places}
use Rattle.edm_values.proofs.Reorderings.{TestsEquality, filter-swapped}
use Rattle.edm_values.proofs.SearchFacts.{all-distinct}
use Rattle.edm_values.proofs.TopPlaces.{map-places}
use Rattle.edm_values.specs.declared.Value.{Value}
use Rattle.edm_values.specs.Lists.{at_places, distinct, is_nonempty, is_some_and, places}
use Rattle.edm_values.specs.Names.{Path}
use Rattle.edm_model.specs.LookUps.{HierarchyPlace}
use Rattle.edm_data.specs.Hierarchies.{is_under}
use Rattle.edm_data.specs.Nodes.{parents_of}
use Rattle.edm_data.specs.References.{by_key}
use Rattle.edm_data.specs.Worlds.{World}
use Rattle.apply_meaning.proofs.InstanceOrders.{same_keys_tests}
use Rattle.apply_meaning.specs.Instances.{Instance, lookup, no_instance}
use Rattle.apply_meaning.specs.Meaning.{at_or_below, group, key_list, keys, node, same_keys}
use Rattle.par_stages.specs.Placed.{placed}
use Rattle.par_stages.proofs.Passing.{filter-map, passing}
use Rattle.aggregate_ops.proofs.FrontLemmas.{distinct-images}
use Rattle.group_rollup.proofs.GroupLemmas.{group-at_places}
use Rattle.group_rollup.specs.Groupings.{places_in}
use Rattle.group_rollup.specs.NumberedBy.{AreNumberedBy}
use Rattle.numbered_groups.specs.Numbered.{Numbering, numbered_group, places_with}
use Rattle.step_run.proofs.GroupTotalLaws.{firsts-within, group-at, groups-are, length-placed, placed-at, size}

-- ---- items that pass a test

-- no place before the first is one of theirs
pub passing-past : {X : Type 0} (q : X → Bool) (a n : ℕ) (xs : List X) → a < n → list_any (nat_eq a) (passing q n xs) ≡ false
passing-past q a n [] h = refl
passing-past q a n (x ∷ xs) h = go (q x) (passing-past q a (n + 1) xs (omega (arith, h)))
  where
    apart : nat_eq a n ≡ false
    apart = grind (arith, nat_tests, h)

    go : (b : Bool) → list_any (nat_eq a) (passing q (n + 1) xs) ≡ false → list_any (nat_eq a) (map (λ y. y.1) (cond b ((x, n) ∷ filter (λ y. q y.0) (placed (n + 1) xs)) (filter (λ y. q y.0) (placed (n + 1) xs)))) ≡ false
    go true r = λ i. apart i || r i
    go false r = r

-- a place is one of theirs where the item there passes
pub passing-at : {X : Type 0} (q : X → Bool) (n r : ℕ) (xs : List X) (d : X) → r < length xs → list_any (nat_eq (n + r)) (passing q n xs) ≡ q (get_or xs r d)
passing-at q n r [] d h = absurd (omega (arith, h))
passing-at {X} q n zero (x ∷ xs) d h = go (q x)
  where
    here : nat_eq (n + 0) n ≡ true
    here = grind (arith, nat_tests)

    past : list_any (nat_eq (n + 0)) (passing q (n + 1) xs) ≡ false
    past = passing-past q (n + 0) (n + 1) xs (omega arith)

    go : (b : Bool) → list_any (nat_eq (n + 0)) (map (λ y. y.1) (cond b ((x, n) ∷ filter (λ y. q y.0) (placed (n + 1) xs)) (filter (λ y. q y.0) (placed (n + 1) xs)))) ≡ b
    go true = ap (λ t. t || list_any (nat_eq (n + 0)) (passing q (n + 1) xs)) here
    go false = past
passing-at {X} q n (suc r) (x ∷ xs) d h = go (q x) (ap (λ m. list_any (nat_eq m) (passing q (n + 1) xs)) moved ∙ passing-at q (n + 1) r xs d (omega (arith, h)))
  where
    moved : n + suc r ≡ n + 1 + r
    moved = omega arith

    apart : nat_eq (n + suc r) n ≡ false
    apart = grind (arith, nat_tests)

    go : (b : Bool) → list_any (nat_eq (n + suc r)) (passing q (n + 1) xs) ≡ q (get_or xs r d)
        → list_any (nat_eq (n + suc r)) (map (λ y. y.1) (cond b ((x, n) ∷ filter (λ y. q y.0) (placed (n + 1) xs)) (filter (λ y. q y.0) (placed (n + 1) xs)))) ≡ q (get_or xs r d)
    go true e = ap (λ t. t || list_any (nat_eq (n + suc r)) (passing q (n + 1) xs)) apart ∙ e
    go false e = e

-- the first of their places, where there is one
pub record FirstPassing {X : Type 0} (q : X → Bool) (n : ℕ) (xs : List X) (d : X) : Type 0 where
  pub at : ℕ
  pub rest : List ℕ
  pub are : passing q n xs ≡ (n + at) ∷ rest
  pub there : at < length xs
  pub passes : q (get_or xs at d) ≡ true

pub passing-first : {X : Type 0} (q : X → Bool) (n : ℕ) (xs : List X) (d : X) → is_nonempty (filter q xs) ≡ true → FirstPassing q n xs d
passing-first q n [] d h = absurd cc
passing-first {X} q n (x ∷ xs) d h = go (q x) refl (λ e. passing-first q (n + 1) xs d (ap (λ b. is_nonempty (cond b (x ∷ filter q xs) (filter q xs))) (sym e) ∙ h))
  where
    go : (b : Bool) → q x ≡ b → (q x ≡ false → FirstPassing q (n + 1) xs d) → FirstPassing q n (x ∷ xs) d
    go true e r =
        let zero-n : n ≡ n + 0 = omega arith in
        record {
          at = 0;
          rest = passing q (n + 1) xs;
          are = ap (λ b. map (λ (y : X × ℕ). y.1) (cond b ((x, n) ∷ filter (λ (y : X × ℕ). q y.0) (placed (n + 1) xs)) (filter (λ (y : X × ℕ). q y.0) (placed (n + 1) xs)))) e ∙ ap (λ m. m ∷ passing q (n + 1) xs) zero-n;
          there = omega arith;
          passes = e;
        }
    go false e r =
        let f = r e in
        let moved : n + 1 + f.at ≡ n + suc f.at = omega arith in
        let there = f.there in
        record {
          at = suc f.at;
          rest = f.rest;
          are = ap (λ b. map (λ (y : X × ℕ). y.1) (cond b ((x, n) ∷ filter (λ (y : X × ℕ). q y.0) (placed (n + 1) xs)) (filter (λ (y : X × ℕ). q y.0) (placed (n + 1) xs)))) e ∙ f.are ∙ ap (λ m. m ∷ f.rest) moved;
          there = omega (arith, there);
          passes = f.passes;
        }

-- ---- each key has an instance

weaker : {X : Type 0} (p q : X → Bool) → ((x : X) → p x ≡ true → q x ≡ true) → (xs : List X) → list_all p xs ≡ true → list_all q xs ≡ true
weaker p q f [] h = refl
weaker p q f (x ∷ xs) h = let t = and_parts (p x) (list_all p xs) h in λ i. f x t.0 i && weaker p q f xs t.1 i

some-own : {X K : Type 0} (same : K → K → Bool) (t : TestsEquality same) (g : X → K) (xs : List X) → list_all (λ k. is_nonempty (filter (λ x. same (g x) k) xs)) (map g xs) ≡ true
some-own same t g [] = refl
some-own {X} {K} same t g (x ∷ xs) =
    λ i. own i && weaker (λ k. is_nonempty (filter (λ x. same (g x) k) xs)) (λ k. is_nonempty (filter (λ x. same (g x) k) (x ∷ xs))) (λ k h. more k (same (g x) k) h) (map g xs) (some-own same t g xs) i
  where
    own : is_nonempty (filter (λ z. same (g z) (g x)) (x ∷ xs)) ≡ true
    own = ap (λ b. is_nonempty (cond b (x ∷ filter (λ z. same (g z) (g x)) xs) (filter (λ z. same (g z) (g x)) xs))) (t.itself (g x))

    more : (k : K) (b : Bool) → is_nonempty (filter (λ z. same (g z) k) xs) ≡ true → is_nonempty (cond b (x ∷ filter (λ z. same (g z) k) xs) (filter (λ z. same (g z) k) xs)) ≡ true
    more k true h = refl
    more k false h = h

pub keys-own : (w : World) (ks : List Path) (l : List Instance) → list_all (λ k. is_nonempty (group w ks k l)) (keys w ks l) ≡ true
keys-own w ks l = all-distinct (λ k. is_nonempty (group w ks k l)) same_keys (map (key_list w ks) l) (some-own same_keys same_keys_tests (key_list w ks) l)

-- ---- the keys of those that pass a test

-- each element once, of those that pass a test
distinct-filter : {X : Type 0} (eq : X → X → Bool) (t : TestsEquality eq) (s : X → Bool) (xs : List X) → distinct eq (filter s xs) ≡ filter s (distinct eq xs)
distinct-filter eq t s [] = refl
distinct-filter {X} eq t s (x ∷ xs) = go (s x) refl (distinct-filter eq t s xs)
  where
    apart : X → Bool
    apart y = not (eq x y)

    stays : (b : Bool) (y : X) (ys : List X) → eq x y ≡ b → s x ≡ false → filter s (filter apart ys) ≡ filter s ys → filter s (cond (not b) (y ∷ filter apart ys) (filter apart ys)) ≡ cond (s y) (y ∷ filter s ys) (filter s ys)
    stays true y ys e f r = r ∙ sym (ap (λ b. cond b (y ∷ filter s ys) (filter s ys)) (ap s (sym (t.same x y e)) ∙ f))
    stays false y ys e f r = ap (λ zs. cond (s y) (y ∷ zs) zs) r

    skip : (ys : List X) → s x ≡ false → filter s (filter apart ys) ≡ filter s ys
    skip [] f = refl
    skip (y ∷ ys) f = ap (λ b. filter s (cond (not b) (y ∷ filter apart ys) (filter apart ys))) refl ∙ stays (eq x y) y ys refl f (skip ys f)

    go : (b : Bool) → s x ≡ b → distinct eq (filter s xs) ≡ filter s (distinct eq xs) → distinct eq (cond b (x ∷ filter s xs) (filter s xs)) ≡ cond b (x ∷ filter s (filter apart (distinct eq xs))) (filter s (filter apart (distinct eq xs)))
    go true f e = ap (λ r. x ∷ r) (ap (filter apart) e ∙ filter-swapped apart s (distinct eq xs))
    go false f e = e ∙ sym (skip (distinct eq xs) f)

-- the images of those that pass, each once, are those of each element once that passes
thinned : {X Y : Type 0} (eq : X → X → Bool) (t : TestsEquality eq) (same : Y → Y → Bool) (u : TestsEquality same) (g : X → Y) (s : X → Bool) (xs : List X) → distinct same (map g (filter s (distinct eq xs))) ≡ distinct same (map g (filter s xs))
thinned eq t same u g s xs = ap (λ ys. distinct same (map g ys)) (sym (distinct-filter eq t s xs)) ∙ distinct-images same u eq t g (filter s xs)

module _ (w : World) (f : HierarchyPlace) (ks : List Path) (p : Path) (x : ℕ) where
  -- the key list of the plain keys and the path
  abbrev fine : Instance → List Value
  fine i = key_list w (ks ++ p ∷ []) i

  -- the first values of a key list, and whether its last one leads to the node or below it
  abbrev front : List Value → List Value
  front k = take (length ks) k

  abbrev leads : List Value → Bool
  leads k = is_some_and (is_under (parents_of w f) x) (option_map (λ e. e.at) (by_key w f.set (get_or k (length ks) Value.Null)))

  front-is : (i : Instance) → front (fine i) ≡ key_list w ks i
  front-is i = go ks
    where
      go : (qs : List Path) → take (length qs) (map (lookup w i) (qs ++ p ∷ [])) ≡ map (lookup w i) qs
      go [] = refl
      go (q ∷ qs) = ap (λ vs. lookup w i q ∷ vs) (go qs)

  last-is : (i : Instance) → get_or (fine i) (length ks) Value.Null ≡ lookup w i p
  last-is i = go ks
    where
      go : (qs : List Path) → get_or (map (lookup w i) (qs ++ p ∷ [])) (length qs) Value.Null ≡ lookup w i p
      go [] = refl
      go (q ∷ qs) = go qs

  leads-is : (i : Instance) → leads (fine i) ≡ at_or_below w f p x i
  leads-is i = ap (λ v. is_some_and (is_under (parents_of w f) x) (option_map (λ e. e.at) (by_key w f.set v))) (last-is i)

  -- the keys of the instances at a node or below it hang on these key lists alone
  by-fine : (l : List Instance) → keys w ks (filter (at_or_below w f p x) l) ≡ distinct same_keys (map front (filter leads (map fine l)))
  by-fine l = sym (ap (distinct same_keys) (filter-map front leads fine l ∙ (λ j. map (λ i. front-is i j) (filter (λ i. leads-is i j) l))))

  -- instances whose key lists are those of others, each once, have the same keys there
  pub keys-thinned : (l l' : List Instance) → map fine l' ≡ distinct same_keys (map fine l) → keys w ks (filter (at_or_below w f p x) l') ≡ keys w ks (filter (at_or_below w f p x) l)
  keys-thinned l l' e =
      by-fine l' ∙ ap (λ ys. distinct same_keys (map front (filter leads ys))) e ∙ thinned same_keys same_keys_tests same_keys same_keys_tests front leads (map fine l) ∙ sym (by-fine l)

-- ---- the numbers of the keys

firsts-of : {X Y : Type 0} (f : X → Y) (xs : List X) → map {A = X × Y} (λ g. g.0) (map (λ x. (x, f x)) xs) ≡ xs
firsts-of f [] = refl
firsts-of f (x ∷ xs) = ap (λ ys. x ∷ ys) (firsts-of f xs)

-- what stands among images is the image of what stands there
pub record Picked {X Y : Type 0} (f : X → Y) (xs : List X) (k : ℕ) (y : Y) : Type 0 where
  pub own : X
  pub here : slice_get xs k ≡ Some own
  pub is : f own ≡ y

pub picked : {X Y : Type 0} (f : X → Y) (xs : List X) (k : ℕ) (y : Y) → slice_get (map f xs) k ≡ Some y → Picked f xs k y
picked f [] k y e = absurd cc
picked f (x ∷ xs) zero y e = record { own = x; here = refl; is = some_value e }
picked f (x ∷ xs) (suc k) y e = let r = picked f xs k y e in record { own = r.own; here = r.here; is = r.is }

module _ (w : World) (ks : List Path) (l : List Instance) (n : Numbering) (N : AreNumberedBy w ks l n) where
  abbrev key_of : ℕ → List Value
  key_of j = get_or (map (key_list w ks) l) (get_or n.firsts j 0) []

  -- the instances with a number are those of its key
  places-are : (j : ℕ) → j < length n.firsts → places_in w ks (key_of j) l ≡ places_with n.numbers j
  places-are j h =
      let r = picked (λ k. (k, places_in w ks k l)) (keys w ks l) j (numbered_group (map (key_list w ks) l) n j) (group-at w ks l n N j h) in
      ap (λ k. places_in w ks k l) (sym (ap (λ (g : List Value × List ℕ). g.0) r.is)) ∙ ap (λ (g : List Value × List ℕ). g.1) r.is

  pub numbers-long : length n.numbers ≡ length l
  numbers-long = size w ks l n N

  module _ (there : All (λ m. m < length n.firsts) n.numbers) (r : ℕ) (h : r < length l) where
    abbrev own : ℕ
    own = get_or n.numbers r 0

    numbered : r < length n.numbers
    numbered = let same = size w ks l n N in omega (arith, same, h)

    own-there : own < length n.firsts
    own-there = All-get_or (λ m. m < length n.firsts) n.numbers r 0 numbered there

    key-is : key_list w ks (get_or l r no_instance) ≡ key_of own
    key-is =
        let itself : nat_eq own own ≡ true = grind (arith, nat_tests) in
        same_keys_tests.same (key_list w ks (get_or l r no_instance)) (key_of own)
        (sym (passing-at (λ i. same_keys (key_list w ks i) (key_of own)) 0 r l no_instance h)
        ∙ ap (list_any (nat_eq (0 + r))) (places-are own own-there)
        ∙ passing-at (λ y. nat_eq y own) 0 r n.numbers 0 numbered
        ∙ itself)

    pub same-number : at_places l (places_with n.numbers own) ≡ group w ks (key_list w ks (get_or l r no_instance)) l
    same-number = ap (at_places l) (sym (places-are own own-there)) ∙ group-at_places w ks (key_of own) l ∙ ap (λ k. group w ks k l) (sym key-is)

    pub number-there : (count : ℕ) → count ≡ length n.firsts → own < count
    number-there count e = let small = own-there in omega (arith, small, e)

  -- the first instances have each key once
  pub firsts-keys : All (λ f. f < length n.numbers) n.firsts → map (key_list w ks) (at_places l n.firsts) ≡ distinct same_keys (map (key_list w ks) l)
  firsts-keys there =
      let within = firsts-within w ks l n N there in
      let l' = at_places l n.firsts in
      let long : length l' ≡ length n.firsts = length-placed l n.firsts within in
      let whole : length (map (key_list w ks) l') ≡ length n.firsts = length-map l' (key_list w ks) ∙ long in
      sym (map-places (map (key_list w ks) l') [])
      ∙ ap (λ m. map (λ k. get_or (map (key_list w ks) l') k []) (places m)) whole
      ∙ map-agree_places (λ k. get_or (map (key_list w ks) l') k []) (λ k. (numbered_group (map (key_list w ks) l) n k).0) (length n.firsts) (λ k h.
      let small : get_or n.firsts k 0 < length l = (let s = All-get_or (λ f. f < length n.numbers) n.firsts k 0 h there in let e = size w ks l n N in omega (arith, s, e)) in
      get_or-map (key_list w ks) l' k no_instance [] (omega (arith, h, long))
      ∙ ap (key_list w ks) (placed-at l n.firsts k no_instance within h)
      ∙ sym (get_or-map (key_list w ks) l (get_or n.firsts k 0) no_instance [] small))
      ∙ sym (map-map (λ (g : List Value × List ℕ). g.0) (numbered_group (map (key_list w ks) l) n) (places (length n.firsts)))
      ∙ ap (map (λ (g : List Value × List ℕ). g.0)) (sym (groups-are w ks l n N))
      ∙ firsts-of (λ k. places_in w ks k l) (keys w ks l)
