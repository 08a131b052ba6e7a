-- The members and items at a place do not depend on how many segments are allowed, where the paths have no more.
use Rattle.std.proofs.Common.{◌≡◌, ℕ, zero, suc, ◌<◌, ◌≤◌, Bool, true, false, cond, not, ◌&&◌, List, [], ◌∷◌, ◌++◌, Option, Some, None, length, max, flat_map, sym, ◌∙◌, ap, arith, inl, inr}
use Rattle.std.specs.Prelude.{◌⊎◌, fold, option_map, unwrap_or, if◌then◌else◌}
use Rattle.std.specs.List.{cons_option}
use Rattle.std.proofs.lemmas.Bool.{and_cases, cases_Bool, true≢false}
use Rattle.serde_json.specs.Data.{null}
use Rattle.edm_values.specs.Lists.{in_byte_order, same_text}
use Rattle.edm_values.specs.Names.{Name, Path}
use Rattle.edm_values.proofs.EachLemmas.{Each, each-filter}
use Rattle.edm_values.proofs.ListFacts.{flat_map-agree}
use Rattle.edm_model.specs.JsonTrees.{Member, object_of}
use Rattle.edm_data.specs.Worlds.{World, Entity}
use Rattle.json_render.specs.Bodies.{Shown, depth_of, further, here, is_bound_to_none, is_empty, is_here, members_at, names_of, properties_here, under, value_members}
use Rattle.json_render.specs.RowTexts.{members_here, segment}

-- each path has fewer names
abbrev pub Within : {X : Type 0} → ℕ → List (Path × X) → Type 0
Within d xs = Each (λ x. length x.0 < d) xs

folded-within : {X : Type 0} (d a : ℕ) (xs : List (Path × X)) → fold (λ d x. max d (suc (length x.0))) a xs ≤ d → (a ≤ d) × Within d xs
folded-within d a [] h = (h, tt)
folded-within d a (x ∷ xs) h =
    let r = folded-within d (max a (suc (length x.0))) xs h in
    let low : max a (suc (length x.0)) ≤ d = r.0 in
    (omega arith, (omega arith, r.1))

pub depth-within : {X : Type 0} (d : ℕ) (xs : List (Path × X)) → depth_of xs ≤ d → (1 ≤ d) × Within d xs
depth-within d xs h = folded-within d 1 xs h

under-cons : {X : Type 0} (d : ℕ) (n : Name) (x : Path × X) (xs : List (Path × X)) → length x.0 < suc d → Within d (under n xs) → Within d (under n (x ∷ xs))
under-cons d n ([], v) xs h g = g
under-cons {X} d n (m ∷ rest, v) xs h g = go (same_text m n)
  where
    go : (b : Bool) → Within d (cons_option (option_map (λ r. (r, v)) (if b then Some rest else None)) (under n xs))
    go true = (omega arith, g)
    go false = g

pub under-within : {X : Type 0} (d : ℕ) (n : Name) (xs : List (Path × X)) → Within (suc d) xs → Within d (under n xs)
under-within d n [] a = tt
under-within d n (x ∷ xs) a = under-cons d n x xs a.0 (under-within d n xs a.1)

pub further-within : {X : Type 0} (d : ℕ) (xs : List (Path × X)) → Within d xs → Within d (further xs)
further-within d xs a = each-filter (λ x. length x.0 < d) (λ x. not (is_here x.0)) xs a

positive : {X : Type 0} (d : ℕ) (xs : List (Path × X)) → Within d xs → is_empty xs ≡ false → 0 < d
positive d [] a h = absurd (true≢false h)
positive d (x ∷ xs) a h = let l : length x.0 < d = a.0 in omega arith

-- the members of one name
abbrev pub name_members : World → List (Path × Option Entity) → List (Path × Shown) → (List (Path × Option Entity) → List (Path × Shown) → List Member) → Name → List Member
name_members w ps cs inner n =
    unwrap_or (option_map (value_members n) (here (under n (cs ++ properties_here w ps)))) []
    ++ segment n (under n ps) (further (under n cs)) (inner (under n ps) (further (under n cs)))

-- the names at a place
abbrev pub place_names : World → List (Path × Option Entity) → List (Path × Shown) → List Name
place_names w ps cs = in_byte_order (names_of ps ++ names_of cs ++ names_of (properties_here w ps))

segment-same : (n : Name) (ps : List (Path × Option Entity)) (cs : List (Path × Shown)) (ms ns : List Member) → ((is_empty ps && is_empty cs) ≡ false → ms ≡ ns) → segment n ps cs ms ≡ segment n ps cs ns
segment-same n ps cs ms ns h = go (cases_Bool (is_empty ps && is_empty cs))
  where
    go : ((is_empty ps && is_empty cs) ≡ true) ⊎ ((is_empty ps && is_empty cs) ≡ false) → segment n ps cs ms ≡ segment n ps cs ns
    go (inl e) = ap (λ b. cond b [] ((n, if is_bound_to_none ps && is_empty cs then null else object_of ms) ∷ [])) e ∙ sym (ap (λ b. cond b [] ((n, if is_bound_to_none ps && is_empty cs then null else object_of ns) ∷ [])) e)
    go (inr e) = ap (λ xs. segment n ps cs xs) (h e)

-- a place that has something has room
room : (d : ℕ) (ps : List (Path × Option Entity)) (cs : List (Path × Shown)) → Within d ps → Within d cs → (is_empty ps && is_empty cs) ≡ false → 0 < d
room d ps cs a b e = go (and_cases (is_empty ps) (is_empty cs) e)
  where
    go : (is_empty ps ≡ false) ⊎ (is_empty cs ≡ false) → 0 < d
    go (inl h) = positive d ps a h
    go (inr h) = positive d cs b h

same-depth : (d e : ℕ) (w : World) (ps : List (Path × Option Entity)) (cs : List (Path × Shown)) → 0 < d → 0 < e → Within d ps → Within d cs → Within e ps → Within e cs → members_at d w ps cs ≡ members_at e w ps cs
same-depth zero e w ps cs p q a b f g = absurd (omega arith)
same-depth (suc d) zero w ps cs p q a b f g = absurd (omega arith)
same-depth (suc d) (suc e) w ps cs p q a b f g =
    flat_map-agree (name_members w ps cs (members_at d w)) (name_members w ps cs (members_at e w)) (λ n.
    let us = under n ps in
    let vs = further (under n cs) in
    let a' = under-within d n ps a in
    let b' = further-within d (under n cs) (under-within d n cs b) in
    let f' = under-within e n ps f in
    let g' = further-within e (under n cs) (under-within e n cs g) in
    ap (λ xs. unwrap_or (option_map (value_members n) (here (under n (cs ++ properties_here w ps)))) [] ++ xs)
    (segment-same n us vs (members_at d w us vs) (members_at e w us vs) (λ s. same-depth d e w us vs (room d us vs a' b' s) (room e us vs f' g' s) a' b' f' g')))
    (place_names w ps cs)

-- as many segments as are needed, and one fewer behind each
pub one-level : (w : World) (ps : List (Path × Option Entity)) (cs : List (Path × Shown)) → members_here w ps cs ≡ flat_map (name_members w ps cs (members_here w)) (place_names w ps cs)
one-level w ps cs = go (max (depth_of ps) (depth_of cs)) (depth-within _ ps (omega arith)) (depth-within _ cs (omega arith))
  where
    go : (d : ℕ) → (1 ≤ d) × Within d ps → (1 ≤ d) × Within d cs → members_at d w ps cs ≡ flat_map (name_members w ps cs (members_here w)) (place_names w ps cs)
    go zero a b = absurd (omega arith)
    go (suc d) a b =
        flat_map-agree (name_members w ps cs (members_at d w)) (name_members w ps cs (members_here w)) (λ n.
        let us = under n ps in
        let vs = further (under n cs) in
        let m = max (depth_of us) (depth_of vs) in
        let a' = under-within d n ps a.1 in
        let b' = further-within d (under n cs) (under-within d n cs b.1) in
        let f' = depth-within m us (omega arith) in
        let g' = depth-within m vs (omega arith) in
        ap (λ xs. unwrap_or (option_map (value_members n) (here (under n (cs ++ properties_here w ps)))) [] ++ xs)
        (segment-same n us vs (members_at d w us vs) (members_at m w us vs) (λ s. same-depth d m w us vs (room d us vs a' b' s) (omega arith) a' b' f'.1 g'.1)))
        (place_names w ps cs)
