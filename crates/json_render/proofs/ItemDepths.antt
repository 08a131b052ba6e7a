-- The items at a place do not depend on how many segments are allowed, where the paths have no more.
use Rattle.std.proofs.Common.{◌≡◌, ℕ, zero, suc, ◌<◌, ◌≤◌, Bool, true, false, cond, not, ◌&&◌, List, [], ◌∷◌, ◌++◌, Some, None, length, max, codes, flat_map, sym, ◌∙◌, ap, arith, inl, inr}
use Rattle.std.specs.Prelude.{◌⊎◌, fold, if◌then◌else◌}
use Rattle.std.specs.List.{cons_option, list_any}
use Rattle.std.proofs.lemmas.Bool.{and_cases, cases_Bool, true≢false}
use Rattle.edm_values.specs.Lists.{in_byte_order, same_text}
use Rattle.edm_values.specs.Names.{Name, Path}
use Rattle.edm_values.proofs.EachLemmas.{Each, each-filter}
use Rattle.edm_values.proofs.ListFacts.{flat_map-agree}
use Rattle.json_render.specs.Bodies.{depth_of_paths, first_names, going_on, is_empty, is_here, items_at, parenthesised, paths_under}
use Rattle.json_render.specs.ItemTexts.{items_here, segment_items}

-- each path has fewer names
abbrev pub Below : ℕ → List Path → Type 0
Below d ps = Each (λ p. length p < d) ps

folded-below : (d a : ℕ) (ps : List Path) → fold (λ d p. max d (suc (length p))) a ps ≤ d → (a ≤ d) × Below d ps
folded-below d a [] h = (h, tt)
folded-below d a (p ∷ ps) h =
    let r = folded-below d (max a (suc (length p))) ps h in
    let low : max a (suc (length p)) ≤ d = r.0 in
    (omega arith, (omega arith, r.1))

depth-below : (d : ℕ) (ps : List Path) → depth_of_paths ps ≤ d → (1 ≤ d) × Below d ps
depth-below d ps h = folded-below d 1 ps h

under-cons : (d : ℕ) (n : Name) (p : Path) (ps : List Path) → length p < suc d → Below d (paths_under n ps) → Below d (paths_under n (p ∷ ps))
under-cons d n [] ps h g = g
under-cons d n (m ∷ rest) ps h g = go (same_text m n)
  where
    go : (b : Bool) → Below d (cons_option (if b then Some rest else None) (paths_under n ps))
    go true = (omega arith, g)
    go false = g

under-below : (d : ℕ) (n : Name) (ps : List Path) → Below (suc d) ps → Below d (paths_under n ps)
under-below d n [] a = tt
under-below d n (p ∷ ps) a = under-cons d n p ps a.0 (under-below d n ps a.1)

further-below : (d : ℕ) (ps : List Path) → Below d ps → Below d (going_on ps)
further-below d ps a = each-filter (λ p. length p < d) (λ p. not (is_here p)) ps a

positive : (d : ℕ) (ps : List Path) → Below d ps → is_empty ps ≡ false → 0 < d
positive d [] a h = absurd (true≢false h)
positive d (p ∷ ps) a h = let l : length p < d = a.0 in omega arith

-- the items of one name
abbrev pub name_items : List Path → List Path → (List Path → List Path → List (List ℕ)) → Name → List (List ℕ)
name_items ps cs inner n =
    (if list_any is_here (paths_under n cs) then n ∷ [] else []) ++ segment_items n (paths_under n ps) (going_on (paths_under n cs)) (inner (paths_under n ps) (going_on (paths_under n cs)))

-- the names at a place
abbrev pub place_names : List Path → List Path → List Name
place_names ps cs = in_byte_order (flat_map first_names ps ++ flat_map first_names cs)

-- `*` where an entity stands at the place
abbrev pub star : List Path → List (List ℕ)
star ps = if list_any is_here ps then codes "*" ∷ [] else []

segment-same : (n : Name) (ps cs : List Path) (xs ys : List (List ℕ)) → ((is_empty ps && is_empty cs) ≡ false → xs ≡ ys) → segment_items n ps cs xs ≡ segment_items n ps cs ys
segment-same n ps cs xs ys h = go (cases_Bool (is_empty ps && is_empty cs))
  where
    go : ((is_empty ps && is_empty cs) ≡ true) ⊎ ((is_empty ps && is_empty cs) ≡ false) → segment_items n ps cs xs ≡ segment_items n ps cs ys
    go (inl e) = ap (λ b. cond b [] ((n ++ parenthesised xs) ∷ [])) e ∙ sym (ap (λ b. cond b [] ((n ++ parenthesised ys) ∷ [])) e)
    go (inr e) = ap (λ zs. segment_items n ps cs zs) (h e)

room : (d : ℕ) (ps cs : List Path) → Below d ps → Below d cs → (is_empty ps && is_empty cs) ≡ false → 0 < d
room d ps cs a b e = go (and_cases (is_empty ps) (is_empty cs) e)
  where
    go : (is_empty ps ≡ false) ⊎ (is_empty cs ≡ false) → 0 < d
    go (inl h) = positive d ps a h
    go (inr h) = positive d cs b h

same-depth : (d e : ℕ) (ps cs : List Path) → 0 < d → 0 < e → Below d ps → Below d cs → Below e ps → Below e cs → items_at d ps cs ≡ items_at e ps cs
same-depth zero e ps cs p q a b f g = absurd (omega arith)
same-depth (suc d) zero ps cs p q a b f g = absurd (omega arith)
same-depth (suc d) (suc e) ps cs p q a b f g =
    ap (λ xs. star ps ++ xs) (flat_map-agree (name_items ps cs (items_at d)) (name_items ps cs (items_at e)) (λ n.
    let us = paths_under n ps in
    let vs = going_on (paths_under n cs) in
    let a' = under-below d n ps a in
    let b' = further-below d (paths_under n cs) (under-below d n cs b) in
    let f' = under-below e n ps f in
    let g' = further-below e (paths_under n cs) (under-below e n cs g) in
    ap (λ xs. (if list_any is_here (paths_under n cs) then n ∷ [] else []) ++ xs)
    (segment-same n us vs (items_at d us vs) (items_at e us vs) (λ s. same-depth d e us vs (room d us vs a' b' s) (room e us vs f' g' s) a' b' f' g')))
    (place_names ps cs))

-- as many segments as are needed, and one fewer behind each
pub one-level : (ps cs : List Path) → items_here ps cs ≡ star ps ++ flat_map (name_items ps cs items_here) (place_names ps cs)
one-level ps cs = go (max (depth_of_paths ps) (depth_of_paths cs)) (depth-below _ ps (omega arith)) (depth-below _ cs (omega arith))
  where
    go : (d : ℕ) → (1 ≤ d) × Below d ps → (1 ≤ d) × Below d cs → items_at d ps cs ≡ star ps ++ flat_map (name_items ps cs items_here) (place_names ps cs)
    go zero a b = absurd (omega arith)
    go (suc d) a b =
        ap (λ xs. star ps ++ xs) (flat_map-agree (name_items ps cs (items_at d)) (name_items ps cs items_here) (λ n.
        let us = paths_under n ps in
        let vs = going_on (paths_under n cs) in
        let m = max (depth_of_paths us) (depth_of_paths vs) in
        let a' = under-below d n ps a.1 in
        let b' = further-below d (paths_under n cs) (under-below d n cs b.1) in
        let f' = depth-below m us (omega arith) in
        let g' = depth-below m vs (omega arith) in
        ap (λ xs. (if list_any is_here (paths_under n cs) then n ∷ [] else []) ++ xs)
        (segment-same n us vs (items_at d us vs) (items_at m us vs) (λ s. same-depth d m us vs (room d us vs a' b' s) (omega arith) a' b' f'.1 g'.1)))
        (place_names ps cs))
