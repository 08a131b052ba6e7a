-- The levels of a rollup by their places, and levels with their groups.
use Rattle.std.proofs.Common.{◌≡◌, ℕ, zero, suc, ◌+◌, ◌-◌, ◌<◌, ◌≤◌, refl, sym, ◌∙◌, ap, Bool, true, false, List, [], ◌∷◌, ◌++◌, length, drop, take, reverse, map, Option, Some, None, arith, drop-cons, add-one, add-zero, inl, inr, length-append, ◌⊎◌}
use Rattle.std.specs.Prelude.{slice_get, zip}
use Rattle.std.specs.List.{range_with_len}
use Rattle.std.proofs.Math.Seq.{take-append-add}
use Rattle.std.proofs.lemmas.List.{append-nil, reverse-append}
use Rattle.std.proofs.lemmas.Option.{get_or_from_slice_get, slice_get_within}
use Rattle.edm_values.specs.declared.Value.{Value}
use Rattle.edm_values.specs.Names.{Path}
use Rattle.edm_data.specs.Worlds.{World}
use Rattle.apply_ast.specs.Trees.{Keys}
use Rattle.context_typing.specs.Typing.{RollupPart, group_keys, key_paths, rollup_paths}
use Rattle.apply_meaning.specs.Instances.{Instance}
use Rattle.apply_meaning.specs.Meaning.{level_paths}
use Rattle.group_rollup.specs.Groupings.{groups}
use Rattle.step_run.specs.Levels.{AreKeys, AreLevels, Level, LevelKeys, level_on, part_of}
use Rattle.step_run.proofs.GroupLemmas.{length-more}

range-more : (a n : ℕ) → range_with_len a (suc n) ≡ range_with_len a n ++ (a + n) ∷ []
range-more a zero = λ i. sym (add-zero a) i ∷ []
range-more a (suc n) = let e : a + 1 + n ≡ a + suc n = omega arith in ap (λ xs. a ∷ xs) (range-more (a + 1) n ∙ ap (λ m. range_with_len (a + 1) n ++ m ∷ []) e)

-- what a function gives on the numbers from n down to 1
abbrev down : {X : Type 0} → (ℕ → X) → ℕ → List X
down f n = map f (reverse (range_with_len 1 n))

down-next : {X : Type 0} (f : ℕ → X) (n : ℕ) → down f (suc n) ≡ f (suc n) ∷ down f n
down-next f n =
    let e : 1 + n ≡ suc n = omega arith in
    ap (λ xs. map f (reverse xs)) (range-more 1 n) ∙ ap (map f) (reverse-append (range_with_len 1 n) ((1 + n) ∷ [])) ∙ ap (λ m. f m ∷ down f n) e

down-length : {X : Type 0} (f : ℕ → X) (n : ℕ) → length (down f n) ≡ n
down-length f zero = refl
down-length f (suc n) = ap length (down-next f n) ∙ ap suc (down-length f n)

down-at : {X : Type 0} (f : ℕ → X) (n k : ℕ) → k < n → slice_get (down f n) k ≡ Some (f (n - k))
down-at f zero k h = absurd (omega arith)
down-at f (suc n) zero h = let e : suc n ≡ suc n - 0 = omega arith in ap (λ xs. slice_get xs 0) (down-next f n) ∙ ap (λ m. Some (f m)) e
down-at f (suc n) (suc k) h = let e : n - k ≡ suc n - suc k = omega arith in ap (λ xs. slice_get xs (suc k)) (down-next f n) ∙ down-at f n k (omega arith) ∙ ap (λ m. Some (f m)) e

at-front : {X : Type 0} (xs ys : List X) (k : ℕ) (x : X) → slice_get xs k ≡ Some x → slice_get (xs ++ ys) k ≡ Some x
at-front [] ys k x e = absurd (no-value e)
  where
    no-value : {A : Type 0} {a : A} → ◌≡◌ {A = Option A} None (Some a) → ⊥
    no-value e = cc
at-front (y ∷ xs) ys zero x e = e
at-front (y ∷ xs) ys (suc k) x e = at-front xs ys k x e

at-end : {X : Type 0} (xs : List X) (y : X) (k : ℕ) → k ≡ length xs → slice_get (xs ++ y ∷ []) k ≡ Some y
at-end [] y k e = ap (slice_get (y ∷ [])) e
at-end (x ∷ xs) y k e = ap (slice_get (x ∷ xs ++ y ∷ [])) e ∙ at-end xs y (length xs) refl

one-of : (k n : ℕ) → k < n + 1 → (k < n) ⊎ (k ≡ n)
one-of zero zero h = inr refl
one-of zero (suc n) h = inl (omega arith)
one-of (suc k) zero h = absurd (omega arith)
one-of (suc k) (suc n) h = elim (one-of k n (omega arith)) [ inl a ↦ inl (omega (arith, a)) | inr e ↦ inr (ap suc e) ]

-- the level at a place has all but so many of the rollup's paths
pub record PlaceOf (ks ps : List Path) (all : Bool) (k : ℕ) : Type 0 where
  pub within : k ≤ length ps
  pub paths : slice_get (level_paths ks (RollupPart.Levels all ps)) k ≡ Some (ks ++ take (length ps - k) ps)

pub level-place : (ks ps : List Path) (all : Bool) (k : ℕ) → k < length (level_paths ks (RollupPart.Levels all ps)) → PlaceOf ks ps all k
level-place ks ps false k h =
    let f : ℕ → List Path = λ j. ks ++ take j ps in
    let long = ap length (append-nil (down f (length ps))) ∙ down-length f (length ps) in
    let less : k < length ps = omega (arith, h, long) in
    record { within = omega (arith, less); paths = ap (λ xs. slice_get xs k) (append-nil (down f (length ps))) ∙ down-at f (length ps) k less }
level-place ks ps true k h =
    let f : ℕ → List Path = λ j. ks ++ take j ps in
    let long = length-more (down f (length ps)) ks in
    let own = down-length f (length ps) in
    elim (one-of k (length ps) (omega (arith, h, long, own))) [
      | inl less ↦ record { within = omega (arith, less); paths = at-front (down f (length ps)) (ks ∷ []) k (f (length ps - k)) (down-at f (length ps) k less) }
      | inr e ↦ record {
        within = omega (arith, e);
        paths = at-end (down f (length ps)) ks k (e ∙ sym own) ∙ ap Some (sym (append-nil ks) ∙ (let none : 0 ≡ length ps - k = omega (arith, e) in ap (λ j. ks ++ take j ps) none));
      }
    ]

-- all paths but the last ones, where these are the rollup's
pub front-of-all : (ks ps : List Path) (k : ℕ) → k ≤ length ps → take (length (ks ++ ps) - k) (ks ++ ps) ≡ ks ++ take (length ps - k) ps
front-of-all ks ps k h =
    let long = length-append ks ps in
    let e : length (ks ++ ps) - k ≡ length ks + (length ps - k) = omega (arith, long, h) in
    ap (λ n. take n (ks ++ ps)) e ∙ take-append-add ks ps (length ps - k)

-- the next level with its groups
pub zip-next : {X : Type 0} (levels : List (List Path)) (n : ℕ) (p : List Path) (g : X) (rest : List X) → slice_get levels n ≡ Some p → zip (drop n levels) (g ∷ rest) ≡ (p, g) ∷ zip (drop (n + 1) levels) rest
zip-next levels n p g rest e =
    ap (λ ps. zip ps (g ∷ rest)) (drop-cons levels n p (slice_get_within levels n p e))
    ∙ ap (λ q. (q, g) ∷ zip (drop (suc n) levels) rest) (get_or_from_slice_get levels n p p e)
    ∙ ap (λ m. (p, g) ∷ zip (drop m levels) rest) (sym (add-one n))

zip-groups : (w : World) (l : List Instance) (levels : List (List Path)) → zip levels (map (λ level. groups w level l) levels) ≡ map (level_on w l) levels
zip-groups w l [] = refl
zip-groups w l (level ∷ levels) = ap (λ xs. level_on w l level ∷ xs) (zip-groups w l levels)

-- levels with what was found on them are those of the grouping
pub are-levels : (w : World) (ks : Keys) (k : LevelKeys) (l : List Instance) (found : List (List (List Value × List ℕ))) (levels : List Level) → AreKeys ks k
    → found ≡ map (λ level. groups w level l) (level_paths k.plain (part_of k.rollup)) → levels ≡ zip (level_paths k.plain (part_of k.rollup)) found → AreLevels w ks l levels
are-levels w ks k l found levels K e z =
    z ∙ ap (zip (level_paths k.plain (part_of k.rollup))) e ∙ zip-groups w l (level_paths k.plain (part_of k.rollup)) ∙ (λ i. map (level_on w l) (level_paths (K.plain i) (K.rollup i)))

pub all-paths : (ks : Keys) (k : LevelKeys) → AreKeys ks k → k.plain ++ rollup_paths (part_of k.rollup) ≡ key_paths (group_keys ks)
all-paths ks k K = λ i. K.plain i ++ rollup_paths (K.rollup i)
