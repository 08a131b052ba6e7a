-- The keys of groupings.
use Rattle.std.proofs.Common.{◌≡◌, refl, sym, ◌∙◌, ap, ℕ, ◌+◌, ◌<◌, ◌≤◌, Bool, true, false, ◌||◌, List, [], ◌∷◌, ◌++◌, Some, None, map, take, drop, length, get_or, cond}
use Rattle.std.specs.List.{list_any}
use Rattle.std.proofs.lemmas.List.Folds.{list_any-append}
use Rattle.std.proofs.Math.ListN.{drop_of_length-le}
use Rattle.apply_ast.specs.Trees.{Key, Keys}
use Rattle.apply_ast.specs.Views.{keys_from}
use Rattle.context_typing.specs.Grouping.{is_rollup_key, plain_of}
use Rattle.context_typing.specs.Shapes.{Shape}
use Rattle.context_typing.specs.Typing.{group_keys, is_risky, key_paths, plain_paths, rollup_part, rollup_paths}
use Rattle.context_typing.proofs.GroupFacts.{plain-append}
use Rattle.rewrite_forms.specs.GroupForms.{first_rollup, is_plain_risky, part_of}
use Rattle.rewrite_forms.proofs.CutLists.{dropped-next, mapped-next}

-- ---- the first key that is no plain path

-- what stands beside plain keys is that key
pub part-first : (ks : List Key) → rollup_part (group_keys (keys_from ks)) ≡ part_of (first_rollup ks)
part-first [] = refl
part-first (Key.Plain p ∷ ks) = part-first ks
part-first (Key.Rollup all ps ∷ ks) = refl
part-first (Key.Recursive h p T ∷ ks) = refl

find-next : (k : Key) (ks : List Key) (b : Bool) → is_rollup_key k ≡ b → first_rollup (k ∷ ks) ≡ cond b (Some k) (first_rollup ks)
find-next k ks b e = ap (λ b. cond b (Some k) (first_rollup ks)) e

module _ {X : Type 0} (f : X → Key) (xs : List X) (i : ℕ) (d : X) (h : i < length xs) (is : d ≡ get_or xs i d) (w : first_rollup (map f xs) ≡ first_rollup (map f (drop i xs))) where
  -- the next key is it
  pub rollup-here : is_rollup_key (f d) ≡ true → Some (f d) ≡ first_rollup (map f xs)
  rollup-here e = sym (w ∙ ap first_rollup (dropped-next f xs i d h is) ∙ find-next (f d) (map f (drop (i + 1) xs)) true e)

  -- the next key is plain
  pub rollup-past : is_rollup_key (f d) ≡ false → first_rollup (map f xs) ≡ first_rollup (map f (drop (i + 1) xs))
  rollup-past e = w ∙ ap first_rollup (dropped-next f xs i d h is) ∙ find-next (f d) (map f (drop (i + 1) xs)) false e

-- all keys are plain
pub rollup-none : {X : Type 0} (f : X → Key) (xs : List X) (i : ℕ) → length xs ≤ i → first_rollup (map f xs) ≡ first_rollup (map f (drop i xs)) → None ≡ first_rollup (map f xs)
rollup-none f xs i h w = sym (w ∙ ap (λ l. first_rollup (map f l)) (drop_of_length-le xs h))

-- ---- keys that may be past their range

or-none : (b : Bool) → (b || false) ≡ b
or-none true = refl
or-none false = refl

-- the plain ones among them
pub plain-risky : {X : Type 0} (S : Shape) (f : X → Key) (xs : List X) → list_any (λ k. is_plain_risky S (f k)) xs ≡ list_any (is_risky S) (plain_paths (keys_from (map f xs)))
plain-risky S f [] = refl
plain-risky S f (x ∷ xs) = one (f x) (keys_from (map f xs)) (plain-risky S f xs)
  where
    one : (k : Key) (ks : Keys) → list_any (λ k. is_plain_risky S (f k)) xs ≡ list_any (is_risky S) (plain_paths ks)
        → (is_plain_risky S k || list_any (λ k. is_plain_risky S (f k)) xs) ≡ list_any (is_risky S) (plain_paths (Keys.MoreKeys k ks))
    one (Key.Plain p) ks e = ap (λ b. is_risky S p || b) e
    one (Key.Rollup all ps) ks e = e
    one (Key.Recursive h p T) ks e = e

-- all paths of the keys
pub risky-keys : (S : Shape) (ks : List Key) (a : Bool) → a ≡ list_any (is_risky S) (plain_paths (keys_from ks))
    → (a || list_any (is_risky S) (rollup_paths (part_of (first_rollup ks)))) ≡ list_any (is_risky S) (key_paths (group_keys (keys_from ks)))
risky-keys S ks a e =
    (λ i. e i || list_any (is_risky S) (rollup_paths (sym (part-first ks) i)))
    ∙ sym (list_any-append (is_risky S) (plain_paths (keys_from ks)) (rollup_paths (rollup_part (group_keys (keys_from ks)))))

-- ---- copies of plain keys

plain-one : (k : Key) → plain_paths (keys_from (k ∷ [])) ≡ plain_of k
plain-one (Key.Plain p) = refl
plain-one (Key.Rollup all ps) = refl
plain-one (Key.Recursive h p T) = refl

-- one key more
pub plain-more : {X : Type 0} (f : X → Key) (xs : List X) (i : ℕ) (d : X) → i < length xs → d ≡ get_or xs i d
    → plain_paths (keys_from (map f (take (i + 1) xs))) ≡ plain_paths (keys_from (map f (take i xs))) ++ plain_of (f d)
plain-more f xs i d h is =
    ap (λ l. plain_paths (keys_from l)) (mapped-next f xs i d h is) ∙ plain-append (map f (take i xs)) (f d ∷ [])
    ∙ ap (λ l. plain_paths (keys_from (map f (take i xs))) ++ l) (plain-one (f d))
