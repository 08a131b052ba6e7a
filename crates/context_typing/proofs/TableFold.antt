-- A table in which the first entry of each path stands, and what the entries of a list agree on.
use Rattle.std.proofs.Common.{◌≡◌, refl, sym, ◌∙◌, ap, ℕ, zero, suc, ◌<◌, Bool, true, false, not, cond, ◌&&◌, ◌||◌, List, [], ◌∷◌, ◌++◌, Option, Some, None, map, length, get_or, arith}
use Rattle.std.specs.Prelude.{filter, flat_map, fold, option_and_then, option_map, is_some}
use Rattle.std.specs.Bool.{then_some}
use Rattle.std.specs.List.{list_any, list_all}
use Rattle.std.proofs.lemmas.Bool.{and_parts, and_from, both_ways}
use Rattle.std.proofs.lemmas.List.{append-nil, append_assoc}
use Rattle.std.proofs.lemmas.List.Folds.{list_all-append, list_any-append, fold_stays, list_any_at}
use Rattle.std.proofs.lemmas.List.Sums.{fold-append}
use Rattle.edm_values.specs.Lists.{all_some, distinct}
use Rattle.edm_values.specs.Names.{Path}
use Rattle.edm_values.proofs.ListFacts.{all-each}
use Rattle.context_typing.specs.Merging.{add_entry}
use Rattle.context_typing.specs.Paths.{same_path, at_path, is_none_or}
use Rattle.context_typing.specs.Shapes.{Shape}
use Rattle.context_typing.proofs.PathLemmas.{same_paths}
use Rattle.context_typing.proofs.PathOrders.{find-at, none-there, any-at}

-- ---- lists

-- each element passes, by its place
pub all-places : {X : Type 0} (q : X → Bool) (xs : List X) → ((i : ℕ) (d : X) → i < length xs → q (get_or xs i d) ≡ true) → list_all q xs ≡ true
all-places q [] h = refl
all-places q (x ∷ xs) h = and_from _ _ (h 0 x (omega arith)) (all-places q xs (λ i d l. h (suc i) d (omega arith)))

pub all-place : {X : Type 0} (q : X → Bool) (xs : List X) (i : ℕ) (d : X) → list_all q xs ≡ true → i < length xs → q (get_or xs i d) ≡ true
all-place q [] i d h l = absurd (omega arith)
all-place q (x ∷ xs) zero d h l = (and_parts _ _ h).0
all-place q (x ∷ xs) (suc i) d h l = all-place q xs i d (and_parts _ _ h).1 (omega arith)

filter-twice : {X : Type 0} (p q r : X → Bool) (xs : List X) → ((x : X) → (q x && p x) ≡ r x) → filter p (filter q xs) ≡ filter r xs
filter-twice p q r [] h = refl
filter-twice p q r (x ∷ xs) h = go (q x) (h x) (filter-twice p q r xs h)
  where
    go : (a : Bool) → (a && p x) ≡ r x → filter p (filter q xs) ≡ filter r xs → filter p (cond a (x ∷ filter q xs) (filter q xs)) ≡ cond (r x) (x ∷ filter r xs) (filter r xs)
    go true e k = λ i. cond (e i) (x ∷ k i) (k i)
    go false e k = λ i. cond (e i) (x ∷ k i) (k i)

filter-true : {X : Type 0} (xs : List X) → filter (λ x. true) xs ≡ xs
filter-true [] = refl
filter-true (x ∷ xs) = ap (λ l. x ∷ l) (filter-true xs)

-- a fold over lists one after another
pub fold-flat : {X Y Z : Type 0} (f : Z → Y → Z) (g : X → List Y) (z : Z) (xs : List X) → fold (λ z x. fold f z (g x)) z xs ≡ fold f z (flat_map g xs)
fold-flat f g z [] = refl
fold-flat f g z (x ∷ xs) = fold-flat f g (fold f z (g x)) xs ∙ sym (fold-append f z (g x) (flat_map g xs))

pub all-flat : {X Y : Type 0} (q : Y → Bool) (g : X → List Y) (xs : List X) → ((i : ℕ) (d : X) → i < length xs → list_all q (g (get_or xs i d)) ≡ true) → list_all q (flat_map g xs) ≡ true
all-flat q g [] h = refl
all-flat q g (x ∷ xs) h = list_all-append q (g x) (flat_map g xs) ∙ and_from _ _ (h 0 x (omega arith)) (all-flat q g xs (λ i d l. h (suc i) d (omega arith)))

-- the answers of tests, where all pass
pub all_some-passed : {X Y : Type 0} (p : X → Bool) (f : X → Y) (xs : List X) → all_some (map (λ x. then_some (p x) (f x)) xs) ≡ then_some (list_all p xs) (map f xs)
all_some-passed p f [] = refl
all_some-passed p f (x ∷ xs) = go (p x) (all_some-passed p f xs)
  where
    more : (b : Bool) → option_map (λ l. f x ∷ l) (then_some b (map f xs)) ≡ then_some b (f x ∷ map f xs)
    more true = refl
    more false = refl

    go : (b : Bool) → all_some (map (λ x. then_some (p x) (f x)) xs) ≡ then_some (list_all p xs) (map f xs) → all_some (then_some b (f x) ∷ map (λ x. then_some (p x) (f x)) xs) ≡ then_some (b && list_all p xs) (f x ∷ map f xs)
    go true e = ap (option_map (λ l. f x ∷ l)) e ∙ more (list_all p xs)
    go false e = refl

-- ---- the table

module _ {X : Type 0} (path : X → Path) where
  abbrev there : List X → X → Bool
  there t x = list_any (λ d. same_path (path d) (path x)) t

  abbrev eq : X → X → Bool
  eq x y = same_path (path x) (path y)

  -- the table with those entries of a list whose paths are new
  abbrev extend : List X → List X → List X
  extend t [] = t
  extend t (x ∷ xs) = extend (elim (at_path path t (path x)) [ Some d ↦ t | None ↦ t ++ x ∷ [] ]) xs

  is-there : (t : List X) (x d : X) → at_path path t (path x) ≡ Some d → there t x ≡ true
  is-there t x d e = let f = find-at (λ y. same_path (path y) (path x)) t d e in list_any_at (λ y. same_path (path y) (path x)) t f.0 d f.1 (ap (λ y. same_path (path y) (path x)) (f.2 d) ∙ f.3)

  old : (t : List X) (x : X) → there t x ≡ true → (y : X) → (not (eq x y) && not (there t y)) ≡ not (there t y)
  old t x e y = go (eq x y) refl
    where
      and_not : (a : Bool) → a ≡ true → (false && not a) ≡ not a
      and_not true h = refl
      and_not false h = cc

      go : (b : Bool) → eq x y ≡ b → (not (eq x y) && not (there t y)) ≡ not (there t y)
      go true k = ap (λ b. not b && not (there t y)) k ∙ and_not (there t y) (ap (λ p. list_any (λ d. same_path (path d) p) t) (sym (same_paths (path x) (path y) k)) ∙ e)
      go false k = ap (λ b. not b && not (there t y)) k

  new : (t : List X) (x y : X) → (not (eq x y) && not (there t y)) ≡ not (there (t ++ x ∷ []) y)
  new t x y = go (eq x y) (there t y) ∙ ap not (sym (list_any-append (λ d. same_path (path d) (path y)) t (x ∷ [])))
    where
      go : (a b : Bool) → (not a && not b) ≡ not (b || (a || false))
      go true true = refl
      go true false = refl
      go false true = refl
      go false false = refl

  extend-is : (t xs : List X) → extend t xs ≡ t ++ filter (λ y. not (there t y)) (distinct eq xs)
  extend-is t [] = sym (append-nil t)
  extend-is t (x ∷ xs) = go (at_path path t (path x)) refl (extend-is t xs) (extend-is (t ++ x ∷ []) xs)
    where
      go : (o : Option X) → at_path path t (path x) ≡ o → extend t xs ≡ t ++ filter (λ y. not (there t y)) (distinct eq xs) → extend (t ++ x ∷ []) xs ≡ (t ++ x ∷ []) ++ filter (λ y. not (there (t ++ x ∷ []) y)) (distinct eq xs)
          → extend (elim o [ Some d ↦ t | None ↦ t ++ x ∷ [] ]) xs ≡ t ++ filter (λ y. not (there t y)) (x ∷ filter (λ y. not (eq x y)) (distinct eq xs))
      go (Some d) e same more =
          same ∙ ap (λ l. t ++ l)
          (sym (ap (λ b. cond (not b) (x ∷ filter (λ y. not (there t y)) (filter (λ y. not (eq x y)) (distinct eq xs))) (filter (λ y. not (there t y)) (filter (λ y. not (eq x y)) (distinct eq xs)))) (is-there t x d e)
          ∙ filter-twice (λ y. not (there t y)) (λ y. not (eq x y)) (λ y. not (there t y)) (distinct eq xs) (old t x (is-there t x d e))))
      go None e same more =
          more ∙ append_assoc t (x ∷ []) (filter (λ y. not (there (t ++ x ∷ []) y)) (distinct eq xs))
          ∙ ap (λ l. t ++ l)
          (sym (ap (λ b. cond (not b) (x ∷ filter (λ y. not (there t y)) (filter (λ y. not (eq x y)) (distinct eq xs))) (filter (λ y. not (there t y)) (filter (λ y. not (eq x y)) (distinct eq xs)))) (none-there (λ y. same_path (path y) (path x)) t e)
          ∙ ap (λ l. x ∷ l) (filter-twice (λ y. not (there t y)) (λ y. not (eq x y)) (λ y. not (there (t ++ x ∷ []) y)) (distinct eq xs) (new t x))))

  extend-none : (xs : List X) → extend [] xs ≡ distinct eq xs
  extend-none xs = extend-is [] xs ∙ filter-true (distinct eq xs)

  module _ (alike : X → X → Bool) (P M : X → Bool)
      (kept : (d x : X) → same_path (path d) (path x) ≡ true → alike d x ≡ true → P d ≡ true → P x ≡ true)
      (agreed : (d x : X) → M x ≡ true → same_path (path d) (path x) ≡ true → P d ≡ true → P x ≡ true → alike d x ≡ true) where
    abbrev passed : List X → Option (List X)
    passed t = then_some (list_all P t) t

    abbrev added : Option (List X) → List X → Option (List X)
    added o xs = fold (add_entry path alike) o xs

    gathered : (t xs : List X) → list_all M xs ≡ true → option_and_then passed (added (Some t) xs) ≡ then_some (list_all P t && list_all P xs) (extend t xs)
    gathered t [] h = go (list_all P t)
      where
        go : (b : Bool) → then_some b t ≡ then_some (b && true) t
        go true = refl
        go false = refl
    gathered t (x ∷ xs) h = let m = and_parts _ _ h in go m.0 (λ t. gathered t xs m.1) (at_path path t (path x)) refl
      where
        shift : (a b c : Bool) → ((a && (b && true)) && c) ≡ (a && (b && c))
        shift true true c = refl
        shift true false c = refl
        shift false b c = refl

        skip : (a b c : Bool) → (a ≡ true → b ≡ true) → (a && c) ≡ (a && (b && c))
        skip true b c k = ap (λ b. b && c) (sym (k refl))
        skip false b c k = refl

        refused : (a b c : Bool) → (a ≡ true → b ≡ true → ⊥) → None ≡ then_some (a && (b && c)) (extend t xs)
        refused true true c k = absurd (k refl refl)
        refused true false c k = refl
        refused false b c k = refl

        stuck : added None xs ≡ None
        stuck = fold_stays (add_entry path alike) None (λ x. refl) xs

        go : M x ≡ true → ((t : List X) → option_and_then passed (added (Some t) xs) ≡ then_some (list_all P t && list_all P xs) (extend t xs)) → (o : Option X) → at_path path t (path x) ≡ o
            → option_and_then passed (added (elim o [ Some d ↦ then_some (alike d x) t | None ↦ Some (t ++ x ∷ []) ]) xs) ≡ then_some (list_all P t && (P x && list_all P xs)) (extend (elim o [ Some d ↦ t | None ↦ t ++ x ∷ [] ]) xs)
        go m more None e = more (t ++ x ∷ []) ∙ ap (λ b. then_some b (extend (t ++ x ∷ []) xs)) (ap (λ b. b && list_all P xs) (list_all-append P t (x ∷ [])) ∙ shift (list_all P t) (P x) (list_all P xs))
        go m more (Some d) e = two (alike d x) refl
          where
            f : (i : ℕ) × (i < length t) × ((z : X) → get_or t i z ≡ d) × (same_path (path d) (path x) ≡ true)
            f = find-at (λ y. same_path (path y) (path x)) t d e

            first : list_all P t ≡ true → P d ≡ true
            first k = sym (ap P (f.2 d)) ∙ all-place P t f.0 d k f.1

            two : (b : Bool) → alike d x ≡ b → option_and_then passed (added (then_some (alike d x) t) xs) ≡ then_some (list_all P t && (P x && list_all P xs)) (extend t xs)
            two true k = ap (λ b. option_and_then passed (added (then_some b t) xs)) k ∙ more t ∙ ap (λ b. then_some b (extend t xs)) (skip (list_all P t) (P x) (list_all P xs) (λ a. kept d x f.3 k (first a)))
            two false k =
                ap (λ b. option_and_then passed (added (then_some b t) xs)) k ∙ ap (option_and_then passed) stuck
                ∙ refused (list_all P t) (P x) (list_all P xs) (λ a b. both_ways (alike d x) k (agreed d x m f.3 (first a) b))

    -- the entries of the table, each with what the branches have at its path, where all agree
    pub table-joined : {Y : Type 0} (f : X → Y) (xs : List X) → list_all M xs ≡ true → option_and_then (λ t. all_some (map (λ d. then_some (P d) (f d)) t)) (added (Some []) xs) ≡ then_some (list_all P xs) (map f (distinct eq xs))
    table-joined f xs h =
        outer (added (Some []) xs) ∙ ap (option_map (map f)) (gathered [] xs h) ∙ inner (list_all P xs) (extend [] xs) ∙ ap (λ l. then_some (list_all P xs) (map f l)) (extend-none xs)
      where
        inner : (b : Bool) (t : List X) → option_map (map f) (then_some b t) ≡ then_some b (map f t)
        inner true t = refl
        inner false t = refl

        outer : (o : Option (List X)) → option_and_then (λ t. all_some (map (λ d. then_some (P d) (f d)) t)) o ≡ option_map (map f) (option_and_then passed o)
        outer None = refl
        outer (Some t) = all_some-passed P f t ∙ sym (inner (list_all P t) t)

-- ---- what branches have at the paths of a table

module _ {X K : Type 0} (path : X → Path) (alike : X → X → Bool) (fits : X → K → Bool) (entries : Shape → List X) (look : Shape → Path → Option K) (Ss : List Shape)
    (moved : (d x : X) (k : K) → alike d x ≡ true → fits d k ≡ true → fits x k ≡ true)
    (met : (d x : X) (k : K) → fits d k ≡ true → fits x k ≡ true → alike d x ≡ true)
    (own : (S : Shape) (i : ℕ) (d : X) → i < length (entries S) → is_some (look S (path (get_or (entries S) i d))) ≡ true) where
  abbrev agrees : X → Bool
  agrees x = list_all (λ S. is_none_or (fits x) (look S (path x))) Ss

  abbrev owned : X → Bool
  owned x = list_any (λ S. is_some (look S (path x))) Ss

  one-moved : (d x : X) → alike d x ≡ true → (o : Option K) → is_none_or (fits d) o ≡ true → is_none_or (fits x) o ≡ true
  one-moved d x a None h = refl
  one-moved d x a (Some k) h = moved d x k a h

  agrees-moved : (d x : X) → same_path (path d) (path x) ≡ true → alike d x ≡ true → agrees d ≡ true → agrees x ≡ true
  agrees-moved d x p a h =
      all-each (λ S. is_none_or (fits d) (look S (path d))) (λ S. is_none_or (fits x) (look S (path x))) Ss h
      (λ S k. one-moved d x a (look S (path x)) (ap (λ p. is_none_or (fits d) (look S p)) (sym (same_paths (path d) (path x) p)) ∙ k))

  agrees-met : (d x : X) → owned x ≡ true → same_path (path d) (path x) ≡ true → agrees d ≡ true → agrees x ≡ true → alike d x ≡ true
  agrees-met d x o p h k =
      let a = any-at (λ S. is_some (look S (path x))) Ss o in
      let at-d : is_none_or (fits d) (look a.1 (path x)) ≡ true = ap (λ p. is_none_or (fits d) (look a.1 p)) (sym (same_paths (path d) (path x) p)) ∙ ap (λ S. is_none_or (fits d) (look S (path d))) (sym (a.3 a.1)) ∙ all-place (λ S. is_none_or (fits d) (look S (path d))) Ss a.0 a.1 h a.2 in
      let at-x : is_none_or (fits x) (look a.1 (path x)) ≡ true = ap (λ S. is_none_or (fits x) (look S (path x))) (sym (a.3 a.1)) ∙ all-place (λ S. is_none_or (fits x) (look S (path x))) Ss a.0 a.1 k a.2 in
      go (look a.1 (path x)) a.4 at-d at-x
    where
      go : (o : Option K) → is_some o ≡ true → is_none_or (fits d) o ≡ true → is_none_or (fits x) o ≡ true → alike d x ≡ true
      go None e h k = cc
      go (Some y) e h k = met d x y h k

  all-owned : list_all owned (flat_map entries Ss) ≡ true
  all-owned = all-flat owned entries Ss (λ j S l. all-places owned (entries (get_or Ss j S)) (λ i d k. list_any_at (λ S'. is_some (look S' (path (get_or (entries (get_or Ss j S)) i d)))) Ss j S l (own (get_or Ss j S) i d k)))

  -- the entries of the branches, each path once, where the branches agree
  pub branches-joined : {Y : Type 0} (f : X → Y) → option_and_then (λ t. all_some (map (λ d. then_some (agrees d) (f d)) t)) (fold (λ o S. fold (add_entry path alike) o (entries S)) (Some []) Ss)
      ≡ then_some (list_all agrees (flat_map entries Ss)) (map f (distinct (λ x y. same_path (path x) (path y)) (flat_map entries Ss)))
  branches-joined f =
      ap (option_and_then (λ t. all_some (map (λ d. then_some (agrees d) (f d)) t))) (fold-flat (add_entry path alike) entries (Some []) Ss)
      ∙ table-joined path alike agrees owned agrees-moved agrees-met f (flat_map entries Ss) all-owned
