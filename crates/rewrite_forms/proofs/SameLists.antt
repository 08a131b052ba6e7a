-- Lists that are equal element by element, compared from the front on.
use Rattle.std.proofs.Common.{◌≡◌, refl, sym, ◌∙◌, ap, ℕ, ◌+◌, ◌<◌, ◌≤◌, Bool, true, false, ◌&&◌, List, [], ◌∷◌, drop, get_or, length, map}
use Rattle.std.specs.Cmp.Lexicographic.{pointwise, unequal}
use Rattle.std.specs.Cmp.Derive.Mapped.{pointwise-map}
use Rattle.std.proofs.lemmas.List.{drop_more, drop_all}
use Rattle.apply_ast.specs.Trees.{Key, Keys, Pipe, Pipes, Step, pipe}
use Rattle.apply_ast.specs.Views.{keys_from, pipes_from}
use Rattle.rewrite_laws.specs.TreeEquality.{key_same, keys_same, pipe_same, pipes_same, step_same}

module _ {X : Type 0} (eq : X → X → Bool) (xs ys : List X) where
  -- whether the lists are equal hangs on the elements from a place on
  abbrev pub SameFrom : ℕ → Type 0
  SameFrom i = pointwise eq xs ys ≡ pointwise eq (drop i xs) (drop i ys)

  -- lists of different lengths are not equal
  pub same-long : (length xs ≡ length ys → ⊥) → false ≡ pointwise eq xs ys
  same-long h = sym (unequal eq xs ys h)

  -- all elements were compared
  pub same-end : (i : ℕ) → length xs ≤ i → length ys ≤ i → SameFrom i → true ≡ pointwise eq xs ys
  same-end i h k s = sym (s ∙ (λ j. pointwise eq (drop_all i xs h j) (drop_all i ys k j)))

  module _ (i : ℕ) (x y : X) (h : i < length xs) (is : x ≡ get_or xs i x) (k : i < length ys) (at : y ≡ get_or ys i y) (s : SameFrom i) where
    same-here : pointwise eq xs ys ≡ (eq x y && pointwise eq (drop (i + 1) xs) (drop (i + 1) ys))
    same-here = s ∙ (λ j. pointwise eq (drop_more xs i x h j) (drop_more ys i y k j)) ∙ (λ j. eq (sym is j) (sym at j) && pointwise eq (drop (i + 1) xs) (drop (i + 1) ys))

    -- the elements at the place are equal
    pub same-next : eq x y ≡ true → SameFrom (i + 1)
    same-next e = same-here ∙ ap (λ b. b && pointwise eq (drop (i + 1) xs) (drop (i + 1) ys)) e

    -- they are not
    pub same-stop : eq x y ≡ false → false ≡ pointwise eq xs ys
    same-stop e = sym (same-here ∙ ap (λ b. b && pointwise eq (drop (i + 1) xs) (drop (i + 1) ys)) e)

-- ---- pipelines, branches and keys are compared so

pipe-pointwise : (ss ts : List Step) → pipe_same (pipe ss) (pipe ts) ≡ pointwise step_same ss ts
pipe-pointwise [] [] = refl
pipe-pointwise [] (t ∷ ts) = refl
pipe-pointwise (s ∷ ss) [] = refl
pipe-pointwise (s ∷ ss) (t ∷ ts) = ap (λ b. step_same s t && b) (pipe-pointwise ss ts)

pipes-pointwise : (ps qs : List Pipe) → pipes_same (pipes_from ps) (pipes_from qs) ≡ pointwise pipe_same ps qs
pipes-pointwise [] [] = refl
pipes-pointwise [] (q ∷ qs) = refl
pipes-pointwise (p ∷ ps) [] = refl
pipes-pointwise (p ∷ ps) (q ∷ qs) = ap (λ b. pipe_same p q && b) (pipes-pointwise ps qs)

keys-pointwise : (ks ls : List Key) → keys_same (keys_from ks) (keys_from ls) ≡ pointwise key_same ks ls
keys-pointwise [] [] = refl
keys-pointwise [] (l ∷ ls) = refl
keys-pointwise (k ∷ ks) [] = refl
keys-pointwise (k ∷ ks) (l ∷ ls) = ap (λ b. key_same k l && b) (keys-pointwise ks ls)

pub pipe-same : {X : Type 0} (f : X → Step) (xs ys : List X) (p q : Pipe) → p ≡ pipe (map f xs) → q ≡ pipe (map f ys) → pointwise (λ x y. step_same (f x) (f y)) xs ys ≡ pipe_same p q
pipe-same f xs ys p q a b = sym ((λ i. pipe_same (a i) (b i)) ∙ pipe-pointwise (map f xs) (map f ys) ∙ pointwise-map f step_same xs ys)

pub branches-same : {X : Type 0} (f : X → Pipe) (xs ys : List X) (ps qs : Pipes) → ps ≡ pipes_from (map f xs) → qs ≡ pipes_from (map f ys) → pointwise (λ x y. pipe_same (f x) (f y)) xs ys ≡ pipes_same ps qs
branches-same f xs ys ps qs a b = sym ((λ i. pipes_same (a i) (b i)) ∙ pipes-pointwise (map f xs) (map f ys) ∙ pointwise-map f pipe_same xs ys)

pub keys-same : {X : Type 0} (f : X → Key) (xs ys : List X) (ks ls : Keys) → ks ≡ keys_from (map f xs) → ls ≡ keys_from (map f ys) → pointwise (λ x y. key_same (f x) (f y)) xs ys ≡ keys_same ks ls
keys-same f xs ys ks ls a b = sym ((λ i. keys_same (a i) (b i)) ∙ keys-pointwise (map f xs) (map f ys) ∙ pointwise-map f key_same xs ys)
