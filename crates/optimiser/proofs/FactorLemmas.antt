-- Steps that come out of lists, at each place, and the lists that are left.
use Rattle.std.proofs.Common.{◌≡◌, add-one, refl, sym, ◌∙◌, ap, arith, subst, ℕ, zero, suc, ◌+◌, ◌-◌, ◌<◌, ◌≤◌, true, false, List, [], ◌∷◌, ◌++◌, drop, take, get_or, length, map}
use Rattle.std.specs.Prelude.{if◌then◌else◌}
use Rattle.std.proofs.lemmas.List.{append_assoc, append-nil, drop_all, length-drop, map-append, take_all}
use Rattle.apply_ast.specs.Trees.{Pipe, Pipes, Step, pipe}
use Rattle.apply_ast.specs.Views.{pipes_from}
use Rattle.rewrite_laws.specs.Rewrites.{pipe_or_identity}
use Rattle.rewrite_forms.proofs.CutLists.{dropped-next, mapped-next}
use Rattle.walk_laws.specs.Factored.{all_begin, concat_of, factored_branches, factored_step, factored_steps, taken_out}

-- ---- the rest of a list

pub rest-whole : {X : Type 0} (k : ℕ) (xs : List X) → take (length xs - k) (drop k xs) ≡ drop k xs
rest-whole k xs = let n = length-drop k xs in take_all (length xs - k) (drop k xs) (omega (arith, n))

pub rest-none : {X : Type 0} (k : ℕ) (xs : List X) → length xs ≤ k → take (length xs - length xs) (drop (length xs) xs) ≡ drop k xs
rest-none k xs h =
    let l : length xs ≤ length xs = omega arith in
    rest-whole (length xs) xs ∙ drop_all (length xs) xs l ∙ sym (drop_all k xs h)

pub drop-map : {X Y : Type 0} (f : X → Y) (k : ℕ) (xs : List X) → map f (drop k xs) ≡ drop k (map f xs)
drop-map f zero xs = refl
drop-map f (suc k) [] = refl
drop-map f (suc k) (x ∷ xs) = drop-map f k xs

drop-suc : {X : Type 0} (k : ℕ) (xs : List X) → drop 1 (drop k xs) ≡ drop (suc k) xs
drop-suc zero xs = refl
drop-suc (suc k) [] = refl
drop-suc (suc k) (x ∷ xs) = drop-suc k xs

drop-one : {X : Type 0} (k : ℕ) (xs : List X) → drop 1 (drop k xs) ≡ drop (k + 1) xs
drop-one k xs = drop-suc k xs ∙ ap (λ n. drop n xs) (sym (add-one k))

-- ---- steps that come out

module _ (ls : List (List Step)) where
  drops-one : (k : ℕ) → map (drop 1) (map (drop k) ls) ≡ map (drop (k + 1)) ls
  drops-one k = go ls
    where
      go : (ls : List (List Step)) → map (drop 1) (map (drop k) ls) ≡ map (drop (k + 1)) ls
      go [] = refl
      go (l ∷ ls) = λ i. drop-one k l i ∷ go ls i

  drops-none : map (drop 0) ls ≡ ls
  drops-none = go ls
    where
      go : (ls : List (List Step)) → map (drop 0) ls ≡ ls
      go [] = refl
      go (l ∷ ls) = ap (λ r. l ∷ r) (go ls)

  module _ {X : Type 0} (f : X → Step) (xs : List X) where
    -- the steps before a place come out
    abbrev pub OutUpTo : ℕ → Type 0
    OutUpTo k = taken_out (map f xs) ls ≡ map f (take k xs) ++ taken_out (map f (drop k xs)) (map (drop k) ls)

    pub out-none : OutUpTo 0
    out-none = sym (ap (taken_out (map f xs)) drops-none)

    pub out-next : (k : ℕ) (x : X) → k < length xs → x ≡ get_or xs k x → all_begin (f x) (map (drop k) ls) ≡ true → OutUpTo k → OutUpTo (k + 1)
    out-next k x h is all so-far =
        so-far
        ∙ ap (λ l. map f (take k xs) ++ taken_out l (map (drop k) ls)) (dropped-next f xs k x h is)
        ∙ ap (λ z. map f (take k xs) ++ (if z then f x ∷ taken_out (map f (drop (k + 1) xs)) (map (drop 1) (map (drop k) ls)) else concat_of ((f x ∷ map f (drop (k + 1) xs)) ∷ map (drop k) ls) ∷ [])) all
        ∙ ap (λ r. map f (take k xs) ++ f x ∷ taken_out (map f (drop (k + 1) xs)) r) (drops-one k)
        ∙ sym (append_assoc (map f (take k xs)) (f x ∷ []) (taken_out (map f (drop (k + 1) xs)) (map (drop (k + 1)) ls)))
        ∙ ap (λ l. l ++ taken_out (map f (drop (k + 1) xs)) (map (drop (k + 1)) ls)) (sym (mapped-next f xs k x h is))

    abbrev pub OutAt : ℕ → Type 0
    OutAt k = taken_out (map f xs) ls ≡ map f (take k xs) ++ concat_of (map (drop k) (map f xs ∷ ls)) ∷ []

    pub out-stop : (k : ℕ) (x : X) → k < length xs → x ≡ get_or xs k x → all_begin (f x) (map (drop k) ls) ≡ false → OutUpTo k → OutAt k
    out-stop k x h is all so-far =
        so-far
        ∙ ap (λ l. map f (take k xs) ++ taken_out l (map (drop k) ls)) (dropped-next f xs k x h is)
        ∙ ap (λ z. map f (take k xs) ++ (if z then f x ∷ taken_out (map f (drop (k + 1) xs)) (map (drop 1) (map (drop k) ls)) else concat_of ((f x ∷ map f (drop (k + 1) xs)) ∷ map (drop k) ls) ∷ [])) all
        ∙ ap (λ l. map f (take k xs) ++ concat_of (l ∷ map (drop k) ls) ∷ []) (sym (dropped-next f xs k x h is) ∙ drop-map f k xs)

    pub out-end : (k : ℕ) → length xs ≤ k → k ≤ length xs → OutUpTo k → OutAt (length xs)
    out-end k h l so-far =
        let same : k ≡ length xs = omega (arith, h, l) in
        subst OutAt same (
        so-far
        ∙ ap (λ r. map f (take k xs) ++ taken_out (map f r) (map (drop k) ls)) (drop_all k xs h)
        ∙ ap (λ r. map f (take k xs) ++ concat_of (r ∷ map (drop k) ls) ∷ []) (sym (sym (drop-map f k xs) ∙ ap (map f) (drop_all k xs h)))
        )

-- ---- loops

-- a loop over a list has put one element more
pub made-more : {X Y Z : Type 0} (f : X → Z) (g : Y → Z) (xs : List Y) (ys : List X) (i : ℕ) (d : Y) (y : X) → i < length xs → d ≡ get_or xs i d → map f ys ≡ map g (take i xs) → f y ≡ g d → map f (ys ++ y ∷ []) ≡ map g (take (i + 1) xs)
made-more f g xs ys i d y h is so-far e = map-append f ys (y ∷ []) ∙ (λ k. so-far k ++ e k ∷ []) ∙ sym (mapped-next g xs i d h is)

maps : {X Y Z : Type 0} (f : Y → Z) (g : X → Y) (xs : List X) → map (λ x. f (g x)) xs ≡ map f (map g xs)
maps f g [] = refl
maps f g (x ∷ xs) = ap (λ l. f (g x) ∷ l) (maps f g xs)

-- the pipelines that are left of lists
pub left-all : {X : Type 0} (f : X → List Step) (xs : List X) (k i : ℕ) (ps : List Pipe) → length xs ≤ i → ps ≡ map (λ x. pipe_or_identity (drop k (f x))) (take i xs) → pipes_from ps ≡ pipes_from (map pipe_or_identity (map (drop k) (map f xs)))
left-all f xs k i ps h e =
    ap pipes_from (e ∙ ap (map (λ x. pipe_or_identity (drop k (f x)))) (take_all i xs h) ∙ maps (λ l. pipe_or_identity (drop k l)) f xs ∙ maps pipe_or_identity (drop k) (map f xs))

-- what comes out of branches
branches-factored : {X : Type 0} (f : X → Pipe) (xs : List X) → map (λ x. factored_steps (f x)) xs ≡ factored_branches (pipes_from (map f xs))
branches-factored f [] = refl
branches-factored f (x ∷ xs) = ap (λ l. factored_steps (f x) ∷ l) (branches-factored f xs)

pub branches-end : {X : Type 0} (f : X → Pipe) (xs : List X) (i : ℕ) (ls : List (List Step)) (ps : Pipes) → length xs ≤ i → ls ≡ map (λ x. factored_steps (f x)) (take i xs) → ps ≡ pipes_from (map f xs) → ls ≡ factored_branches ps
branches-end f xs i ls ps h e is = e ∙ ap (map (λ x. factored_steps (f x))) (take_all i xs h) ∙ branches-factored f xs ∙ sym (ap factored_branches is)

-- what comes out of steps
pub steps-more : {X : Type 0} (f : X → Step) (xs : List X) (i : ℕ) (d : X) (before behind' : List Step) → i < length xs → d ≡ get_or xs i d → behind' ≡ before ++ factored_step (f d)
    → before ++ factored_steps (pipe (map f (drop i xs))) ≡ behind' ++ factored_steps (pipe (map f (drop (i + 1) xs)))
steps-more f xs i d before behind' h is e =
    ap (λ l. before ++ factored_steps (pipe l)) (dropped-next f xs i d h is)
    ∙ sym (append_assoc before (factored_step (f d)) (factored_steps (pipe (map f (drop (i + 1) xs)))))
    ∙ ap (λ l. l ++ factored_steps (pipe (map f (drop (i + 1) xs)))) (sym e)

pub steps-end : {X : Type 0} (f : X → Step) (xs : List X) (i : ℕ) (made : List Step) → length xs ≤ i → made ++ factored_steps (pipe (map f (drop i xs))) ≡ made
steps-end f xs i made h = ap (λ l. made ++ factored_steps (pipe (map f l))) (drop_all i xs h) ∙ append-nil made
