-- What a run makes of groups, from one to the next.
use Rattle.std.proofs.Common.{◌≡◌, ℕ, zero, suc, ◌+◌, ◌<◌, refl, sym, ◌∙◌, ap, List, [], ◌∷◌, ◌++◌, length, drop, take, map, get_or, Option, Some, None, arith, drop-cons, add-one}
use Rattle.std.specs.Prelude.{option_map, sum, flat_map}
use Rattle.std.specs.List.{fold}
use Rattle.std.proofs.lemmas.List.{append_assoc, append-nil}
use Rattle.edm_values.specs.declared.Value.{Value}
use Rattle.edm_values.specs.Lists.{all_some}
use Rattle.edm_values.specs.Names.{Path}
use Rattle.apply_meaning.specs.Instances.{Instance}
use Rattle.apply_meaning.specs.Meaning.{Outcome, joined, keyed}

-- ---- lists joined

pub joined-none : (os : List Outcome) → joined (None ∷ os) ≡ None
joined-none os = refl

pub joined-some : (r : List Instance) (os : List Outcome) → joined (Some r ∷ os) ≡ option_map (λ rest. r ++ rest) (joined os)
joined-some r os = go (all_some os)
  where
    go : (o : Option (List (List Instance))) → option_map (λ ls. flat_map (λ l. l) ls) (option_map (λ ys. r ∷ ys) o) ≡ option_map (λ rest. r ++ rest) (option_map (λ ls. flat_map (λ l. l) ls) o)
    go None = refl
    go (Some ls) = refl

pub begun : (o : Outcome) → o ≡ option_map (λ rest. [] ++ rest) o
begun None = refl
begun (Some l) = refl

pub moved : (a r : List Instance) (o : Outcome) → option_map (λ rest. a ++ rest) (option_map (λ rest. r ++ rest) o) ≡ option_map (λ rest. (a ++ r) ++ rest) o
moved a r None = refl
moved a r (Some l) = ap Some (sym (append_assoc a r l))

pub ended : (a : List Instance) → option_map (λ rest. a ++ rest) (joined []) ≡ Some a
ended a = ap Some (append-nil a)

-- ---- the next element of a list that is gone through

pub next-map : {X Y : Type 0} (f : X → Y) (xs : List X) (i : ℕ) (d : X) → i < length xs → d ≡ get_or xs i d → map f (drop i xs) ≡ f d ∷ map f (drop (i + 1) xs)
next-map f xs i d h e =
    ap (map f) (drop-cons xs i d h)
    ∙ ap (λ x. f x ∷ map f (drop (suc i) xs)) (sym e)
    ∙ ap (λ n. f d ∷ map f (drop n xs)) (sym (add-one i))

pub next-flat : {X Y : Type 0} (f : X → List Y) (xs : List X) (i : ℕ) (d : X) → i < length xs → d ≡ get_or xs i d → flat_map f (drop i xs) ≡ f d ++ flat_map f (drop (i + 1) xs)
next-flat f xs i d h e =
    ap (flat_map f) (drop-cons xs i d h)
    ∙ ap (λ x. f x ++ flat_map f (drop (suc i) xs)) (sym e)
    ∙ ap (λ n. f d ++ flat_map f (drop n xs)) (sym (add-one i))

shift : (a : ℕ) (xs : List ℕ) → fold ◌+◌ a xs ≡ a + fold ◌+◌ 0 xs
shift a [] = omega arith
shift a (x ∷ xs) = let u = shift (a + x) xs in let v = shift (0 + x) xs in omega (arith, u, v)

pub sum-cons : (x : ℕ) (xs : List ℕ) → sum (x ∷ xs) ≡ x + sum xs
sum-cons x xs = shift (0 + x) xs ∙ (let e : 0 + x + fold ◌+◌ 0 xs ≡ x + fold ◌+◌ 0 xs = omega arith in e)

pub next-sum : {X : Type 0} (f : X → ℕ) (xs : List X) (i : ℕ) (d : X) → i < length xs → d ≡ get_or xs i d → sum (map f (drop i xs)) ≡ f d + sum (map f (drop (i + 1) xs))
next-sum f xs i d h e = ap sum (next-map f xs i d h e) ∙ sum-cons (f d) (map f (drop (i + 1) xs))

-- ---- columns of a key list

pub length-more : {X : Type 0} (xs : List X) (x : X) → length (xs ++ x ∷ []) ≡ length xs + 1
length-more [] x = refl
length-more (y ∷ xs) x = let u = length-more xs x in omega (arith, u)

pub next-length : {X : Type 0} (xs : List X) (i : ℕ) (d : X) → i < length xs → length (drop i xs) ≡ 1 + length (drop (i + 1) xs)
next-length xs i d h = ap length (drop-cons xs i d h) ∙ ap (λ n. suc (length (drop n xs))) (sym (add-one i)) ∙ (let e : suc (length (drop (i + 1) xs)) ≡ 1 + length (drop (i + 1) xs) = omega arith in e)

pub keyed-more : (ps : List Path) (vs : List Value) (n : ℕ) (p : Path) (v : Value) → n < length ps → n < length vs → p ≡ get_or ps n p → v ≡ get_or vs n v → take (n + 1) (keyed ps vs) ≡ take n (keyed ps vs) ++ (p, v) ∷ []
keyed-more [] vs n p v h k e f = absurd (omega arith)
keyed-more (q ∷ ps) [] n p v h k e f = absurd (omega arith)
keyed-more (q ∷ ps) (u ∷ vs) zero p v h k e f = λ i. (sym e i, sym f i) ∷ []
keyed-more (q ∷ ps) (u ∷ vs) (suc n) p v h k e f =
    ap (λ m. take m (keyed (q ∷ ps) (u ∷ vs))) (add-one (suc n))
    ∙ ap (λ xs. (q, u) ∷ xs) (ap (λ m. take m (keyed ps vs)) (sym (add-one n)) ∙ keyed-more ps vs n p v (omega arith) (omega arith) e f)
