-- Tests of the elements of lists and options, and what one test says of another.
use Rattle.std.proofs.Common.{◌≡◌, ℕ, zero, suc, ◌<◌, Bool, true, false, not, cond, List, [], ◌∷◌, Some, None, refl, sym, ◌∙◌, ap, arith}
use Rattle.std.specs.Prelude.{◌&&◌, ◌||◌, Option, is_none, if◌then◌else◌, filter}
use Rattle.std.specs.List.{Contains, list_all, list_any}
use Rattle.std.proofs.Math.Bool.{and-true}
use Rattle.std.proofs.lemmas.Bool.{false≢true, or_from, and_from}
use Rattle.std.proofs.lemmas.List.Folds.{list_all-append, list_all_at}
use Rattle.edm_values.specs.Lists.{places, is_some_and}
use Rattle.model_diagnosis.specs.Faults.{first_failed}
use Rattle.edm_values.proofs.EachLemmas.{and-left, and-right}

-- a conjunction fails where its second part fails under its first
pub and_fails : (a b : Bool) → (a ≡ true → b ≡ false) → (a && b) ≡ false
and_fails true b h = h refl
and_fails false b h = refl

-- neither of two holds where a disjunction with them fails
pub neither_holds : (a b c : Bool) → (a || b || c) ≡ false → (not b && not c) ≡ true
neither_holds true b c h = absurd (false≢true (sym h))
neither_holds false true c h = absurd (false≢true (sym h))
neither_holds false false true h = absurd (false≢true (sym h))
neither_holds false false false h = refl

-- ---- tests of a part

-- a test that fails is the first, and one that passes is not
pub fails_here : {T : Type 0} (passes : T → Bool) (t : T) (tests : List T) → passes t ≡ false → first_failed passes (t ∷ tests) ≡ Some t
fails_here passes t tests h = ap (λ b. cond (not b) (Some t) (first_failed passes tests)) h

pub passes_here : {T : Type 0} (passes : T → Bool) (t : T) (tests : List T) → passes t ≡ true → first_failed passes (t ∷ tests) ≡ first_failed passes tests
passes_here passes t tests h = ap (λ b. cond (not b) (Some t) (first_failed passes tests)) h

-- where all tests pass none is the first that fails
none_failed : {T : Type 0} (passes : T → Bool) → ((t : T) → passes t ≡ true) → (tests : List T) → first_failed passes tests ≡ None
none_failed passes h [] = refl
none_failed passes h (t ∷ tests) = passes_here passes t tests (h t) ∙ none_failed passes h tests

pub never_first : {T : Type 0} (passes : T → Bool) (tests : List T) (test : T) → ((t : T) → passes t ≡ true) → first_failed passes tests ≡ Some test → ⊥
never_first passes tests test h first = let none = none_failed passes h tests in cc

-- ---- lists

-- each element passes what all pass
pub passes_among : {X : Type 0} (p : X → Bool) (xs : List X) (x : X) → list_all p xs ≡ true → Contains xs x → p x ≡ true
passes_among p xs x all at = elim (p x) as (λ b. p x ≡ b → b ≡ true) [
  | true ↦ λ e. refl
  | false ↦ λ e. sym (list_all_at p xs at.0 x at.1 (ap p at.2 ∙ e)) ∙ all
] refl

-- no element passes a test that another one, which all pass, refutes
pub none_any : {X : Type 0} (p q : X → Bool) → ((x : X) → p x ≡ true → q x ≡ false) → (xs : List X) → list_all p xs ≡ true → list_any q xs ≡ false
none_any p q h [] a = refl
none_any p q h (x ∷ xs) a = or_from (q x) (list_any q xs) (h x (and-left (p x) (list_all p xs) a)) (none_any p q h xs (and-right (p x) (list_all p xs) a))

-- all elements pass a test that follows from one that all pass
pub all_weaker : {X : Type 0} (p q : X → Bool) → ((x : X) → p x ≡ true → q x ≡ true) → (xs : List X) → list_all p xs ≡ true → list_all q xs ≡ true
all_weaker p q h [] a = refl
all_weaker p q h (x ∷ xs) a = and_from (q x) (list_all q xs) (h x (and-left (p x) (list_all p xs) a)) (all_weaker p q h xs (and-right (p x) (list_all p xs) a))

-- all elements pass a test that those pass that a filter leaves out, and those that it keeps
pub all_filtered : {X : Type 0} (kept p : X → Bool) → ((x : X) → kept x ≡ false → p x ≡ true) → (xs : List X) → list_all p (filter kept xs) ≡ true → list_all p xs ≡ true
all_filtered kept p h [] a = refl
all_filtered kept p h (x ∷ xs) a =
    elim (kept x) as (λ b. kept x ≡ b → list_all p (cond b (x ∷ filter kept xs) (filter kept xs)) ≡ true → (p x && list_all p xs) ≡ true) [
      | true ↦ λ e g. and_from (p x) (list_all p xs) (and-left (p x) (list_all p (filter kept xs)) g) (all_filtered kept p h xs (and-right (p x) (list_all p (filter kept xs)) g))
      | false ↦ λ e g. and_from (p x) (list_all p xs) (h x e) (all_filtered kept p h xs g)
    ] refl a

-- each place passes
pub all_places : (p : ℕ → Bool) (n : ℕ) → ((k : ℕ) → k < n → p k ≡ true) → list_all p (places n) ≡ true
all_places p zero h = refl
all_places p (suc n) h =
    list_all-append p (places n) (n ∷ [])
    ∙ (ap (λ b. list_all p (places n) && b) (and-true (p n)) ∙ and_from (list_all p (places n)) (p n) (all_places p n (λ k below. h k (omega arith))) (h n (omega arith)))

-- ---- options

pub passes_not_none : {X : Type 0} (p : X → Bool) (o : Option X) → is_some_and p o ≡ true → is_none o ≡ false
passes_not_none p None h = absurd (false≢true h)
passes_not_none p (Some x) h = refl

-- what is there passes a test that follows from one that it passes
pub some_weaker : {X : Type 0} (p q : X → Bool) → ((x : X) → p x ≡ true → q x ≡ true) → (o : Option X) → is_some_and p o ≡ true → is_some_and q o ≡ true
some_weaker p q h None a = a
some_weaker p q h (Some x) a = h x a

-- what passes two tests passes each
pub passes_first : {X : Type 0} (p q : X → Bool) (o : Option X) → is_some_and (λ x. p x && q x) o ≡ true → is_some_and p o ≡ true
passes_first p q = some_weaker (λ x. p x && q x) p (λ x a. and-left (p x) (q x) a)

pub passes_second : {X : Type 0} (p q : X → Bool) (o : Option X) → is_some_and (λ x. p x && q x) o ≡ true → is_some_and q o ≡ true
passes_second p q = some_weaker (λ x. p x && q x) q (λ x a. and-right (p x) (q x) a)

-- of two tests the one that is chosen
pub first_chosen : {X : Type 0} (b : Bool) (p q : X → Bool) (o : Option X) → is_some_and (λ x. if b then p x else q x) o ≡ true → b ≡ true → is_some_and p o ≡ true
first_chosen true p q None h e = h
first_chosen true p q (Some x) h e = h
first_chosen false p q o h e = absurd (false≢true e)

pub second_chosen : {X : Type 0} (b : Bool) (p q : X → Bool) (o : Option X) → is_some_and (λ x. if b then p x else q x) o ≡ true → not b ≡ true → is_some_and q o ≡ true
second_chosen false p q None h e = h
second_chosen false p q (Some x) h e = h
second_chosen true p q o h e = absurd (false≢true e)
