-- Lists that are made one after the other, each of which may be refused.
use Rattle.std.proofs.Common.{◌≡◌, ℕ, ◌+◌, ◌<◌, ◌≤◌, refl, sym, ◌∙◌, ap, Err, List, [], ◌∷◌, ◌++◌, length, drop, map, get_or, Option, Some, None}
use Rattle.std.specs.Prelude.{option_map}
use Rattle.std.specs.Global.{Vec}
use Rattle.std.proofs.Math.ListN.{drop_of_length-le}
use Rattle.std.proofs.lemmas.List.{append-nil, append_assoc, length-map}
use Rattle.edm_values.specs.declared.refusals.Refused.{Refused}
use Rattle.edm_values.specs.declared.refusals.Refused.TheVariants.{Range, Memory}
use Rattle.edm_values.specs.Lists.{all_some}
use Rattle.edm_values.proofs.SearchFacts.{all_some-map}
use Rattle.edm_values.specs.Refusals.{Returns}
use Rattle.apply_meaning.specs.Instances.{Instance}
use Rattle.apply_meaning.specs.Meaning.{Outcome}
use Rattle.apply_meaning.specs.Running.{Gives}
use Rattle.step_run.proofs.GroupLemmas.{next-map}

-- several lists, refused where one of them is
abbrev pub Lists : Type 0
Lists = Option (List (List Instance))

-- ---- from one list to the next

pub lists-begun : (o : Lists) → o ≡ option_map (λ rest. [] ++ rest) o
lists-begun None = refl
lists-begun (Some ls) = refl

one-more : (a : List (List Instance)) (r : List Instance) (o : Lists) → option_map (λ rest. a ++ rest) (option_map (λ ls. r ∷ ls) o) ≡ option_map (λ rest. (a ++ r ∷ []) ++ rest) o
one-more a r None = refl
one-more a r (Some ls) = ap Some (sym (append_assoc a (r ∷ []) ls))

pub next-list : {X : Type 0} (f : X → Outcome) (xs : List X) (i : ℕ) (d : X) (a : List (List Instance)) (o : Lists) (r : List Instance) → i < length xs → d ≡ get_or xs i d
    → o ≡ option_map (λ rest. a ++ rest) (all_some (map f (drop i xs))) → f d ≡ Some r → o ≡ option_map (λ rest. (a ++ r ∷ []) ++ rest) (all_some (map f (drop (i + 1) xs)))
next-list f xs i d a o r h e total m =
    let rest = map f (drop (i + 1) xs) in
    total
    ∙ ap (λ os. option_map (λ rest. a ++ rest) (all_some os)) (next-map f xs i d h e ∙ ap (λ y. y ∷ rest) m)
    ∙ one-more a r (all_some rest)

pub next-list_refused : {X : Type 0} (f : X → Outcome) (xs : List X) (i : ℕ) (d : X) (a : List (List Instance)) (o : Lists) → i < length xs → d ≡ get_or xs i d
    → o ≡ option_map (λ rest. a ++ rest) (all_some (map f (drop i xs))) → f d ≡ None → o ≡ None
next-list_refused f xs i d a o h e total m =
    total ∙ ap (λ os. option_map (λ rest. a ++ rest) (all_some os)) (next-map f xs i d h e ∙ ap (λ y. y ∷ map f (drop (i + 1) xs)) m)

pub last-list : {X : Type 0} (f : X → Outcome) (xs : List X) (i : ℕ) (a : List (List Instance)) (o : Lists) → length xs ≤ i → o ≡ option_map (λ rest. a ++ rest) (all_some (map f (drop i xs))) → o ≡ Some a
last-list f xs i a o h total = total ∙ ap (λ ys. option_map (λ rest. a ++ rest) (all_some (map f ys))) (drop_of_length-le xs h) ∙ ap Some (append-nil a)

-- ---- what several runs returned

-- several runs are refused so, where it is known what all of them give
abbrev pub AreRefused : Refused → Lists → Type 0
AreRefused e all = Returns (λ (v : Vec (Vec Instance)). all ≡ Some (map (λ l. l.items) v.items)) (all ≡ None) (Err e)

-- a refusal of one run is one of all
pub gives-all_err : (e : Refused) (m : Outcome) (all : Lists) → Gives (Err e) m → (m ≡ None → all ≡ None) → AreRefused e all
gives-all_err Range m all h k = k h
gives-all_err Memory m all h k = tt

-- and of the lists one after the other
pub joined-err : (e : Refused) (all : Option (List (List Instance))) (f : List (List Instance) → List Instance) (m : Outcome) → m ≡ option_map f all → AreRefused e all → Gives (Err e) m
joined-err Range all f m j h = j ∙ ap (option_map f) h
joined-err Memory all f m j h = tt

-- one list for each
pub all-long : {X : Type 0} (f : X → Outcome) (xs : List X) (ls : List (List Instance)) → all_some (map f xs) ≡ Some ls → length ls ≡ length xs
all-long {X = X} f xs ls h =
    let of_list : List Instance → ℕ = λ l. 0 in
    let of_place : X → ℕ = λ x. 0 in
    sym (length-map ls of_list) ∙ ap length (all_some-map f of_list of_place (λ x l e. refl) xs ls h) ∙ length-map xs of_place
