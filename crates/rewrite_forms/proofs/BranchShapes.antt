-- The shapes of branches, one after another.
use Rattle.std.proofs.Common.{◌≡◌, refl, sym, ◌∙◌, ap, ℕ, ◌+◌, ◌<◌, ◌≤◌, Bool, true, ◌&&◌, List, [], ◌∷◌, ◌++◌, Option, Some, None, drop, get_or, length, map, take}
use Rattle.std.specs.Prelude.{option_map}
use Rattle.std.specs.List.{list_all}
use Rattle.std.proofs.lemmas.List.{map-append, take_all}
use Rattle.std.proofs.lemmas.List.Folds.{list_all-append}
use Rattle.edm_values.specs.Lists.{all_some}
use Rattle.edm_values.proofs.OptionFacts.{mapped, none_or, some_value}
use Rattle.rewrite_forms.proofs.CutLists.{mapped-next, mapped-whole}

-- one answer more
some-more : {X : Type 0} (os : List (Option X)) (ys : List X) (y : X) → all_some os ≡ Some ys → all_some (os ++ Some y ∷ []) ≡ Some (ys ++ y ∷ [])
some-more [] ys y e = ap (λ l. Some (l ++ y ∷ [])) (some_value e)
some-more (None ∷ os) ys y e = none_or ys e
some-more (Some x ∷ os) ys y e = let p = mapped (λ l. x ∷ l) (all_some os) ys e in ap (option_map (λ l. x ∷ l)) (some-more os p.0 y p.1) ∙ ap (λ l. Some (l ++ y ∷ [])) p.2

-- an answer that is missing
some-missing : {X : Type 0} (os rest : List (Option X)) → all_some (os ++ None ∷ rest) ≡ None
some-missing [] rest = refl
some-missing (None ∷ os) rest = refl
some-missing (Some x ∷ os) rest = ap (option_map (λ l. x ∷ l)) (some-missing os rest)

module _ {X Y Z : Type 0} (f : X → Y) (g : Y → Option Z) (xs : List X) (i : ℕ) where
  -- all answers are there
  pub shapes-end : (zs : List Z) → length xs ≤ i → all_some (map g (map f (take i xs))) ≡ Some zs → Some zs ≡ all_some (map g (map f xs))
  shapes-end zs h e = sym (ap (λ l. all_some (map g (map f l))) (sym (take_all i xs h)) ∙ e)

  module _ (d : X) (h : i < length xs) (is : d ≡ get_or xs i d) where
    pub shapes-next : (zs : List Z) (z : Z) → all_some (map g (map f (take i xs))) ≡ Some zs → Some z ≡ g (f d) → all_some (map g (map f (take (i + 1) xs))) ≡ Some (zs ++ z ∷ [])
    shapes-next zs z e k =
        ap all_some (ap (map g) (mapped-next f xs i d h is) ∙ map-append g (map f (take i xs)) (f d ∷ []) ∙ ap (λ o. map g (map f (take i xs)) ++ o ∷ []) (sym k)) ∙ some-more (map g (map f (take i xs))) zs z e

    pub shapes-missing : None ≡ g (f d) → None ≡ all_some (map g (map f xs))
    shapes-missing k =
        sym (ap all_some (ap (map g) (mapped-whole f xs i d h is) ∙ map-append g (map f (take i xs)) (f d ∷ map f (drop (i + 1) xs)) ∙ ap (λ o. map g (map f (take i xs)) ++ o ∷ map g (map f (drop (i + 1) xs))) (sym k))
        ∙ some-missing (map g (map f (take i xs))) (map g (map f (drop (i + 1) xs))))

pub all-more : {X : Type 0} (test : X → Bool) (xs : List X) (x : X) → list_all test xs ≡ true → test x ≡ true → list_all test (xs ++ x ∷ []) ≡ true
all-more test xs x e h = list_all-append test xs (x ∷ []) ∙ (λ i. e i && (h i && true))
