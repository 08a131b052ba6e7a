-- All custom aggregates of a model.
use Rattle.std.proofs.Common.{◌≡◌, refl, ◌∙◌, ap, List, [], ◌∷◌, length, map, take, arith}
use Rattle.std.proofs.lemmas.List.{length-map, take_all}

map-twice : {X Y Z : Type 0} (f : X → Y) (g : Y → Z) (xs : List X) → map (λ x. g (f x)) xs ≡ map g (map f xs)
map-twice f g [] = refl
map-twice f g (x ∷ xs) = ap (λ zs. g (f x) ∷ zs) (map-twice f g xs)

-- what was made of a list that has the first ids of another, and is as long, has all of them
pub whole-ids : {X Y Z W : Type 0} (f : X → Y) (g : Y → Z) (h : W → Z) (xs : List X) (ys : List Y) (ws : List W) → map f xs ≡ ys → map g ys ≡ take (length ys) (map h ws) → length ys ≡ length ws → map (λ x. g (f x)) xs ≡ map h ws
whole-ids f g h xs ys ws e i n =
    map-twice f g xs ∙ ap (map g) e ∙ i ∙ take_all (length ys) (map h ws) (let m : length (map h ws) ≡ length ws = length-map ws h in omega (arith, m, n))
