-- Lists that correspond element by element.
use Rattle.std.proofs.Common.{◌≡◌, List, [], ◌∷◌, map, refl, Ok}
use Rattle.std.specs.Prelude.{IfOk}
use Rattle.std.specs.List.{AllZip}
use Rattle.std.specs.declared.result.Result.{Result}

-- results that all are there, each by one function of the elements
pub zipped-ok : {X T : Type 0} (E : Type 0) (f : X → T) (xs : List X) (vs : List T) → AllZip (λ x (r : Result T E). IfOk r (λ v. v ≡ f x)) xs (map Ok vs) → vs ≡ map f xs
zipped-ok E f [] [] p = refl
zipped-ok E f [] (v ∷ vs) p = absurd p
zipped-ok E f (x ∷ xs) [] p = absurd p
zipped-ok E f (x ∷ xs) (v ∷ vs) p = λ i. p.0 i ∷ zipped-ok E f xs vs p.1 i

-- the same of what is seen of them
pub zipped-shown : {X T Y : Type 0} (E : Type 0) (h : T → Y) (f : X → Y) (xs : List X) (vs : List T) → AllZip (λ x (r : Result T E). IfOk r (λ v. h v ≡ f x)) xs (map Ok vs) → map h vs ≡ map f xs
zipped-shown E h f [] [] p = refl
zipped-shown E h f [] (v ∷ vs) p = absurd p
zipped-shown E h f (x ∷ xs) [] p = absurd p
zipped-shown E h f (x ∷ xs) (v ∷ vs) p = λ i. p.0 i ∷ zipped-shown E h f xs vs p.1 i

-- what is seen of results, each by one function of the elements
pub zipped-seen : {X T Y : Type 0} (h : T → Y) (f : X → Y) (xs : List X) (vs : List T) → AllZip (λ x v. h v ≡ f x) xs vs → map h vs ≡ map f xs
zipped-seen h f [] [] p = refl
zipped-seen h f [] (v ∷ vs) p = absurd p
zipped-seen h f (x ∷ xs) [] p = absurd p
zipped-seen h f (x ∷ xs) (v ∷ vs) p = λ i. p.0 i ∷ zipped-seen h f xs vs p.1 i
