-- The columns of rows, out of lists that have their values.
use Rattle.std.proofs.Common.{◌≡◌, ◌∙◌, ℕ, zero, suc, ◌+◌, ◌<◌, List, [], ◌∷◌, ◌++◌, ap, refl, subst, sym, map, length, get_or, take, drop, add-one, arith}
use Rattle.std.specs.Prelude.{All}
use Rattle.std.proofs.lemmas.List.{get_or-map, get_or_default, length-map}
use Rattle.edm_values.specs.declared.Value.{Value}
use Rattle.edm_values.specs.declared.Value.TheVariants.{Null}
use Rattle.edm_values.specs.Names.{Path}
use Rattle.row_values.specs.Columns.{columns_at}

-- what a list of results has at the place of an element
value-at : {X : Type 0} (f : X → Value) (l : List X) (k : ℕ) (d : Value) (x : X) (rest : List X) → drop k l ≡ x ∷ rest → get_or (map f l) k d ≡ f x
value-at f [] zero d x rest e = cc
value-at f [] (suc k) d x rest e = cc
value-at f (y ∷ l) zero d x rest e = let s : y ≡ x = cc in ap f s
value-at f (y ∷ l) (suc k) d x rest e = value-at f l k d x rest e

next : (ps : List Path) (ls : List (List Value)) (k at : ℕ) (p : Path) (l : List Value) → k < length ps → k < length ls
    → columns_at (take (suc k) ps) ls at ≡ columns_at (take k ps) ls at ++ (get_or ps k p, get_or (get_or ls k l) at Null) ∷ []
next [] ls k at d e g h = absurd (omega (arith, g))
next (p ∷ ps) [] k at d e g h = absurd (omega (arith, h))
next (p ∷ ps) (l ∷ ls) zero at d e g h = refl
next (p ∷ ps) (l ∷ ls) (suc k) at d e g h = ap (λ cs. (p, get_or l at Null) ∷ cs) (next ps ls k at d e (omega (arith, g)) (omega (arith, h)))

-- the columns of one path more
pub columns-more : (ps : List Path) (ls : List (List Value)) (k at : ℕ) (p : Path) (l : List Value) → k < length ps → k < length ls
    → columns_at (take (k + 1) ps) ls at ≡ columns_at (take k ps) ls at ++ (get_or ps k p, get_or (get_or ls k l) at Null) ∷ []
columns-more ps ls k at p l g h = ap (λ n. columns_at (take n ps) ls at) (add-one k) ∙ next ps ls k at p l g h

-- the same of a path and a value that were read
pub column-read : {L : Type 0} (own : L → List Value) (ps : List Path) (lists : List L) (k at : ℕ) (p : Path) (m : L) (v : Value) → k < length ps → length lists ≡ length ps
    → All (λ l. at < length (own l)) lists → p ≡ get_or ps k p → m ≡ get_or lists k m → v ≡ get_or (own m) at v
    → columns_at (take k ps) (map own lists) at ++ (p, v) ∷ [] ≡ columns_at (take (k + 1) ps) (map own lists) at
column-read own ps lists k at p m v g n all e f h =
    let there : k < length lists = omega (arith, g, n) in
    let size = length-map lists own in
    let long : k < length (map own lists) = omega (arith, there, size) in
    let within : at < length (own m) = subst (λ l. at < length (own l)) (sym f) (all k m there) in
    let value : get_or (get_or (map own lists) k (own m)) at Null ≡ v =
    ap (λ l. get_or l at Null) (get_or-map own lists k m (own m) there ∙ ap own (sym f)) ∙ get_or_default (own m) at Null v within ∙ sym h in
    (λ i. columns_at (take k ps) (map own lists) at ++ (e i, sym value i) ∷ []) ∙ sym (columns-more ps (map own lists) k at p (own m) g long)

-- lists of the results of all elements go as far as these
pub lists-long : {L X R : Type 0} (own : L → List Value) (f : X → R → Value) (rows : List R) (k : ℕ) (ls : List L) (xs : List X) → k < length rows
    → map own ls ≡ map (λ x. map (f x) rows) xs → All (λ l. k < length (own l)) ls
lists-long own f rows k [] xs h e j l g = absurd (omega (arith, g))
lists-long own f rows k (m ∷ ls) [] h e j l g = absurd (cc)
lists-long own f rows k (m ∷ ls) (x ∷ xs) h e zero l g =
    let s : own m ≡ map (f x) rows = cc in
    let n : length (own m) ≡ length rows = ap length s ∙ length-map rows (f x) in
    omega (arith, n, h)
lists-long own f rows k (m ∷ ls) (x ∷ xs) h e (suc j) l g =
    let t : map own ls ≡ map (λ x. map (f x) rows) xs = cc in
    lists-long own f rows k ls xs h t j l (omega (arith, g))

-- each path with what its list has at the place of an element
pub columns-are : {X R : Type 0} (name : X → Path) (f : X → R → Value) (xs : List X) (rows : List R) (k : ℕ) (r : R) (rest : List R) → drop k rows ≡ r ∷ rest
    → columns_at (map name xs) (map (λ x. map (f x) rows) xs) k ≡ map (λ x. (name x, f x r)) xs
columns-are name f [] rows k r rest e = refl
columns-are name f (x ∷ xs) rows k r rest e = λ i. (name x, value-at (f x) rows k Null r rest e i) ∷ columns-are name f xs rows k r rest e i
