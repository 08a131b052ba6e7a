-- Values that are read of items, where these are folded.
use Rattle.std.proofs.Common.{◌≡◌, ◌∙◌, ℕ, zero, suc, ◌+◌, ◌-◌, ◌<◌, ◌≤◌, arith, List, [], ◌∷◌, Option, Some, None, drop, length, map, get_or, refl, sym, ap, subst, take}
use Rattle.std.specs.Prelude.{IfSome, option_map, unwrap_or}
use denote.Ref.{Bor}
use Rattle.std.proofs.Math.Seq.{drop-cons}
use Rattle.std.proofs.lemmas.Option.{slice_get-get_or, slice_get-map}
use Rattle.edm_values.specs.declared.Value.{Value}
use Rattle.edm_values.specs.Values.{value_in}
use Rattle.edm_values.proofs.TopPlaces.{element-there}
use Rattle.row_frames.specs.Folded.{IsSlice}
use Rattle.row_frames.specs.Runs.{rows_from}
use Rattle.row_frames.specs.declared.tables.Pick.{Pick}
use Rattle.std.specs.List.{All}
use Rattle.std.proofs.lemmas.List.{get_or-map, length-map}
use Rattle.std.proofs.lemmas.List.Elements.{All-tail}
use Rattle.par_stages.specs.Placed.{placed}

-- what is read of items with their places is what is read of the items, with these places
pub placed-map : {X Y : Type 0} (f : X → Y) (n : ℕ) (xs : List X) → map (λ x. (f x.0, x.1)) (placed n xs) ≡ placed n (map f xs)
placed-map f n [] = refl
placed-map f n (x ∷ xs) = ap (λ l. (f x, n) ∷ l) (placed-map f (n + 1) xs)

-- as much is read as there are items
pub read-long : {X Y : Type 0} (f : X → Y) (xs : List X) (k : ℕ) → k < length xs → k < length (map f xs)
read-long f xs k lt = subst (λ n. k < n) (sym (length-map xs f)) lt

-- what holds of all that is read holds of what is read of each
pub all-read_of : {X Y : Type 0} (P : Y → Type 0) (f : X → Y) (xs : List X) → All P (map f xs) → (k : ℕ) (d : X) → k < length xs → P (f (get_or xs k d))
all-read_of P f xs h k d lt = subst P (get_or-map f xs k d (f d) lt) (h k (f d) (read-long f xs k lt))

-- what is read of an item stands at its place
pub read-there : {X Y : Type 0} (f : X → Y) (xs : List X) (k : ℕ) (x : X) → k < length xs → x ≡ get_or xs k x → f x ≡ get_or (map f xs) k (f x)
read-there f xs k x lt is = ap f is ∙ sym (get_or-map f xs k x (f x) lt)

-- two readings of items that agree on each item of a kind are the same of a list of these
pub read-same : {X Y : Type 0} (P : X → Type 0) (f g : X → Y) (xs : List X) → All P xs → ((x : X) → P x → f x ≡ g x) → map f xs ≡ map g xs
read-same P f g [] h e = refl
read-same P f g (x ∷ xs) h e = λ i. e x (h 0 x (omega arith)) i ∷ read-same P f g xs (All-tail P x xs h) e i

-- what stands in a list at the places of rows that stand one behind the other
pub slice-read : {A : Type 0} (g : A → Value) (list : List A) (a n : ℕ) → a + n ≤ length list → map (λ (x : Pick). value_in (map g list) x.row) (rows_from a n) ≡ map g (take n (drop a list))
slice-read g list a zero h = refl
slice-read g list a (suc n) h =
    let less : a < length list = omega (arith, h) in
    let d = (element-there list a less).0 in
    let head : value_in (map g list) a ≡ g (get_or list a d) = ap (λ o. unwrap_or o Value.Null) (slice_get-map g list a ∙ ap (option_map g) (slice_get-get_or list a d less)) in
    (λ i. head i ∷ slice-read g list (suc a) n (omega (arith, h)) i) ∙ ap (λ l. map g (take (suc n) l)) (sym (drop-cons list a d less))

-- the elements at the places of a run are what is read there
pub slice-given : {A : Type 0} (g : A → Value) (list : List A) (from to : ℕ) (read : List Value) (o : Option (Bor (List A))) → IfSome o (λ part. IsSlice list from to part.now)
    → read ≡ map (λ (x : Pick). value_in (map g list) x.row) (rows_from from (to - from)) → IfSome o (λ part. map g part.now ≡ read)
slice-given g list from to read None h e = tt
slice-given g list from to read (Some part) h e =
    let all : from + (to - from) ≤ length list = let a = h.order in let b = h.within in omega (arith, a, b) in
    ap (map g) h.elements ∙ sym (slice-read g list from (to - from) all) ∙ sym e
