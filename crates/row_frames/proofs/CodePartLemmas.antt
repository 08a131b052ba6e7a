-- Numbers in place of values, of parts of a list.
use Rattle.std.proofs.Common.{◌≡◌, ◌<◌, ℕ, zero, suc, List, [], ◌∷◌, ◌++◌, Option, Some, None, ap, arith, get_or, map, refl, subst, sym}
use Rattle.std.specs.Prelude.{IfOk, IfSome, Ok, Err, slice_get}
use Rattle.std.specs.Global.{Vec}
use Rattle.std.specs.List.{AllZip, flat_map}
use Rattle.std.specs.declared.result.Result.{Result}
use Rattle.std.proofs.lemmas.List.Elements.{All-append, All-nil}
use Rattle.row_frames.specs.CodeParts.{AreAllCodes, AreCodesOf, MadeCodes}
use Rattle.row_frames.specs.declared.tables.Pick.{Pick}
use Rattle.value_codes.specs.Above.{AreCoded}

module _ {X : Type 0} (R : X → ℕ → Type 0) where
  coded-none : AreCoded R [] []
  coded-none = record { size = refl; each = λ k x is. absurd (cc) }

  coded-one : (x : X) (xs : List X) (c : ℕ) (cs : List ℕ) → R x c → AreCoded R xs cs → AreCoded R (x ∷ xs) (c ∷ cs)
  coded-one x xs c cs here coded = record { size = ap suc coded.size; each = go }
    where
      go : (k : ℕ) (y : X) → slice_get (x ∷ xs) k ≡ Some y → R y (get_or (c ∷ cs) k 0)
      go zero y is = let e : x ≡ y = cc in subst (λ z. R z c) e here
      go (suc k) y is = coded.each k y is

  coded-rest : (x : X) (xs : List X) (c : ℕ) (cs : List ℕ) → AreCoded R (x ∷ xs) (c ∷ cs) → AreCoded R xs cs
  coded-rest x xs c cs coded = record { size = let e = coded.size in omega (arith, e); each = λ k y is. coded.each (suc k) y is }

  -- the numbers of two lists, one behind the other
  pub coded-both : (xs ys : List X) (ns ms : List ℕ) → AreCoded R xs ns → AreCoded R ys ms → AreCoded R (xs ++ ys) (ns ++ ms)
  coded-both [] ys [] ms h k = k
  coded-both [] ys (n ∷ ns) ms h k = let e = h.size in absurd (omega (arith, e))
  coded-both (x ∷ xs) ys [] ms h k = let e = h.size in absurd (omega (arith, e))
  coded-both (x ∷ xs) ys (n ∷ ns) ms h k = coded-one x (xs ++ ys) n (ns ++ ms) (h.each 0 x refl) (coded-both xs ys ns ms (coded-rest x xs n ns h) k)

module _ {C : Type 0} (E : Type 0) (R : Pick → ℕ → Type 0) (bound : ℕ) (rows : C → List Pick) where
  zipped : (cs : List C) (ls : List (Vec ℕ)) → AllZip (λ c (r : Result (Option (Vec ℕ)) E). MadeCodes R bound (rows c) r) cs (map (λ l. Ok (Some l)) ls) → AreCodesOf R bound (flat_map rows cs) (flat_map (λ l. l.items) ls)
  zipped [] [] p = record { coded = coded-none R; below = All-nil (λ c. c < bound) }
  zipped [] (l ∷ ls) p = absurd p
  zipped (c ∷ cs) [] p = absurd p
  zipped (c ∷ cs) (l ∷ ls) p =
      let rest = zipped cs ls p.1 in
      record {
        coded = coded-both R (rows c) (flat_map rows cs) l.items (flat_map (λ l. l.items) ls) p.0.coded rest.coded;
        below = All-append (λ c. c < bound) l.items (flat_map (λ l. l.items) ls) p.0.below rest.below;
      }

  -- the numbers of all parts are those of the whole
  pub codes-whole : (xs : List Pick) (cs : List C) (rs : List (Result (Option (Vec ℕ)) E)) (r : Result (Option (Vec ℕ)) E) → flat_map rows cs ≡ xs → AllZip (λ c (r : Result (Option (Vec ℕ)) E). MadeCodes R bound (rows c) r) cs rs
      → IfOk r (λ o. IfSome o (λ all. AreAllCodes rs all.items)) → MadeCodes R bound xs r
  codes-whole xs cs rs (Err e) whole each all = tt
  codes-whole xs cs rs (Ok None) whole each all = tt
  codes-whole xs cs rs (Ok (Some v)) whole each all =
      subst (λ l. AreCodesOf R bound xs l) (sym all.2)
      (subst (λ ys. AreCodesOf R bound ys (flat_map (λ l. l.items) all.0)) whole
      (zipped cs all.0 (subst (λ rs. AllZip (λ c (r : Result (Option (Vec ℕ)) E). MadeCodes R bound (rows c) r) cs rs) (sym all.1) each)))
