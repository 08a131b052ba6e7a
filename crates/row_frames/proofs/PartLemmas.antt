-- Lists that are cut into parts.
use Rattle.std.proofs.Common.{◌≡◌, ◌∙◌, ℕ, List, [], ◌∷◌, ◌++◌, Ok, ap, arith, length, map, subst, sym}
use Rattle.std.specs.Prelude.{IfOk}
use Rattle.std.specs.Global.{Vec}
use Rattle.std.specs.List.{All, AllZip, flat_map}
use Rattle.std.specs.declared.result.Result.{Result}
use Rattle.std.proofs.lemmas.Grind.{flat_map-append}
use Rattle.std.proofs.lemmas.List.{append_assoc, append-nil, map-append}
use Rattle.std.proofs.lemmas.List.Elements.{All-cons, All-head, All-nil, All-tail}

pub All-first : {X : Type 0} (P : X → Type 0) (xs ys : List X) → All P (xs ++ ys) → All P xs
All-first P [] ys h = All-nil P
All-first P (x ∷ xs) ys h = All-cons P x xs (All-head P x (xs ++ ys) h) (All-first P xs ys (All-tail P x (xs ++ ys) h))

pub All-later : {X : Type 0} (P : X → Type 0) (xs ys : List X) → All P (xs ++ ys) → All P ys
All-later P [] ys h = h
All-later P (x ∷ xs) ys h = All-later P xs ys (All-tail P x (xs ++ ys) h)

each-of : {X C : Type 0} (P : X → Type 0) (rows : C → List X) (cs : List C) → All P (flat_map rows cs) → All (λ c. All P (rows c)) cs
each-of P rows [] h = All-nil (λ c. All P (rows c))
each-of P rows (c ∷ cs) h = All-cons (λ c. All P (rows c)) c cs (All-first P (rows c) (flat_map rows cs) h) (each-of P rows cs (All-later P (rows c) (flat_map rows cs) h))

-- what holds of all elements holds of those of each part
pub each-part : {X C : Type 0} (P : X → Type 0) (rows : C → List X) (cs : List C) (xs : List X) → flat_map rows cs ≡ xs → All P xs → All (λ c. All P (rows c)) cs
each-part P rows cs xs e h = each-of P rows cs (subst (All P) (sym e) h)

-- the parts so far, with one more, and the elements that are left
pub more-parts : {X C : Type 0} (rows : C → List X) (cs cs' : List C) (c : C) (rest behind whole : List X) → cs' ≡ cs ++ c ∷ [] → rows c ++ behind ≡ rest → flat_map rows cs ++ rest ≡ whole → flat_map rows cs' ++ behind ≡ whole
more-parts rows cs cs' c rest behind whole more both so-far =
    ap (λ l. flat_map rows l ++ behind) more
    ∙ ap (λ l. l ++ behind) (flat_map-append rows cs (c ∷ []) ∙ ap (λ l. flat_map rows cs ++ l) (append-nil (rows c)))
    ∙ append_assoc (flat_map rows cs) (rows c) behind
    ∙ ap (λ l. flat_map rows cs ++ l) both
    ∙ so-far

-- nothing is left
pub none-left : {X : Type 0} (found rest whole : List X) → length rest ≡ 0 → found ++ rest ≡ whole → found ≡ whole
none-left found [] whole none h = sym (append-nil found) ∙ h
none-left found (x ∷ rest) whole none h = absurd (omega (arith, none))

-- nothing is left to be read
pub read-all : {X Y : Type 0} (f : X → Y) (found : List Y) (rest : List X) (whole : List Y) → length rest ≡ 0 → found ++ map f rest ≡ whole → found ≡ whole
read-all f found [] whole none h = sym (append-nil found) ∙ h
read-all f found (x ∷ rest) whole none h = absurd (omega (arith, none))

module _ {X C T Y : Type 0} (E : Type 0) (rows : C → List X) (shown : List T → List Y) (none : shown [] ≡ []) (both : (a b : List T) → shown (a ++ b) ≡ shown a ++ shown b) (f : X → Y) (P : List X → List Y → Type 0) (told : (c : List X) (ys : List Y) → P c ys → ys ≡ map f c) where
  zipped : (cs : List C) (ls : List (Vec T)) → AllZip (λ c (r : Result (Vec T) E). IfOk r (λ v. P (rows c) (shown v.items))) cs (map Ok ls) → shown (flat_map (λ l. l.items) ls) ≡ map f (flat_map rows cs)
  zipped [] [] p = none
  zipped [] (l ∷ ls) p = absurd p
  zipped (c ∷ cs) [] p = absurd p
  zipped (c ∷ cs) (l ∷ ls) p =
      both l.items (flat_map (λ l. l.items) ls)
      ∙ (λ i. told (rows c) (shown l.items) p.0 i ++ zipped cs ls p.1 i)
      ∙ sym (map-append f (rows c) (flat_map rows cs))

  -- what is seen of parts, side by side, is seen of the whole
  pub parts-whole : (xs : List X) (cs : List C) (rs : List (Result (Vec T) E)) (ls : List (Vec T)) (all : List T) → flat_map rows cs ≡ xs → AllZip (λ c (r : Result (Vec T) E). IfOk r (λ v. P (rows c) (shown v.items))) cs rs
      → map Ok ls ≡ rs → all ≡ flat_map (λ l. l.items) ls → shown all ≡ map f xs
  parts-whole xs cs rs ls all whole h e m =
      ap shown m
      ∙ zipped cs ls (subst (λ rs. AllZip (λ c (r : Result (Vec T) E). IfOk r (λ v. P (rows c) (shown v.items))) cs rs) (sym e) h)
      ∙ ap (map f) whole
