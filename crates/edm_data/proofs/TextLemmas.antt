-- Texts that are kept side by side.
use Rattle.std.proofs.Common.{◌≡◌, ℕ, ◌+◌, ◌-◌, ◌≤◌, List, [], ◌∷◌, ◌++◌, length, take, drop, refl, ◌∙◌, ap, arith, length-append, length-drop}
use Rattle.std.specs.Prelude.{Result, Ok, Err, OnErr}
use Rattle.std.specs.List.{slice_range, AllByRecursion}
use Rattle.std.specs.Str.{IsUtf8}
use Rattle.std.proofs.lemmas.List.{map-append, take-append-le, drop-append-le, take_all}
use Rattle.std.proofs.Math.Seq.{drop-append_seam}
use Rattle.edm_data.specs.declared.texts.Span.{Span}
use Rattle.edm_data.specs.TextSpans.{text_in, texts_in, IsSpan, AreTexts}

-- a part of a list is that of a longer one
part_grown : (xs ys : List ℕ) (b e : ℕ) → b ≤ e → e ≤ length xs → slice_range (xs ++ ys) b e ≡ slice_range xs b e
part_grown xs ys b e ordered within =
    let first : b ≤ length xs = omega arith in
    let rest : e - b ≤ length (drop b xs) = rw length-drop (omega arith) in
    ap (take (e - b)) (drop-append-le b xs ys first) ∙ take-append-le (e - b) (drop b xs) ys rest

text_grown : (xs ys : List ℕ) (s : Span) → IsSpan xs s → text_in (xs ++ ys) s ≡ text_in xs s
text_grown xs ys s span = part_grown xs ys s.begin s.end span.ordered span.within

pub AreTexts-grown : (xs ys : List ℕ) (spans : List Span) → AreTexts xs spans → AreTexts (xs ++ ys) spans
AreTexts-grown xs ys [] all = tt
AreTexts-grown xs ys (s ∷ spans) all = (record { ordered = all.0.ordered; within = rw length-append (let e = all.0.within in omega arith); text = rw (text_grown xs ys s all.0) all.0.text }, AreTexts-grown xs ys spans all.1)

pub texts_grown : (xs ys : List ℕ) (spans : List Span) → AreTexts xs spans → texts_in (xs ++ ys) spans ≡ texts_in xs spans
texts_grown xs ys [] all = refl
texts_grown xs ys (s ∷ spans) all = rw (text_grown xs ys s all.0, texts_grown xs ys spans all.1) refl

-- the bytes that were put at the end
text_last : (xs ys : List ℕ) (n : ℕ) → n ≡ length xs → slice_range (xs ++ ys) n (n + length ys) ≡ ys
text_last xs ys n is =
    let size : (length xs + length ys) - length xs ≡ length ys = omega arith in
    rw (is, size, drop-append_seam xs ys) (take_all (length ys) ys (omega arith))

pub all_push : {X : Type 0} (P : X → Type 0) (xs : List X) (x : X) → AllByRecursion P xs → P x → AllByRecursion P (xs ++ x ∷ [])
all_push P [] x all here = (here, tt)
all_push P (y ∷ xs) x all here = (all.0, all_push P xs x all.1 here)

-- one text more
pub AreTexts-push : (xs ys : List ℕ) (spans : List Span) (b e : ℕ) → b ≡ length xs → e ≡ b + length ys → IsUtf8 ys → AreTexts xs spans → AreTexts (xs ++ ys) (spans ++ record { begin = b; end = e } ∷ [])
AreTexts-push xs ys spans b e begins ends utf8 all = all_push (IsSpan (xs ++ ys)) spans (record { begin = b; end = e }) (AreTexts-grown xs ys spans all) (record {
  ordered = omega arith;
  within = rw length-append (omega arith);
  text = rw (ends, text_last xs ys b begins) utf8;
})

pub texts_in-push : (xs ys : List ℕ) (spans : List Span) (b e : ℕ) → b ≡ length xs → e ≡ b + length ys → AreTexts xs spans → texts_in (xs ++ ys) (spans ++ record { begin = b; end = e } ∷ []) ≡ texts_in xs spans ++ ys ∷ []
texts_in-push xs ys spans b e begins ends all = rw (map-append (text_in (xs ++ ys)) spans (record { begin = b; end = e } ∷ []), texts_grown xs ys spans all, ends, text_last xs ys b begins) refl

pub OnErr-from : {T E : Type 0} (r : Result T E) (P : Type 0) → P → OnErr r P
OnErr-from (Ok x) P p = tt
OnErr-from (Err e) P p = p
