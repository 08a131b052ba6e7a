-- What the buffer keeps of a piece.
use Rattle.std.proofs.Common.{◌≡◌, ℕ, ◌+◌, ◌-◌, ◌<◌, ◌≤◌, ◌==◌, Bool, true, false, List, [], ◌++◌, length, take, min, nat_lt, refl, sym, ap, ◌∙◌, arith, ◌⊎◌, inl, inr, length-append}
use Rattle.std.specs.Prelude.{slice_index}
use Rattle.std.specs.Str.Lines.{strip_carriage_return}
use Rattle.std.proofs.lemmas.List.{length-take, take_all}
use Rattle.std.proofs.lemmas.Bool.{false≢true}
use Rattle.std.proofs.lemmas.Bool.Decides.{nat_tests}
use Rattle.std.proofs.Math.Bool.{or-true}
use Rattle.std.proofs.Math.Seq.{take-append-add}
use Rattle.line_stream.specs.Buffers.{Kept, Holds, kept_with, ended_line, nothing_kept}

-- a piece of which only a front fits
pub kept_with-over : (k : Kept) (piece : List ℕ) (count : ℕ) → length k.bytes ≤ k.limit + 1 → count ≡ min (length piece) (k.limit + 1 - length k.bytes) → count < length piece → kept_with k piece ≡ record { bytes = k.bytes ++ take count piece; limit = k.limit; is_over = true }
kept_with-over k piece count within e short =
    let room : k.limit + 1 ≡ length k.bytes + count = omega arith in
    let fits : take (k.limit + 1) (k.bytes ++ piece) ≡ k.bytes ++ take count piece =
    ap (λ n. take n (k.bytes ++ piece)) room ∙ take-append-add k.bytes piece count in
    let long : k.limit + 1 < length (k.bytes ++ piece) = omega (arith, length-append k.bytes piece) in
    let over : nat_lt (k.limit + 1) (length (k.bytes ++ piece)) ≡ true = grind (arith, nat_tests) in
    rw (fits, over, or-true k.is_over) refl

pub Holds-nothing : (limit : ℕ) → Holds (nothing_kept limit) []
Holds-nothing limit = record { fits = λ _. refl; over = λ e. absurd (false≢true e) }

Holds-with_by : (was now : Bool) (k : Kept) (piece more : List ℕ) → k.is_over ≡ was → nat_lt (k.limit + 1) (length (k.bytes ++ more)) ≡ now → Holds k piece → Holds (kept_with k more) (piece ++ more)
Holds-with_by false false k piece more was now h =
    let short : length (k.bytes ++ more) ≤ k.limit + 1 = grind (arith, nat_tests) in
    let same = h.fits was in
    rw (was, now) record {
      fits = λ _. take_all (k.limit + 1) (k.bytes ++ more) short ∙ ap (λ t. t ++ more) same;
      over = λ o. absurd (false≢true o);
    }
Holds-with_by false true k piece more was now h =
    let long : k.limit + 1 < length (k.bytes ++ more) = grind (arith, nat_tests) in
    let same = ap (λ t. length (t ++ more)) (h.fits was) in
    rw (was, now) record {
      fits = λ f. absurd (false≢true (sym f));
      over = λ _. (omega (arith, length-take (k.limit + 1) (k.bytes ++ more)), omega arith);
    }
Holds-with_by true now k piece more was e h =
    let over = h.over was in
    rw was record {
      fits = λ f. absurd (false≢true (sym f));
      over = λ _. (omega (arith, length-take (k.limit + 1) (k.bytes ++ more), length-append k.bytes more), omega (arith, length-append piece more));
    }

-- more of a piece
pub Holds-with : (k : Kept) (piece more : List ℕ) → Holds k piece → Holds (kept_with k more) (piece ++ more)
Holds-with k piece more h =
    Holds-with_by k.is_over (nat_lt (k.limit + 1) (length (k.bytes ++ more))) k piece more refl refl h

-- these bytes are the line, or both are longer than the limit
abbrev pub StandsFor : ℕ → List ℕ → List ℕ → Type 0
StandsFor limit bytes line = (bytes ≡ line) ⊎ ((limit < length bytes) × (limit < length line))

length-strip_by : (t : Bool) (piece : List ℕ) → (slice_index piece (length piece - 1) == 13) ≡ t → length piece ≤ length (strip_carriage_return piece) + 1
length-strip_by true piece e = rw e (omega (arith, length-take (length piece - 1) piece))
length-strip_by false piece e = rw e (omega arith)

-- without a CR it is shorter by one at most
length-strip : (piece : List ℕ) → length piece ≤ length (strip_carriage_return piece) + 1
length-strip piece =
    length-strip_by (slice_index piece (length piece - 1) == 13) piece refl

ended_by : (t : Bool) (k : Kept) (piece : List ℕ) → k.is_over ≡ t → Holds k piece → StandsFor k.limit (ended_line k) (strip_carriage_return piece)
ended_by true k piece e h =
    let over = h.over e in
    let short = length-strip piece in
    rw e (inr (omega arith, omega arith))
ended_by false k piece e h = rw e (inl (ap strip_carriage_return (h.fits e)))

-- what is kept of a piece that an LF ends
pub StandsFor-ended : (k : Kept) (piece : List ℕ) → Holds k piece → StandsFor k.limit (ended_line k) (strip_carriage_return piece)
StandsFor-ended k piece h = ended_by k.is_over k piece refl h

whole_by : (t : Bool) (k : Kept) (piece : List ℕ) → k.is_over ≡ t → Holds k piece → StandsFor k.limit k.bytes piece
whole_by true k piece e h = let over = h.over e in inr (omega arith, omega arith)
whole_by false k piece e h = inl (h.fits e)

-- what is kept of the last piece
pub StandsFor-whole : (k : Kept) (piece : List ℕ) → Holds k piece → StandsFor k.limit k.bytes piece
StandsFor-whole k piece h = whole_by k.is_over k piece refl h
