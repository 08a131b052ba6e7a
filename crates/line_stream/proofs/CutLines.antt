-- Where bytes are cut into lines: at each LF, and nowhere else.
use Rattle.std.proofs.Common.{◌≡◌, ℕ, ◌+◌, ◌-◌, ◌<◌, ◌≤◌, ◌==◌, Bool, true, false, List, [], ◌∷◌, ◌++◌, length, take, drop, reverse, get_or, nat_lt, None, Some, refl, sym, ap, ◌∙◌, arith, cond, not, append_assoc, length-append, eqb-true, add-one, suc}
use Rattle.std.specs.Prelude.{filter, position}
use Rattle.std.specs.List.{slice_split, onto_first, position_or_len, prefix_len, suffix_len}
use Rattle.std.specs.Str.Lines.{lines_of_parts, strip_carriage_return}
use Rattle.std.proofs.lemmas.List.{reverse-append, get_or-take, length-take}
use Rattle.std.proofs.lemmas.List.Splits.{slice_split_at, slice_split_none}
use Rattle.std.proofs.lemmas.List.Elements.{filter-append}
use Rattle.std.proofs.lemmas.List.Quantifiers.{position-Some}
use Rattle.std.proofs.lemmas.List.Sums.{fails_before_first, suffix_len-le-length, suffix_len_is}
use Rattle.std.proofs.lemmas.Bool.Decides.{nat_tests}
use Rattle.std.proofs.Math.Seq.{take-append-add, split_at}
use Rattle.line_stream.specs.Lines.{is_shown, is_line_feed, shown, request_lines, ended_lines, through_last_line_feed}
use Rattle.line_stream.specs.Streams.{IsPiece, CutsAtLineFeeds}

-- ---- where the first LF is

-- what stands before the first LF has none
pub IsPiece-before : (bytes : List ℕ) (k : ℕ) → position is_line_feed bytes ≡ Some k → IsPiece (take k bytes)
IsPiece-before bytes k e = λ i d within.
    let first = position-Some is_line_feed bytes k d e in
    let below : i < k = omega (arith, length-take k bytes) in
    ap is_line_feed (get_or-take k bytes i d below) ∙ first.2 i below

none_before : (t : Bool) (xs : List ℕ) → nat_lt (position_or_len is_line_feed xs) (length xs) ≡ t → (cond t (Some (position_or_len is_line_feed xs)) None) ≡ None → length xs ≤ position_or_len is_line_feed xs
none_before true xs e h = absurd cc
none_before false xs e h = grind (arith, nat_tests)

-- bytes in which no LF is found have none
pub IsPiece-all : (bytes : List ℕ) → position is_line_feed bytes ≡ None → IsPiece bytes
IsPiece-all bytes e = λ i d within.
    let none = none_before (nat_lt (position_or_len is_line_feed bytes) (length bytes)) bytes refl e in
    fails_before_first is_line_feed bytes i d (omega arith)

-- bytes, cut at their first LF
pub cut_at_first : (bytes : List ℕ) (k : ℕ) → position is_line_feed bytes ≡ Some k → bytes ≡ take k bytes ++ 10 ∷ drop (k + 1) bytes
cut_at_first bytes k e =
    let first = position-Some is_line_feed bytes k 0 e in
    rw add-one (split_at bytes k 0 first.0 ∙ ap (λ b. take k bytes ++ b ∷ drop (suc k) bytes) (eqb-true (get_or bytes k 0) 10 first.1))

-- ---- all lines

-- a list of parts that is not empty
data Parts : List (List ℕ) → Type 0 where
  some_part : (x : List ℕ) (xs : List (List ℕ)) → Parts (x ∷ xs)

onto_first_parts : (x : ℕ) (parts : List (List ℕ)) → Parts (onto_first x parts)
onto_first_parts x [] = some_part _ _
onto_first_parts x (part ∷ parts) = some_part _ _

cut_parts : (bytes : List ℕ) → Parts (slice_split is_line_feed bytes)
cut_parts [] = some_part _ _
cut_parts (x ∷ xs) = elim (is_line_feed x) as (λ b. Parts (cond b ([] ∷ slice_split is_line_feed xs) (onto_first x (slice_split is_line_feed xs)))) [ true ↦ some_part _ _ | false ↦ onto_first_parts x (slice_split is_line_feed xs) ]

first_of_parts : (x : List ℕ) (parts : List (List ℕ)) → Parts parts → filter is_shown (lines_of_parts (x ∷ parts)) ≡ shown (strip_carriage_return x) ++ filter is_shown (lines_of_parts parts)
first_of_parts x [] p = elim p [ ]
first_of_parts x (y ∷ more) p =
    filter-append is_shown (strip_carriage_return x ∷ []) (lines_of_parts (y ∷ more))

pub request_lines-cut : CutsAtLineFeeds request_lines
request_lines-cut piece rest no_feed =
    ap (λ ps. filter is_shown (lines_of_parts ps)) (slice_split_at is_line_feed piece 10 rest no_feed refl) ∙ first_of_parts piece (slice_split is_line_feed rest) (cut_parts rest)

last_of_parts : (xs : List ℕ) → filter is_shown (lines_of_parts (xs ∷ [])) ≡ shown xs
last_of_parts [] = refl
last_of_parts (x ∷ xs) =
    let some : (length (x ∷ xs) == 0) ≡ false = grind (arith, nat_tests) in rw some refl

-- bytes with no LF are the last line
pub request_lines-last : (piece : List ℕ) → IsPiece piece → request_lines piece ≡ shown piece
request_lines-last piece no_feed =
    ap (λ ps. filter is_shown (lines_of_parts ps)) (slice_split_none is_line_feed piece no_feed) ∙ last_of_parts piece

-- ---- the lines that an LF ended

abbrev no_feed_at : ℕ → Bool
no_feed_at b = not (is_line_feed b)

prefix_len-stop : (xs ys : List ℕ) → prefix_len no_feed_at (xs ++ 10 ∷ ys) ≡ prefix_len no_feed_at xs
prefix_len-stop [] ys = refl
prefix_len-stop (x ∷ xs) ys = ap (λ n. cond (no_feed_at x) (1 + n) 0) (prefix_len-stop xs ys)

suffix_len-cut : (xs ys : List ℕ) → suffix_len no_feed_at (xs ++ 10 ∷ ys) ≡ suffix_len no_feed_at ys
suffix_len-cut xs ys =
    ap (prefix_len no_feed_at) (reverse-append xs (10 ∷ ys) ∙ ap (λ t. t ++ reverse xs) (reverse-append (10 ∷ []) ys) ∙ append_assoc (reverse ys) (10 ∷ []) (reverse xs)) ∙ prefix_len-stop (reverse ys) (reverse xs)

through-cut : (xs ys : List ℕ) → through_last_line_feed (xs ++ 10 ∷ ys) ≡ xs ++ 10 ∷ through_last_line_feed ys
through-cut xs ys =
    let kept = length ys - suffix_len no_feed_at ys in
    let size : length (xs ++ 10 ∷ ys) - suffix_len no_feed_at (xs ++ 10 ∷ ys) ≡ length (xs ++ 10 ∷ []) + kept =
    omega (arith, suffix_len-cut xs ys, suffix_len-le-length no_feed_at ys, length-append xs (10 ∷ ys), length-append xs (10 ∷ [])) in
    ap (λ n. take n (xs ++ 10 ∷ ys)) size ∙ ap (take (length (xs ++ 10 ∷ []) + kept)) (sym (append_assoc xs (10 ∷ []) ys)) ∙ take-append-add (xs ++ 10 ∷ []) ys kept ∙ append_assoc xs (10 ∷ []) (take kept ys)

pub ended_lines-cut : CutsAtLineFeeds ended_lines
ended_lines-cut piece rest no_feed =
    ap request_lines (through-cut piece rest) ∙ request_lines-cut piece (through_last_line_feed rest) no_feed

-- in bytes with no LF no line is ended
pub ended_lines-last : (piece : List ℕ) → IsPiece piece → ended_lines piece ≡ []
ended_lines-last piece no_feed =
    let all = suffix_len_is no_feed_at piece 0 0 (omega arith) (λ k _ within. ap not (no_feed k 0 within)) (λ h. absurd (omega arith)) in
    let none : length piece - suffix_len no_feed_at piece ≡ 0 = omega arith in
    ap (λ n. request_lines (take n piece)) none
