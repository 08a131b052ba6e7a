-- Bytes of a sink or a source that grow, or are taken, twice.
use Rattle.std.proofs.Common.{ℕ, ◌+◌, ◌-◌, ◌++◌, List, length, take, drop, None, Some, ap, sym, ◌∙◌, append_assoc, Ok, Err, OnErr}
use Rattle.std.proofs.lemmas.List.{take_rest, take-append-drop}
use Rattle.std.proofs.Math.Seq.{take-add}
use Rattle.std.proofs.KnownBytes.{Appends-nil, Appends-trans}
use Rattle.std.specs.declared.option.Option.{Option}
use Rattle.std.specs.declared.result.Result.{Result}
use Rattle.std.specs.Io.KnownBytes.{Appends, Keeps}
use Rattle.line_stream.specs.Outputs.{WritesFront}

-- what was written stays so where nothing more is
Appends-kept : (a b c : Option (List ℕ)) (xs : List ℕ) → Appends a b xs → Keeps b c → Appends a c xs
Appends-kept None b c xs h k = tt
Appends-kept (Some s) None c xs h k = absurd h
Appends-kept (Some s) (Some t) None xs h k = absurd k
Appends-kept (Some s) (Some t) (Some u) xs h k = k ∙ h

-- a front of the bytes was written, and then a front of the others
pub Appends-take : (a b c : Option (List ℕ)) (xs : List ℕ) (at n : ℕ) → Appends a b (take at xs) → Appends b c (take n (take (length xs - at) (drop at xs))) → Appends a c (take (at + n) xs)
Appends-take a b c xs at n h k =
    rw (take-add at n xs) (Appends-trans a b c _ _ h (rw (take_rest xs at) at k))

-- a front of the bytes was written, and then nothing
pub WritesFront-take : (a b c : Option (List ℕ)) (xs : List ℕ) (at : ℕ) → Appends a b (take at xs) → Keeps b c → WritesFront xs a c
WritesFront-take a b c xs at h k = record {
  written = take at xs;
  lost = drop at xs;
  appended = Appends-kept a b c (take at xs) h k;
  front = sym (take-append-drop at xs);
}

pub ruleset appends = (Appends-nil, Appends-take, WritesFront-take)

-- ---- bytes in two parts, one written after the other

-- a front of the first part was written
pub front-first : (a b : Option (List ℕ)) (first second : List ℕ) → WritesFront first a b → WritesFront (first ++ second) a b
front-first a b first second h = record {
  written = h.written;
  lost = h.lost ++ second;
  appended = h.appended;
  front = ap (λ t. t ++ second) h.front ∙ append_assoc h.written h.lost second;
}

-- the first part was written, and a front of the second
pub front-second : (a b c : Option (List ℕ)) (first second : List ℕ) → Appends a b first → WritesFront second b c → WritesFront (first ++ second) a c
front-second a b c first second g h = record {
  written = first ++ h.written;
  lost = h.lost;
  appended = Appends-trans a b c first h.written g h.appended;
  front = ap (λ t. first ++ t) h.front ∙ sym (append_assoc first h.written h.lost);
}

pub OnErr-always : {T E : Type 0} (result : Result T E) {P : Type 0} → P → OnErr result P
OnErr-always (Ok x) h = tt
OnErr-always (Err e) h = h
