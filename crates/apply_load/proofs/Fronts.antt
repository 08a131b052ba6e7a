-- The front of a file, read piece by piece.
use Rattle.std.proofs.Common.{◌≡◌, ℕ, ◌+◌, ◌<◌, ◌≤◌, List, [], ◌++◌, length, take, drop, refl, sym, ap, ap₂, subst, ◌∙◌, arith, length-append, None, Some, IsSome, Ok, Err, Result, IfOk, length-drop}
use Rattle.std.specs.Io.{ReadsAtMost}
use Rattle.std.specs.declared.option.Option.{Option}
use Rattle.std.proofs.lemmas.List.{take_all, length-take-le, take-append-le}
use Rattle.std.proofs.Math.Seq.{take-add}
use Rattle.apply_io.specs.Files.{Files, content, told_content, KeepsFiles, GivesFrom, GivesBytes, ReadsFile}
use Rattle.apply_load.specs.Transfers.{IsFront, IsPart, IsRead}

pub kept_files : (a b : Option Files) (files : Files) → KeepsFiles a b → a ≡ Some files → b ≡ Some files
kept_files None b files keeps e = cc
kept_files (Some other) b files keeps e = keeps ∙ e

gives_part : (found : Option (List ℕ)) (at n : ℕ) (buf : List ℕ) → 0 < length buf → GivesFrom found at n buf → (file : List ℕ) × (found ≡ Some file) × (take n buf ≡ take (length (take n buf)) (drop at file)) × (length (take n buf) ≤ length (drop at file)) × (length (take n buf) ≡ 0 → length file ≤ at)
gives_part None at n buf some h = absurd (omega (arith, h))
gives_part (Some file) at n buf some h =
    let size : length (take n buf) ≡ n = ap length h.0 ∙ length-take-le n (drop at file) h.1 in
    (file, refl, h.0 ∙ ap (λ k. take k (drop at file)) (sym size), omega (arith, size, h.1), λ z. h.2 (omega (arith, size)) some)

pub IsPart-read : (told : Option Files) (name : List ℕ) (at n : ℕ) (buf : List ℕ) → 0 < length buf → GivesBytes told name at n buf → IsPart told name at (take n buf)
IsPart-read told name at n buf some h = record {
  part = λ files e. gives_part (content files name) at n buf some (h.bytes files e);
}

pub IsFront-nil : (told : Option Files) (name : List ℕ) → IsFront told name []
IsFront-nil told name = record {
  front = λ files file e f. (refl, omega arith);
  found = λ files e some. absurd (omega arith);
}

pub IsFront-more : (a b : Option Files) (name bytes part : List ℕ) (at : ℕ) → at ≡ length bytes → KeepsFiles a b → IsFront a name bytes → IsPart b name at part → IsFront a name (bytes ++ part)
IsFront-more a b name bytes part at here keeps h k = record {
  front = λ files file e f.
      let fr = h.front files file e f in
      let q = k.part files (kept_files a b files keeps e) in
      let same : q.0 ≡ file = cc in
      let place : drop at q.0 ≡ drop (length bytes) file = ap₂ drop here same in
      let size = length-append bytes part in
      (ap (λ t. t ++ part) fr.0 ∙ ap (λ t. take (length bytes) file ++ t) (q.2 ∙ ap (λ t. take (length part) t) place) ∙ sym (take-add (length bytes) (length part) file) ∙ ap (λ n. take n file) (sym size), omega (arith, size, fr.1, q.3, ap length place, length-drop (length bytes) file));
  found = λ files e some.
      let q = k.part files (kept_files a b files keeps e) in
      (q.0, q.1);
}

-- the front is full
pub front-full : (told : Option Files) (name bytes : List ℕ) (limit : ℕ) → length bytes ≡ limit + 1 → IsFront told name bytes → IsRead limit told name bytes
front-full told name bytes limit size h = record {
  whole = λ files e.
      let f = h.found files e (omega (arith, size)) in
      (f.0, f.1, (h.front files f.0 e f.1).0 ∙ ap (λ n. take n f.0) size);
}

-- the file has ended
pub front-ended : (a b : Option Files) (name bytes part : List ℕ) (at limit : ℕ) → at ≡ length bytes → at ≤ limit + 1 → length part ≡ 0 → KeepsFiles a b → IsFront a name bytes → IsPart b name at part → IsRead limit a name bytes
front-ended a b name bytes part at limit here within none keeps h k = record {
  whole = λ files e.
      let p = k.part files (kept_files a b files keeps e) in
      let f = h.front files p.0 e p.1 in
      let all = take_all (length bytes) p.0 (omega (arith, here, p.4 none)) in
      let all' = take_all (limit + 1) p.0 (omega (arith, p.4 none)) in
      (p.0, p.1, f.0 ∙ all ∙ sym all');
}

pub KeepsFiles-more : (a b c : Option Files) → KeepsFiles a b → KeepsFiles b c → KeepsFiles a c
KeepsFiles-more None b c h k = tt
KeepsFiles-more (Some files) b c h k = subst (λ t. KeepsFiles t c) h k

pub KeepsFiles-same : (a : Option Files) → KeepsFiles a a
KeepsFiles-same None = tt
KeepsFiles-same (Some files) = refl

-- a folder that keeps its files has the file that it had
pub has_file : (a b : Option Files) (name : List ℕ) → KeepsFiles a b → IsSome (told_content a name) → IsSome (told_content b name)
has_file None b name keeps h = cc
has_file (Some files) b name keeps h = rw keeps h

-- what a read put into the front of a buffer is a part
pub IfOk-part : {E : Type 0} (result : Result ℕ E) (told : Option Files) (name : List ℕ) (at : ℕ) (buf rest : List ℕ) → 0 < length buf → ReadsAtMost result buf → ReadsFile told name at result buf → IfOk result (λ n. IsPart told name at (take n (buf ++ rest)))
IfOk-part (Ok n) told name at buf rest some most h =
    let within : n ≤ length buf = omega (arith, most) in
    rw take-append-le (IsPart-read told name at n buf some h)
IfOk-part (Err e) told name at buf rest some most h = tt

pub ruleset fronts = (IsFront-nil, IsFront-more, front-full, front-ended, KeepsFiles-more, KeepsFiles-same, has_file)

pub ruleset folders = (KeepsFiles-more, KeepsFiles-same)
