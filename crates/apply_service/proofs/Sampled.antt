-- The replies to lines that are told one after another.
use Rattle.std.proofs.Common.{◌≡◌, ℕ, zero, suc, ◌<◌, arith, map, take, drop, get_or, length, List, [], ◌∷◌, ◌++◌, refl, sym, ap, subst, ◌∙◌, append_assoc}
use Rattle.std.specs.Prelude.{flat_map}
use Rattle.std.specs.declared.option.Option.{Option}
use Rattle.std.proofs.KnownBytes.{Appends-trans}
use Rattle.std.proofs.lemmas.Grind.{flat_map-append}
use Rattle.std.proofs.lemmas.List.{append-nil}
use Rattle.line_stream.specs.Lines.{shown}
use Rattle.line_stream.specs.Answers.{IsOut, Writes, WritesPart}
use Rattle.line_stream.specs.Costs.{Rises}
use Rattle.line_stream.proofs.Responding.{IsOut-append, SomeReply, some_out}
use Rattle.line_stream.proofs.Counting.{Rises-both, Rises-still}

-- ---- an item of a list that is gone through

module _ {X : Type 0} (f : X → List ℕ) where
  pub line-at : (xs : List X) (i : ℕ) (d : X) → i < length xs → take (suc i) (map f xs) ≡ take i (map f xs) ++ f (get_or xs i d) ∷ []
  line-at [] i d within = absurd (omega arith)
  line-at (x ∷ xs) zero d within = refl
  line-at (x ∷ xs) (suc i) d within = ap (λ t. f x ∷ t) (line-at xs i d (omega (arith, within)))

  pub rest-at : (xs : List X) (i : ℕ) (d : X) → i < length xs → map f xs ≡ take i (map f xs) ++ f (get_or xs i d) ∷ drop (suc i) (map f xs)
  rest-at [] i d within = absurd (omega arith)
  rest-at (x ∷ xs) zero d within = refl
  rest-at (x ∷ xs) (suc i) d within = ap (λ t. f x ∷ t) (rest-at xs i d (omega (arith, within)))

-- ---- what was written

-- lines, each unless it is empty
abbrev pub shown_all : List (List ℕ) → List (List ℕ)
shown_all = flat_map shown

module _ (is_reply : List ℕ → List ℕ → Type 0) where
  pub Writes-more : (a b c : Option (List ℕ)) (ls : List (List ℕ)) (l : List ℕ) → Writes is_reply (shown_all ls) a b → Writes is_reply (shown l) b c → Writes is_reply (shown_all (ls ++ l ∷ [])) a c
  Writes-more a b c ls l h k = record {
    written = h.written ++ k.written;
    appended = Appends-trans a b c h.written k.written h.appended k.appended;
    replies =
        let lines : shown_all (ls ++ l ∷ []) ≡ shown_all ls ++ shown l = flat_map-append shown ls (l ∷ []) ∙ ap (λ t. shown_all ls ++ t) (append-nil (shown l)) in
        let P : List (List ℕ) → Type 0 = λ t. IsOut is_reply t (h.written ++ k.written) in
        subst P (sym lines) (IsOut-append is_reply (shown_all ls) (shown l) h.written k.written h.replies k.replies);
  }

  -- the writing broke off in the reply to a line
  pub WritesPart-more : SomeReply is_reply → (a b c : Option (List ℕ)) (ls : List (List ℕ)) (l : List ℕ) (rest : List (List ℕ)) → Writes is_reply (shown_all ls) a b → WritesPart is_reply (shown l) b c → WritesPart is_reply (shown_all (ls ++ l ∷ rest)) a c
  WritesPart-more some a b c ls l rest h k =
      let more = some_out is_reply some (shown_all rest) in
      record {
        written = h.written ++ k.written;
        lost = k.lost ++ more.0;
        appended = Appends-trans a b c h.written k.written h.appended k.appended;
        replies =
            let lines : shown_all (ls ++ l ∷ rest) ≡ shown_all ls ++ (shown l ++ shown_all rest) = flat_map-append shown ls (l ∷ rest) in
            let out = IsOut-append is_reply (shown_all ls) (shown l ++ shown_all rest) h.written ((k.written ++ k.lost) ++ more.0) h.replies (IsOut-append is_reply (shown l) (shown_all rest) (k.written ++ k.lost) more.0 k.replies more.1) in
            let bytes : h.written ++ ((k.written ++ k.lost) ++ more.0) ≡ (h.written ++ k.written) ++ (k.lost ++ more.0) =
            ap (λ t. h.written ++ t) (append_assoc k.written k.lost more.0) ∙ sym (append_assoc h.written k.written (k.lost ++ more.0)) in
            let P : List (List ℕ) → Type 0 = λ t. IsOut is_reply t ((h.written ++ k.written) ++ (k.lost ++ more.0)) in
            let Q : List ℕ → Type 0 = λ t. IsOut is_reply (shown_all ls ++ (shown l ++ shown_all rest)) t in
            subst P (sym lines) (subst Q bytes out);
      }

module _ (bounds : List ℕ → ℕ → Type 0) where
  -- one line more was answered, of which others may follow
  pub Rises-more : (a b c : ℕ) (ls : List (List ℕ)) (l : List ℕ) (rest : List (List ℕ)) → Rises bounds (shown_all ls) a b → Rises bounds (shown l) b c → Rises bounds (shown_all (ls ++ l ∷ rest)) a c
  Rises-more a b c ls l rest h k =
      let lines : shown_all (ls ++ l ∷ rest) ≡ shown_all ls ++ (shown l ++ shown_all rest) = flat_map-append shown ls (l ∷ rest) in
      let P : List (List ℕ) → Type 0 = λ t. Rises bounds t a c in
      subst P (sym lines) (Rises-both bounds (shown_all ls) (shown l ++ shown_all rest) a b c h (Rises-both bounds (shown l) (shown_all rest) b c c k (Rises-still bounds (shown_all rest) c)))
