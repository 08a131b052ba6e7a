-- From the bytes of a stream to the responses to the lines that they end: each step composes with the next.
use Rattle.std.proofs.Common.{◌≡◌, ℕ, ◌+◌, ◌-◌, false, None, Some, List, [], ◌∷◌, ◌++◌, length, take, drop, refl, sym, ap, subst, ◌∙◌, append_assoc}
use Rattle.std.specs.Prelude.{position}
use Rattle.std.specs.declared.option.Option.{Option}
use Rattle.std.specs.Str.Lines.{strip_carriage_return}
use Rattle.std.proofs.lemmas.List.{append-nil, take_rest}
use Rattle.std.proofs.lemmas.List.Elements.{All-append, All-nil}
use Rattle.std.proofs.KnownBytes.{Appends-nil, Appends-trans}
use Rattle.line_stream.specs.Lines.{is_line_feed, shown, request_lines}
use Rattle.line_stream.specs.Buffers.{Kept, kept_with, ended_line, nothing_kept}
use Rattle.line_stream.specs.Answers.{IsOut, IsFront, Writes, WritesPart}
use Rattle.line_stream.specs.Costs.{Leaves, Rises}
use Rattle.line_stream.specs.Streams.{IsPiece, CutsAtLineFeeds, AnswersUpTo, FrontUpTo, Answers, BreaksOff}
use Rattle.line_stream.proofs.CutLines.{IsPiece-before, IsPiece-all, cut_at_first, request_lines-cut}
use Rattle.line_stream.proofs.Buffered.{Holds-nothing, Holds-with, StandsFor-ended}
use Rattle.line_stream.proofs.Responding.{SomeReply, LongLines, IsOut-append, IsOut-stands, out_at, some_out}
use Rattle.line_stream.proofs.Counting.{LongBounds, Leaves-same, Leaves-more, Leaves-at, Leaves-line, Rises-at, Rises-left, Rises-after}

-- a front of the bytes was answered, and the rest is to come
pub record Proceeds (is_reply : List ℕ → List ℕ → Type 0) (bounds : List ℕ → ℕ → Type 0) (held0 held1 : Option (List ℕ)) (count0 count1 : ℕ) (before after : Kept) (bytes rest : List ℕ) : Type 0 where
  pub front : List ℕ
  pub parts : bytes ≡ front ++ rest
  pub answered : Answers is_reply bounds held0 held1 count0 count1 before after front

regrouped : (a b c d : List ℕ) → (a ++ b) ++ (c ++ d) ≡ (a ++ (b ++ c)) ++ d
regrouped a b c d =
    sym (append_assoc (a ++ b) c d) ∙ ap (λ t. t ++ d) (append_assoc a b c)

module _ (is_reply : List ℕ → List ℕ → Type 0) (bounds : List ℕ → ℕ → Type 0) where
  -- ---- one after the other

  pub Answers-nil : (a : Option (List ℕ)) (s : ℕ) (k : Kept) → Answers is_reply bounds a a s s k k []
  Answers-nil a s k = record {
    from = λ piece no_feed holds. record {
      piece = piece;
      no_feed = no_feed;
      holds = holds;
      written = [];
      appended = Appends-nil a;
      onward = λ lines more out cuts h. rw (append-nil piece) h;
      counted = λ lines more cuts. rw (append-nil piece) (Leaves-same bounds (lines (piece ++ more)) s);
    };
  }

  pub Answers-more : (a b c : Option (List ℕ)) (s t u : ℕ) (k l m : Kept) (xs ys : List ℕ) → Answers is_reply bounds a b s t k l xs → Answers is_reply bounds b c t u l m ys → Answers is_reply bounds a c s u k m (xs ++ ys)
  Answers-more a b c s t u k l m xs ys h g = record {
    from = λ piece no_feed holds.
        let p = h.from piece no_feed holds in
        let q = g.from p.piece p.no_feed p.holds in
        record {
          piece = q.piece;
          no_feed = q.no_feed;
          holds = q.holds;
          written = p.written ++ q.written;
          appended = Appends-trans a b c p.written q.written p.appended q.appended;
          onward = λ lines more out cuts o.
              let last = out_at is_reply lines ((p.piece ++ ys) ++ more) (p.piece ++ (ys ++ more)) (q.written ++ out) (q.written ++ out) (append_assoc p.piece ys more) refl (q.onward lines more out cuts o) in
              out_at is_reply lines ((piece ++ xs) ++ (ys ++ more)) ((piece ++ (xs ++ ys)) ++ more) (p.written ++ (q.written ++ out)) ((p.written ++ q.written) ++ out) (regrouped piece xs ys more) (sym (append_assoc p.written q.written out)) (p.onward lines (ys ++ more) (q.written ++ out) cuts last);
          counted = λ lines more cuts.
              let last = Leaves-at bounds lines ((p.piece ++ ys) ++ more) (p.piece ++ (ys ++ more)) (q.piece ++ more) t u (append_assoc p.piece ys more) (q.counted lines more cuts) in
              Leaves-at bounds lines ((piece ++ xs) ++ (ys ++ more)) ((piece ++ (xs ++ ys)) ++ more) (q.piece ++ more) s u (regrouped piece xs ys more) (Leaves-more bounds (lines ((piece ++ xs) ++ (ys ++ more))) (lines (p.piece ++ (ys ++ more))) (lines (q.piece ++ more)) s t u (p.counted lines (ys ++ more) cuts) last);
        };
  }

  -- ---- where the writing broke off

  -- after bytes that were answered but for a piece
  pub front-after : (a b : Option (List ℕ)) (s t : ℕ) (l : Kept) (bytes ys written : List ℕ) (p : AnswersUpTo is_reply bounds a b s t l bytes) → ((more : List ℕ) → IsFront is_reply (request_lines ((p.piece ++ ys) ++ more)) written) → (more : List ℕ) → IsFront is_reply (request_lines ((bytes ++ ys) ++ more)) (p.written ++ written)
  front-after a b s t l bytes ys written p front more =
      let o = front more in
      let last = out_at is_reply request_lines ((p.piece ++ ys) ++ more) (p.piece ++ (ys ++ more)) (written ++ o.0) (written ++ o.0) (append_assoc p.piece ys more) refl o.1 in
      (o.0, out_at is_reply request_lines (bytes ++ (ys ++ more)) ((bytes ++ ys) ++ more) (p.written ++ (written ++ o.0)) ((p.written ++ written) ++ o.0) (sym (append_assoc bytes ys more)) (sym (append_assoc p.written written o.0)) (p.onward request_lines (ys ++ more) (written ++ o.0) request_lines-cut last))

  pub counted-after : (a b : Option (List ℕ)) (s t u : ℕ) (l : Kept) (bytes ys : List ℕ) (p : AnswersUpTo is_reply bounds a b s t l bytes) (lines : List ℕ → List (List ℕ)) (more : List ℕ) → CutsAtLineFeeds lines → Rises bounds (lines ((p.piece ++ ys) ++ more)) t u → Rises bounds (lines ((bytes ++ ys) ++ more)) s u
  counted-after a b s t u l bytes ys p lines more cuts r =
      let last = Rises-at bounds lines ((p.piece ++ ys) ++ more) (p.piece ++ (ys ++ more)) t u (append_assoc p.piece ys more) r in
      Rises-at bounds lines (bytes ++ (ys ++ more)) ((bytes ++ ys) ++ more) s u (sym (append_assoc bytes ys more)) (Rises-after bounds (lines (bytes ++ (ys ++ more))) (lines (p.piece ++ (ys ++ more))) s t u (p.counted lines (ys ++ more) cuts) last)

  -- the same bytes in other parts
  FrontUpTo-at : (a b : Option (List ℕ)) (s t : ℕ) (bytes other : List ℕ) → bytes ≡ other → FrontUpTo is_reply bounds a b s t bytes → FrontUpTo is_reply bounds a b s t other
  FrontUpTo-at a b s t bytes other e h = subst (λ x. FrontUpTo is_reply bounds a b s t x) e h

  pub BreaksOff-after : (a b c : Option (List ℕ)) (s t u : ℕ) (k l : Kept) (xs ys : List ℕ) → Answers is_reply bounds a b s t k l xs → BreaksOff is_reply bounds b c t u l ys → BreaksOff is_reply bounds a c s u k (xs ++ ys)
  BreaksOff-after a b c s t u k l xs ys h g = record {
    from = λ piece no_feed holds.
        let p = h.from piece no_feed holds in
        let q = g.from p.piece p.no_feed p.holds in
        FrontUpTo-at a c s u ((piece ++ xs) ++ ys) (piece ++ (xs ++ ys)) (append_assoc piece xs ys) (record {
          written = p.written ++ q.written;
          appended = Appends-trans a b c p.written q.written p.appended q.appended;
          front = front-after a b s t l (piece ++ xs) ys q.written p q.front;
          counted = λ lines more cuts. counted-after a b s t u l (piece ++ xs) ys p lines more cuts (q.counted lines more cuts);
        });
  }

  pub BreaksOff-more : (a b : Option (List ℕ)) (s t : ℕ) (k : Kept) (xs ys : List ℕ) → BreaksOff is_reply bounds a b s t k xs → BreaksOff is_reply bounds a b s t k (xs ++ ys)
  BreaksOff-more a b s t k xs ys h = record {
    from = λ piece no_feed holds.
        let p = h.from piece no_feed holds in
        record {
          written = p.written;
          appended = p.appended;
          front = λ more.
              let o = p.front (ys ++ more) in
              (o.0, out_at is_reply request_lines ((piece ++ xs) ++ (ys ++ more)) ((piece ++ (xs ++ ys)) ++ more) (p.written ++ o.0) (p.written ++ o.0) (regrouped piece xs ys more) refl o.1);
          counted = λ lines more cuts. Rises-at bounds lines ((piece ++ xs) ++ (ys ++ more)) ((piece ++ (xs ++ ys)) ++ more) s t (regrouped piece xs ys more) (p.counted lines (ys ++ more) cuts);
        };
  }

  -- ---- a piece, and the LF that ends it

  Answers-piece : (a : Option (List ℕ)) (s : ℕ) (k : Kept) (xs : List ℕ) → IsPiece xs → Answers is_reply bounds a a s s k (kept_with k xs) xs
  Answers-piece a s k xs none = record {
    from = λ piece no_feed holds. record {
      piece = piece ++ xs;
      no_feed = All-append (λ b. is_line_feed b ≡ false) piece xs no_feed none;
      holds = Holds-with k piece xs holds;
      written = [];
      appended = Appends-nil a;
      onward = λ lines more out cuts h. h;
      counted = λ lines more cuts. Leaves-same bounds (lines ((piece ++ xs) ++ more)) s;
    };
  }

  Answers-feed : (a b : Option (List ℕ)) (s t : ℕ) (k : Kept) → LongLines is_reply k.limit → LongBounds bounds k.limit → Writes is_reply (shown (ended_line k)) a b → Rises bounds (shown (ended_line k)) s t → Answers is_reply bounds a b s t k (nothing_kept k.limit) (10 ∷ [])
  Answers-feed a b s t k law bound w r = record {
    from = λ piece no_feed holds. record {
      piece = [];
      no_feed = All-nil (λ b. is_line_feed b ≡ false);
      holds = Holds-nothing k.limit;
      written = w.written;
      appended = w.appended;
      onward = λ lines more out cuts h.
          let line = IsOut-stands is_reply k.limit (ended_line k) (strip_carriage_return piece) w.written law (StandsFor-ended k piece holds) w.replies in
          let first = IsOut-append is_reply (shown (strip_carriage_return piece)) (lines more) w.written out line h in
          subst (λ ls. IsOut is_reply ls (w.written ++ out)) (sym (ap lines (append_assoc piece (10 ∷ []) more) ∙ cuts piece more no_feed)) first;
      counted = λ lines more cuts.
          let first = Leaves-line bounds k.limit (ended_line k) (strip_carriage_return piece) (lines more) s t bound (StandsFor-ended k piece holds) r in
          subst (λ ls. Leaves bounds ls (lines more) s t) (sym (ap lines (append_assoc piece (10 ∷ []) more) ∙ cuts piece more no_feed)) first;
    };
  }

  BreaksOff-feed : (a b : Option (List ℕ)) (s t : ℕ) (k : Kept) → SomeReply is_reply → LongLines is_reply k.limit → LongBounds bounds k.limit → WritesPart is_reply (shown (ended_line k)) a b → Rises bounds (shown (ended_line k)) s t → BreaksOff is_reply bounds a b s t k (10 ∷ [])
  BreaksOff-feed a b s t k some law bound w r = record {
    from = λ piece no_feed holds. record {
      written = w.written;
      appended = w.appended;
      front = λ more.
          let line = IsOut-stands is_reply k.limit (ended_line k) (strip_carriage_return piece) (w.written ++ w.lost) law (StandsFor-ended k piece holds) w.replies in
          let others = some_out is_reply some (request_lines more) in
          let first = IsOut-append is_reply (shown (strip_carriage_return piece)) (request_lines more) (w.written ++ w.lost) others.0 line others.1 in
          let cut = ap request_lines (append_assoc piece (10 ∷ []) more) ∙ request_lines-cut piece more no_feed in
          (w.lost ++ others.0, subst (λ ls. IsOut is_reply ls (w.written ++ (w.lost ++ others.0))) (sym cut) (subst (λ o. IsOut is_reply (shown (strip_carriage_return piece) ++ request_lines more) o) (append_assoc w.written w.lost others.0) first));
      counted = λ lines more cuts.
          let first = Rises-left bounds (shown (strip_carriage_return piece) ++ lines more) (lines more) s t (Leaves-line bounds k.limit (ended_line k) (strip_carriage_return piece) (lines more) s t bound (StandsFor-ended k piece holds) r) in
          subst (λ ls. Rises bounds ls s t) (sym (ap lines (append_assoc piece (10 ∷ []) more) ∙ cuts piece more no_feed)) first;
    };
  }

  -- ---- a loop over the bytes

  pub Proceeds-start : (a : Option (List ℕ)) (s : ℕ) (k : Kept) (bytes : List ℕ) → Proceeds is_reply bounds a a s s k k bytes bytes
  Proceeds-start a s k bytes = record { front = []; parts = refl; answered = Answers-nil a s k }

  -- the next line was answered
  pub Proceeds-line : (a b c : Option (List ℕ)) (s t u : ℕ) (k l : Kept) (bytes rest : List ℕ) (end : ℕ) → position is_line_feed rest ≡ Some end → LongLines is_reply l.limit → LongBounds bounds l.limit → Proceeds is_reply bounds a b s t k l bytes rest → Writes is_reply (shown (ended_line (kept_with l (take end rest)))) b c → Rises bounds (shown (ended_line (kept_with l (take end rest)))) t u → Proceeds is_reply bounds a c s u k (nothing_kept l.limit) bytes (take (length rest - (end + 1)) (drop (end + 1) rest))
  Proceeds-line a b c s t u k l bytes rest end at law bound h w r =
      let line = take end rest in
      let after = drop (end + 1) rest in
      let with_line = Answers-more a b b s t t k l (kept_with l line) h.front line h.answered (Answers-piece b t l line (IsPiece-before rest end at)) in
      let with_feed = Answers-more a b c s t u k (kept_with l line) (nothing_kept l.limit) (h.front ++ line) (10 ∷ []) with_line (Answers-feed b c t u (kept_with l line) law bound w r) in
      let parts : bytes ≡ ((h.front ++ line) ++ 10 ∷ []) ++ after =
      h.parts ∙ ap (λ t. h.front ++ t) (cut_at_first rest end at) ∙ sym (append_assoc h.front line (10 ∷ after)) ∙ sym (append_assoc (h.front ++ line) (10 ∷ []) after) in
      subst (λ x. Proceeds is_reply bounds a c s u k (nothing_kept l.limit) bytes x) (sym (take_rest rest (end + 1))) (record { front = (h.front ++ line) ++ 10 ∷ []; parts = parts; answered = with_feed })

  -- no LF is left
  pub Answers-last : (a b : Option (List ℕ)) (s t : ℕ) (k l : Kept) (bytes rest : List ℕ) → position is_line_feed rest ≡ None → Proceeds is_reply bounds a b s t k l bytes rest → Answers is_reply bounds a b s t k (kept_with l rest) bytes
  Answers-last a b s t k l bytes rest none h =
      subst (λ x. Answers is_reply bounds a b s t k (kept_with l rest) x) (sym h.parts) (Answers-more a b b s t t k l (kept_with l rest) h.front rest h.answered (Answers-piece b t l rest (IsPiece-all rest none)))

  -- the writing broke off in the response to the next line
  pub BreaksOff-line : (a b c : Option (List ℕ)) (s t u : ℕ) (k l : Kept) (bytes rest : List ℕ) (end : ℕ) → position is_line_feed rest ≡ Some end → SomeReply is_reply → LongLines is_reply l.limit → LongBounds bounds l.limit → Proceeds is_reply bounds a b s t k l bytes rest → WritesPart is_reply (shown (ended_line (kept_with l (take end rest)))) b c → Rises bounds (shown (ended_line (kept_with l (take end rest)))) t u → BreaksOff is_reply bounds a c s u k bytes
  BreaksOff-line a b c s t u k l bytes rest end at some law bound h w r =
      let line = take end rest in
      let after = drop (end + 1) rest in
      let with_line = Answers-more a b b s t t k l (kept_with l line) h.front line h.answered (Answers-piece b t l line (IsPiece-before rest end at)) in
      let with_feed = BreaksOff-after a b c s t u k (kept_with l line) (h.front ++ line) (10 ∷ []) with_line (BreaksOff-feed b c t u (kept_with l line) some law bound w r) in
      let parts : ((h.front ++ line) ++ 10 ∷ []) ++ after ≡ bytes =
      sym (h.parts ∙ ap (λ t. h.front ++ t) (cut_at_first rest end at) ∙ sym (append_assoc h.front line (10 ∷ after)) ∙ sym (append_assoc (h.front ++ line) (10 ∷ []) after)) in
      subst (λ x. BreaksOff is_reply bounds a c s u k x) parts (BreaksOff-more a c s u k ((h.front ++ line) ++ 10 ∷ []) after with_feed)
