-- From the pieces that were read to the whole stream.
use Rattle.std.proofs.Common.{◌≡◌, ℕ, ◌+◌, ◌≤◌, false, List, [], ◌∷◌, ◌++◌, length, take, drop, refl, sym, ap, subst, ◌∙◌, arith, inl, inr, append_assoc, length-append}
use Rattle.std.specs.declared.option.Option.{Option}
use Rattle.std.specs.Io.KnownBytes.{Consumes, Keeps, IsAtEnd}
use Rattle.std.proofs.lemmas.List.{append-nil, take-append-drop, length-take-le, take-take}
use Rattle.std.proofs.lemmas.List.Elements.{All-nil}
use Rattle.std.proofs.Math.Seq.{take-append-add}
use Rattle.std.proofs.KnownBytes.{Appends-trans, Consumes-nil, Consumes-trans, Consumes-kept}
use Rattle.apply_io.specs.Reads.{EndsInOneRead}
use Rattle.line_stream.specs.Lines.{is_line_feed, shown, request_lines, ended_lines}
use Rattle.line_stream.specs.Buffers.{Kept, nothing_kept}
use Rattle.line_stream.specs.Costs.{Rises}
use Rattle.line_stream.specs.Answers.{IsOut, IsFront, Writes, WritesPart, Responds, RespondsInPart}
use Rattle.line_stream.specs.Streams.{AnswersUpTo, FrontUpTo, Answers, BreaksOff, Advances, Overruns, Breaks}
use Rattle.line_stream.proofs.CutLines.{request_lines-cut, request_lines-last, ended_lines-cut, ended_lines-last}
use Rattle.line_stream.proofs.Buffered.{Holds-nothing, StandsFor-whole}
use Rattle.line_stream.proofs.Responding.{LongLines, IsOut-stands, out_at}
use Rattle.line_stream.proofs.Counting.{LongBounds, Rises-at, Rises-left, Rises-after, Rises-line}
use Rattle.line_stream.proofs.Answering.{Answers-nil, Answers-more, BreaksOff-more, front-after, counted-after}

-- ---- the last read

module _ {A : Type 0} (left : A → Option (List ℕ)) (reads_once : A → A → Type 0) where
  -- it is the only one
  one_read-only : (x y : A) (bytes : List ℕ) → Consumes (left x) (left y) bytes → reads_once x y → EndsInOneRead left reads_once x y [] bytes
  one_read-only x y bytes taken once = record {
    between = x;
    taken = Consumes-nil (left x);
    given = taken;
    once = once;
  }

  -- bytes were taken before
  one_read-after : (x y z : A) (front earlier last : List ℕ) → Consumes (left x) (left y) front → EndsInOneRead left reads_once y z earlier last → EndsInOneRead left reads_once x z (front ++ earlier) last
  one_read-after x y z front earlier last taken h = record {
    between = h.between;
    taken = Consumes-trans (left x) (left y) (left h.between) front earlier taken h.taken;
    given = h.given;
    once = h.once;
  }

  -- it gave nothing
  one_read-nothing : (x y z : A) (front none : List ℕ) → length none ≡ 0 → Consumes (left x) (left y) front → Consumes (left y) (left z) none → reads_once y z → EndsInOneRead left reads_once x z (front ++ none) []
  one_read-nothing x y z front [] size taken given once = record {
    between = y;
    taken = rw (append-nil front) taken;
    given = given;
    once = once;
  }
  one_read-nothing x y z front (b ∷ none) size taken given once = absurd (omega (arith, size))

module _ (is_reply : List ℕ → List ℕ → Type 0) (bounds : List ℕ → ℕ → Type 0) where
  -- ---- what one piece did

  pub Advances-read : (l0 l1 h0 h1 : Option (List ℕ)) (s t : ℕ) (k0 k1 : Kept) (buffer : List ℕ) (n : ℕ) → n ≤ length buffer → Consumes l0 l1 (take n buffer) → Answers is_reply bounds h0 h1 s t k0 k1 (take n buffer) → Advances is_reply bounds l0 l1 h0 h1 s t k0 k1 n
  Advances-read l0 l1 h0 h1 s t k0 k1 buffer n within taken answered = record {
    bytes = take n buffer;
    count = length-take-le n buffer within;
    taken = taken;
    answered = answered;
  }

  pub Overruns-read : (l0 l1 h0 h1 : Option (List ℕ)) (s t : ℕ) (k0 k1 : Kept) (buffer : List ℕ) (n limit : ℕ) → n ≡ limit + 1 → n ≤ length buffer → Consumes l0 l1 (take n buffer) → Answers is_reply bounds h0 h1 s t k0 k1 (take limit buffer) → Overruns is_reply bounds l0 l1 h0 h1 s t k0 k1 limit
  Overruns-read l0 l1 h0 h1 s t k0 k1 buffer n limit e within taken answered = record {
    bytes = take n buffer;
    count = length-take-le n buffer within ∙ e;
    taken = taken;
    answered =
        let less : limit ≤ n = omega arith in
        rw (take-take limit n buffer less) answered;
  }

  -- ---- one piece after the other

  pub Advances-nil : (l h : Option (List ℕ)) (s : ℕ) (k : Kept) → Advances is_reply bounds l l h h s s k k 0
  Advances-nil l h s k = record {
    bytes = [];
    count = refl;
    taken = Consumes-nil l;
    answered = Answers-nil is_reply bounds h s k;
  }

  pub Advances-more : (l0 l1 l2 h0 h1 h2 : Option (List ℕ)) (s t u : ℕ) (k0 k1 k2 : Kept) (n m : ℕ) → Advances is_reply bounds l0 l1 h0 h1 s t k0 k1 n → Advances is_reply bounds l1 l2 h1 h2 t u k1 k2 m → Advances is_reply bounds l0 l2 h0 h2 s u k0 k2 (n + m)
  Advances-more l0 l1 l2 h0 h1 h2 s t u k0 k1 k2 n m a b = record {
    bytes = a.bytes ++ b.bytes;
    count = omega (arith, length-append a.bytes b.bytes, a.count, b.count);
    taken = Consumes-trans l0 l1 l2 a.bytes b.bytes a.taken b.taken;
    answered = Answers-more is_reply bounds h0 h1 h2 s t u k0 k1 k2 a.bytes b.bytes a.answered b.answered;
  }

  pub Overruns-after : (l0 l1 l2 h0 h1 h2 : Option (List ℕ)) (s t u : ℕ) (k0 k1 k2 : Kept) (n m limit : ℕ) → n + m ≡ limit → Advances is_reply bounds l0 l1 h0 h1 s t k0 k1 n → Overruns is_reply bounds l1 l2 h1 h2 t u k1 k2 m → Overruns is_reply bounds l0 l2 h0 h2 s u k0 k2 limit
  Overruns-after l0 l1 l2 h0 h1 h2 s t u k0 k1 k2 n m limit e a b = record {
    bytes = a.bytes ++ b.bytes;
    count = omega (arith, length-append a.bytes b.bytes, a.count, b.count);
    taken = Consumes-trans l0 l1 l2 a.bytes b.bytes a.taken b.taken;
    answered =
        let size : limit ≡ length a.bytes + m = omega (arith, a.count) in
        rw (size, take-append-add a.bytes b.bytes m) (Answers-more is_reply bounds h0 h1 h2 s t u k0 k1 k2 a.bytes (take m b.bytes) a.answered b.answered);
  }

  -- ---- from an empty buffer

  Answers-start : (h0 h1 : Option (List ℕ)) (s t : ℕ) (k : Kept) (limit : ℕ) (bytes : List ℕ) → Answers is_reply bounds h0 h1 s t (nothing_kept limit) k bytes → AnswersUpTo is_reply bounds h0 h1 s t k bytes
  Answers-start h0 h1 s t k limit bytes h =
      h.from [] (All-nil (λ b. is_line_feed b ≡ false)) (Holds-nothing limit)

  -- the lines that an LF ended were answered
  ended_out : (h0 h1 : Option (List ℕ)) (s t : ℕ) (k : Kept) (bytes : List ℕ) (p : AnswersUpTo is_reply bounds h0 h1 s t k bytes) → IsOut is_reply (ended_lines bytes) p.written
  ended_out h0 h1 s t k bytes p =
      let none : ended_lines (p.piece ++ []) ≡ [] =
      ap ended_lines (append-nil p.piece) ∙ ended_lines-last p.piece p.no_feed in
      let last : IsOut is_reply (ended_lines (p.piece ++ [])) [] = subst (λ ls. IsOut is_reply ls []) (sym none) refl in
      out_at is_reply ended_lines (bytes ++ []) bytes (p.written ++ []) p.written (append-nil bytes) (append-nil p.written) (p.onward ended_lines [] [] ended_lines-cut last)

  ended_count : (h0 h1 : Option (List ℕ)) (s t : ℕ) (k : Kept) (bytes : List ℕ) (p : AnswersUpTo is_reply bounds h0 h1 s t k bytes) → Rises bounds (ended_lines bytes) s t
  ended_count h0 h1 s t k bytes p =
      Rises-at bounds ended_lines (bytes ++ []) bytes s t (append-nil bytes) (Rises-left bounds (ended_lines (bytes ++ [])) (ended_lines (p.piece ++ [])) s t (p.counted ended_lines [] ended_lines-cut))

  -- with the response to the last line, all lines
  all_out : (h0 h1 : Option (List ℕ)) (s t : ℕ) (k : Kept) (bytes out : List ℕ) (p : AnswersUpTo is_reply bounds h0 h1 s t k bytes) → LongLines is_reply k.limit → IsOut is_reply (shown k.bytes) out → IsOut is_reply (request_lines bytes) (p.written ++ out)
  all_out h0 h1 s t k bytes out p law h =
      let line = IsOut-stands is_reply k.limit k.bytes p.piece out law (StandsFor-whole k p.piece p.holds) h in
      let one : request_lines (p.piece ++ []) ≡ shown p.piece =
      ap request_lines (append-nil p.piece) ∙ request_lines-last p.piece p.no_feed in
      let last : IsOut is_reply (request_lines (p.piece ++ [])) out = subst (λ ls. IsOut is_reply ls out) (sym one) line in
      out_at is_reply request_lines (bytes ++ []) bytes (p.written ++ out) (p.written ++ out) (append-nil bytes) refl (p.onward request_lines [] out request_lines-cut last)

  all_count : (h0 h1 : Option (List ℕ)) (s t u : ℕ) (k : Kept) (bytes : List ℕ) (p : AnswersUpTo is_reply bounds h0 h1 s t k bytes) → LongBounds bounds k.limit → Rises bounds (shown k.bytes) t u → Rises bounds (request_lines bytes) s u
  all_count h0 h1 s t u k bytes p bound r =
      let line = Rises-line bounds k.limit k.bytes p.piece t u bound (StandsFor-whole k p.piece p.holds) r in
      let one : request_lines (p.piece ++ []) ≡ shown p.piece =
      ap request_lines (append-nil p.piece) ∙ request_lines-last p.piece p.no_feed in
      let last : Rises bounds (request_lines (p.piece ++ [])) t u = subst (λ ls. Rises bounds ls t u) (sym one) line in
      Rises-at bounds request_lines (bytes ++ []) bytes s u (append-nil bytes) (Rises-after bounds (request_lines (bytes ++ [])) (request_lines (p.piece ++ [])) s t u (p.counted request_lines [] request_lines-cut) last)

  pub Responds-ended : (l0 l1 l2 h0 h1 : Option (List ℕ)) (s t : ℕ) (k : Kept) (kept n limit : ℕ) → n ≤ limit → Advances is_reply bounds l0 l1 h0 h1 s t (nothing_kept kept) k n → Keeps l1 l2 → Responds is_reply bounds ended_lines (λ bytes. length bytes ≤ limit) l0 l2 h0 h1 s t
  Responds-ended l0 l1 l2 h0 h1 s t k kept n limit within a keeps =
      let p = Answers-start h0 h1 s t k kept a.bytes a.answered in
      record {
        bytes = a.bytes;
        has = omega (arith, a.count);
        taken = Consumes-kept l0 l1 l2 a.bytes a.taken keeps;
        written = p.written;
        appended = p.appended;
        replies = ended_out h0 h1 s t k a.bytes p;
        counted = ended_count h0 h1 s t k a.bytes p;
      }

  pub Responds-limit : (l0 l1 h0 h1 : Option (List ℕ)) (s t : ℕ) (k : Kept) (kept limit : ℕ) → Overruns is_reply bounds l0 l1 h0 h1 s t (nothing_kept kept) k limit → Responds is_reply bounds (λ bytes. ended_lines (take limit bytes)) (λ bytes. length bytes ≡ limit + 1) l0 l1 h0 h1 s t
  Responds-limit l0 l1 h0 h1 s t k kept limit a =
      let p = Answers-start h0 h1 s t k kept (take limit a.bytes) a.answered in
      record {
        bytes = a.bytes;
        has = a.count;
        taken = a.taken;
        written = p.written;
        appended = p.appended;
        replies = ended_out h0 h1 s t k (take limit a.bytes) p;
        counted = ended_count h0 h1 s t k (take limit a.bytes) p;
      }

  pub Responds-all : (l0 l1 h0 h1 h2 : Option (List ℕ)) (s t u : ℕ) (k : Kept) (kept n limit : ℕ) → n ≤ limit → LongLines is_reply k.limit → LongBounds bounds k.limit → Advances is_reply bounds l0 l1 h0 h1 s t (nothing_kept kept) k n → Writes is_reply (shown k.bytes) h1 h2 → Rises bounds (shown k.bytes) t u → Responds is_reply bounds request_lines (λ bytes. length bytes ≤ limit) l0 l1 h0 h2 s u
  Responds-all l0 l1 h0 h1 h2 s t u k kept n limit within law bound a w r =
      let p = Answers-start h0 h1 s t k kept a.bytes a.answered in
      record {
        bytes = a.bytes;
        has = omega (arith, a.count);
        taken = a.taken;
        written = p.written ++ w.written;
        appended = Appends-trans h0 h1 h2 p.written w.written p.appended w.appended;
        replies = all_out h0 h1 s t k a.bytes w.written p law w.replies;
        counted = all_count h0 h1 s t u k a.bytes p bound r;
      }

  pub RespondsInPart-middle : (one_read : List ℕ → List ℕ → Type 0) (room limit : ℕ) (l0 l1 h0 h1 : Option (List ℕ)) (s t : ℕ) (kept : ℕ) → Breaks is_reply bounds one_read room limit l0 l1 h0 h1 s t (nothing_kept kept) → RespondsInPart is_reply bounds one_read room limit l0 l1 h0 h1 s t
  RespondsInPart-middle one_read room limit l0 l1 h0 h1 s t kept b =
      let p = Answers-start h0 b.held s b.count b.after kept b.earlier b.answered in
      let q : FrontUpTo is_reply bounds b.held h1 b.count t (p.piece ++ b.last) = b.broken.from p.piece p.no_feed p.holds in
      let whole = append-nil (b.earlier ++ b.last) in
      record {
        earlier = b.earlier;
        last = b.last;
        one_read = b.one_read;
        fits = b.fits;
        within = b.within;
        taken = b.taken;
        prompt = p.written;
        begun = q.written;
        appended = Appends-trans h0 b.held h1 p.written q.written p.appended q.appended;
        replies = ended_out h0 b.held s b.count b.after b.earlier p;
        front = inl (front-after is_reply bounds h0 b.held s b.count b.after b.earlier b.last q.written p q.front, Rises-at bounds ended_lines ((b.earlier ++ b.last) ++ []) (b.earlier ++ b.last) s t whole (counted-after is_reply bounds h0 b.held s b.count t b.after b.earlier b.last p ended_lines [] ended_lines-cut (q.counted ended_lines [] ended_lines-cut)));
      }

  -- in the response to the last line, once a read gave nothing
  RespondsInPart-end : (one_read : List ℕ → List ℕ → Type 0) (room : ℕ) (l0 l1 h0 h1 h2 : Option (List ℕ)) (s t u : ℕ) (k : Kept) (kept n limit : ℕ) → n ≤ limit → IsAtEnd l1 → LongLines is_reply k.limit → LongBounds bounds k.limit → (a : Advances is_reply bounds l0 l1 h0 h1 s t (nothing_kept kept) k n) → one_read a.bytes [] → WritesPart is_reply (shown k.bytes) h1 h2 → Rises bounds (shown k.bytes) t u → RespondsInPart is_reply bounds one_read room limit l0 l1 h0 h2 s u
  RespondsInPart-end one_read room l0 l1 h0 h1 h2 s t u k kept n limit within end law bound a once w r =
      let p = Answers-start h0 h1 s t k kept a.bytes a.answered in
      let out = all_out h0 h1 s t k a.bytes (w.written ++ w.lost) p law w.replies in
      let front : IsFront is_reply (request_lines a.bytes) (p.written ++ w.written) = (w.lost, subst (λ o. IsOut is_reply (request_lines a.bytes) o) (sym (append_assoc p.written w.written w.lost)) out) in
      let whole = append-nil a.bytes in
      record {
        earlier = a.bytes;
        last = [];
        one_read = once;
        fits = omega arith;
        within = omega (arith, ap length whole, a.count);
        taken = rw whole a.taken;
        prompt = p.written;
        begun = w.written;
        appended = Appends-trans h0 h1 h2 p.written w.written p.appended w.appended;
        replies = ended_out h0 h1 s t k a.bytes p;
        front = rw whole (inr (end, front, all_count h0 h1 s t u k a.bytes p bound r));
      }

-- ---- where the writing broke off, over the states of a source

module _ {A : Type 0} (is_reply : List ℕ → List ℕ → Type 0) (bounds : List ℕ → ℕ → Type 0) (left : A → Option (List ℕ)) (reads_once : A → A → Type 0) where
  pub Breaks-read : (room limit : ℕ) (x y : A) (h0 h1 : Option (List ℕ)) (s t : ℕ) (k0 : Kept) (buffer : List ℕ) (n m : ℕ) → m ≤ n → n ≤ length buffer → n ≤ room → n ≤ limit + 1 → Consumes (left x) (left y) (take n buffer) → reads_once x y → BreaksOff is_reply bounds h0 h1 s t k0 (take m buffer) → Breaks is_reply bounds (EndsInOneRead left reads_once x y) room limit (left x) (left y) h0 h1 s t k0
  Breaks-read room limit x y h0 h1 s t k0 buffer n m less there fits within taken once broken =
      let size = length-take-le n buffer there in
      record {
        earlier = [];
        last = take n buffer;
        one_read = one_read-only left reads_once x y (take n buffer) taken once;
        fits = omega (arith, size);
        within = omega (arith, size);
        taken = taken;
        held = h0;
        count = s;
        after = k0;
        answered = Answers-nil is_reply bounds h0 s k0;
        broken =
            let front = take-take m n buffer less in
            subst (λ b. BreaksOff is_reply bounds h0 h1 s t k0 b) (take-append-drop m (take n buffer)) (BreaksOff-more is_reply bounds h0 h1 s t k0 (take m (take n buffer)) (drop m (take n buffer)) (rw front broken));
      }

  pub Breaks-after : (room limit : ℕ) (x y z : A) (h0 h1 h2 : Option (List ℕ)) (s t u : ℕ) (k0 k1 : Kept) (n m : ℕ) → n + m ≡ limit → Advances is_reply bounds (left x) (left y) h0 h1 s t k0 k1 n → Breaks is_reply bounds (EndsInOneRead left reads_once y z) room m (left y) (left z) h1 h2 t u k1 → Breaks is_reply bounds (EndsInOneRead left reads_once x z) room limit (left x) (left z) h0 h2 s u k0
  Breaks-after room limit x y z h0 h1 h2 s t u k0 k1 n m e a b =
      let same : (a.bytes ++ b.earlier) ++ b.last ≡ a.bytes ++ (b.earlier ++ b.last) = append_assoc a.bytes b.earlier b.last in
      record {
        earlier = a.bytes ++ b.earlier;
        last = b.last;
        one_read = one_read-after left reads_once x y z a.bytes b.earlier b.last a.taken b.one_read;
        fits = b.fits;
        within = omega (arith, ap length same, length-append a.bytes (b.earlier ++ b.last), a.count, b.within);
        taken = rw same (Consumes-trans (left x) (left y) (left z) a.bytes (b.earlier ++ b.last) a.taken b.taken);
        held = b.held;
        count = b.count;
        after = b.after;
        answered = Answers-more is_reply bounds h0 h1 b.held s t b.count k0 k1 b.after a.bytes b.earlier a.answered b.answered;
        broken = b.broken;
      }

  pub RespondsInPart-last : (room : ℕ) (x y z : A) (h0 h1 h2 h3 : Option (List ℕ)) (s t u v : ℕ) (k l : Kept) (kept n m limit : ℕ) → n ≤ limit → m ≡ 0 → IsAtEnd (left z) → LongLines is_reply l.limit → LongBounds bounds l.limit → Advances is_reply bounds (left x) (left y) h0 h1 s t (nothing_kept kept) k n → Advances is_reply bounds (left y) (left z) h1 h2 t u k l m → reads_once y z → WritesPart is_reply (shown l.bytes) h2 h3 → Rises bounds (shown l.bytes) u v → RespondsInPart is_reply bounds (EndsInOneRead left reads_once x z) room limit (left x) (left z) h0 h3 s v
  unfolding Advances-more
  RespondsInPart-last room x y z h0 h1 h2 h3 s t u v k l kept n m limit within none end law bound a b once w r =
      RespondsInPart-end is_reply bounds (EndsInOneRead left reads_once x z) room (left x) (left z) h0 h2 h3 s u v l kept (n + m) limit (omega (arith, within, none)) end law bound (Advances-more is_reply bounds (left x) (left y) (left z) h0 h1 h2 s t u (nothing_kept kept) k l n m a b) (one_read-nothing left reads_once x y z a.bytes b.bytes (b.count ∙ none) a.taken b.taken once) w r
