-- How far a count rose over lines that were answered one after another.
use Rattle.std.proofs.Common.{◌≡◌, ℕ, ◌+◌, ◌<◌, ◌≤◌, List, [], ◌∷◌, ◌++◌, length, sym, subst, arith, inl, inr}
use Rattle.line_stream.specs.Lines.{shown}
use Rattle.line_stream.specs.Costs.{BoundsAll, Rises, Leaves}
use Rattle.line_stream.proofs.Buffered.{StandsFor}
use Rattle.line_stream.proofs.Responding.{shown-some}

module _ (bounds : List ℕ → ℕ → Type 0) where
  -- what bounds the cost of a line longer than the limit bounds those of all such lines
  abbrev pub LongBounds : ℕ → Type 0
  LongBounds limit = (line other : List ℕ) (n : ℕ) → limit < length line → limit < length other → bounds line n → bounds other n

  -- ---- lines in two parts

  pub BoundsAll-split : (ls ms : List (List ℕ)) (n : ℕ) → BoundsAll bounds (ls ++ ms) n → (a : ℕ) × (b : ℕ) × BoundsAll bounds ls a × BoundsAll bounds ms b × (a + b ≤ n)
  BoundsAll-split [] ms n h = (0, n, tt, h, omega arith)
  BoundsAll-split (l ∷ ls) ms n h =
      let p = BoundsAll-split ls ms h.1 h.3 in
      let sum : (h.0 + p.0) + p.1 ≤ n = omega (arith, h.4, p.4) in
      (h.0 + p.0, p.1, (h.0, p.0, h.2, p.2, omega arith), p.3, sum)

  long_bounds : (limit : ℕ) (bytes line : List ℕ) (n : ℕ) → LongBounds limit → limit < length bytes → limit < length line → BoundsAll bounds (shown line) n → BoundsAll bounds (shown bytes) n
  long_bounds limit [] line n law long long' h = absurd (omega arith)
  long_bounds limit (b ∷ bytes) [] n law long long' h = absurd (omega arith)
  long_bounds limit (b ∷ bytes) (c ∷ line) n law long long' h =
      let one = subst (λ ls. BoundsAll bounds ls n) (shown-some c line) h in
      subst (λ ls. BoundsAll bounds ls n) (sym (shown-some b bytes)) (one.0, one.1, law (c ∷ line) (b ∷ bytes) one.0 long' long one.2, one.3, one.4)

  -- what bounds the cost of a line bounds that of what is kept of it
  BoundsAll-stands : (limit : ℕ) (bytes line : List ℕ) (n : ℕ) → LongBounds limit → StandsFor limit bytes line → BoundsAll bounds (shown line) n → BoundsAll bounds (shown bytes) n
  BoundsAll-stands limit bytes line n law (inl e) h = subst (λ t. BoundsAll bounds (shown t) n) (sym e) h
  BoundsAll-stands limit bytes line n law (inr long) h = long_bounds limit bytes line n law long.0 long.1 h

  -- ---- one line

  -- the count stands still
  pub Rises-still : (lines : List (List ℕ)) (a : ℕ) → Rises bounds lines a a
  Rises-still lines a = record { within = λ n h. omega arith; grown = omega arith }

  pub Rises-one : (line : List ℕ) (a b : ℕ) → 0 < length line → a ≤ b → ((n : ℕ) → bounds line n → b ≤ a + n) → Rises bounds (shown line) a b
  Rises-one [] a b some grown h = absurd (omega arith)
  Rises-one (c ∷ line) a b some grown h = record {
    within = λ n g.
        let one = subst (λ ls. BoundsAll bounds ls n) (shown-some c line) g in
        let rose = h one.0 one.2 in
        omega (arith, rose, one.4);
    grown = grown;
  }

  -- ---- what is left

  pub Leaves-same : (ls : List (List ℕ)) (c : ℕ) → Leaves bounds ls ls c c
  Leaves-same ls c = record { over = λ n h. (n, h, omega arith); grown = omega arith }

  pub Leaves-more : (ls ms ns : List (List ℕ)) (a b c : ℕ) → Leaves bounds ls ms a b → Leaves bounds ms ns b c → Leaves bounds ls ns a c
  Leaves-more ls ms ns a b c h k = record {
    over = λ n g.
        let p = h.over n g in
        let q = k.over p.0 p.1 in
        (q.0, q.1, omega (arith, p.2, q.2));
    grown = omega (arith, h.grown, k.grown);
  }

  -- the same bytes have the same lines
  pub Leaves-at : (lines : List ℕ → List (List ℕ)) (bytes other rest : List ℕ) (a b : ℕ) → bytes ≡ other → Leaves bounds (lines bytes) (lines rest) a b → Leaves bounds (lines other) (lines rest) a b
  Leaves-at lines bytes other rest a b e h = subst (λ t. Leaves bounds (lines t) (lines rest) a b) e h

  pub Rises-at : (lines : List ℕ → List (List ℕ)) (bytes other : List ℕ) (a b : ℕ) → bytes ≡ other → Rises bounds (lines bytes) a b → Rises bounds (lines other) a b
  Rises-at lines bytes other a b e h = subst (λ t. Rises bounds (lines t) a b) e h

  -- the first line was answered, of which this was kept
  pub Leaves-line : (limit : ℕ) (kept line : List ℕ) (rest : List (List ℕ)) (a b : ℕ) → LongBounds limit → StandsFor limit kept line → Rises bounds (shown kept) a b → Leaves bounds (shown line ++ rest) rest a b
  Leaves-line limit kept line rest a b law same r = record {
    over = λ n h.
        let p = BoundsAll-split (shown line) rest n h in
        let rose = r.within p.0 (BoundsAll-stands limit kept line p.0 law same p.2) in
        (p.1, p.3, omega (arith, rose, p.4));
    grown = r.grown;
  }

  pub Rises-left : (ls ms : List (List ℕ)) (a b : ℕ) → Leaves bounds ls ms a b → Rises bounds ls a b
  Rises-left ls ms a b h = record { within = λ n g. let p = h.over n g in omega (arith, p.2); grown = h.grown }

  pub Rises-after : (ls ms : List (List ℕ)) (a b c : ℕ) → Leaves bounds ls ms a b → Rises bounds ms b c → Rises bounds ls a c
  Rises-after ls ms a b c h r = record {
    within = λ n g.
        let p = h.over n g in
        let rose = r.within p.0 p.1 in
        omega (arith, p.2, rose);
    grown = omega (arith, h.grown, r.grown);
  }

  -- the last line was answered, of which this was kept
  pub Rises-line : (limit : ℕ) (kept line : List ℕ) (a b : ℕ) → LongBounds limit → StandsFor limit kept line → Rises bounds (shown kept) a b → Rises bounds (shown line) a b
  Rises-line limit kept line a b law same r = record {
    within = λ n h. r.within n (BoundsAll-stands limit kept line n law same h);
    grown = r.grown;
  }

  -- ---- one part after the other

  pub Rises-both : (ls ms : List (List ℕ)) (a b c : ℕ) → Rises bounds ls a b → Rises bounds ms b c → Rises bounds (ls ++ ms) a c
  Rises-both ls ms a b c h k = record {
    within = λ n g.
        let p = BoundsAll-split ls ms n g in
        let first = h.within p.0 p.2 in
        let second = k.within p.1 p.3 in
        omega (arith, first, second, p.4);
    grown = omega (arith, h.grown, k.grown);
  }
