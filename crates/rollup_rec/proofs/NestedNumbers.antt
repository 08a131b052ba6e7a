-- The intervals of nodes' numbers lie in one another, and the last number of each interval stands at its first.
use Rattle.std.proofs.Common.{◌≡◌, ℕ, zero, suc, ◌+◌, ◌<◌, ◌≤◌, true, ◌==◌, List, length, get_or, set, refl, sym, ◌∙◌, ap, arith, inl, inr, Option, Some, None, length-set, ⊎_elim}
use Rattle.std.specs.Prelude.{◌⊎◌, nat_le, slice_index, unwrap_or, option_and_then}
use Rattle.std.specs.List.{All}
use Rattle.std.proofs.lemmas.Bool.{and_from, and_parts, cases_eq, cases_lt, eq-eqb, eqb-true, le-leb, leb-true, lt-ltb, or_cases, or_left, or_right}
use Rattle.std.proofs.lemmas.List.{get_or-set_other, get_or-set_same}
use Rattle.std.proofs.lemmas.Option.{slice_get_past}
use Rattle.edm_data.specs.Hierarchies.{is_descendant, is_under, is_within, parent_of}
use Rattle.hier_index.specs.Chains.{above}
use Rattle.hier_index.specs.Indexes.{AreIntervals}
use Rattle.hier_index.proofs.ChainLaws.{descended, descends}
use Rattle.rollup_rec.specs.NodeFolds.{AreLasts, AreNested}

module _ (parents : List (Option ℕ)) (numbers lasts : List ℕ) (so : AreIntervals parents numbers lasts) where
  abbrev n : ℕ
  n = length parents

  -- a node that is under another has a number of its interval
  under-number : (x y : ℕ) → x < n → y < n → is_under parents x y ≡ true → (slice_index numbers x ≤ slice_index numbers y) × (slice_index numbers y ≤ slice_index lasts x)
  under-number x y hx hy u =
      let both = and_parts (nat_le (slice_index numbers x) (slice_index numbers y)) (nat_le (slice_index numbers y) (slice_index lasts x)) (sym (so.under x y hx hy) ∙ u) in
      (leb-true (slice_index numbers x) (slice_index numbers y) both.0, leb-true (slice_index numbers y) (slice_index lasts x) both.1)

  number-under : (x y : ℕ) → x < n → y < n → slice_index numbers x ≤ slice_index numbers y → slice_index numbers y ≤ slice_index lasts x → is_under parents x y ≡ true
  number-under x y hx hy low high = so.under x y hx hy ∙ and_from _ _ (le-leb (slice_index numbers x) (slice_index numbers y) low) (le-leb (slice_index numbers y) (slice_index lasts x) high)

  pub own-within : (x : ℕ) → x < n → slice_index numbers x ≤ slice_index lasts x
  own-within x hx = (under-number x x hx hx (or_left (x == x) (is_descendant parents None x x) (eq-eqb x x refl))).1

  within-none : (d : ℕ) → 0 < d → is_within None d ≡ true
  within-none d h = and_from _ _ (lt-ltb 0 d h) refl

  -- a parent has a lesser number, or is the node itself
  parent-less : (y p : ℕ) → y < n → p < n → parent_of parents y ≡ Some p → (p ≡ y) ⊎ (slice_index numbers p < slice_index numbers y)
  parent-less y p hy hp up = ⊎_elim
      (λ (e : p ≡ y). inl e)
      (λ (other : p ≡ y → ⊥).
      let two : 1 < n = ⊎_elim (λ (l : 1 < n). l) (λ (g : n ≤ 1). absurd (other (omega (arith, g, hy, hp)))) (cases_lt 1 n) in
      let at : above parents 1 y ≡ Some p = ap (option_and_then (above parents 0)) up in
      let down = or_right (p == y) (is_descendant parents None p y) (descends parents None p y 1 two (within-none 1 (omega arith)) at) in
      let low = under-number p y hp hy down in
      let differ : slice_index numbers p ≡ slice_index numbers y → ⊥ = λ e. other (so.one p y hp hy e) in
      inr (⊎_elim (λ (e : slice_index numbers p ≡ slice_index numbers y). absurd (differ e)) (λ (q : slice_index numbers p ≡ slice_index numbers y → ⊥). omega (arith, q, low.0)) (cases_eq (slice_index numbers p) (slice_index numbers y))))
      (cases_eq p y)

  -- what stands above it stands not further above it than their numbers are apart
  reached : (d x y : ℕ) → x < n → y < n → above parents d y ≡ Some x → (e : ℕ) × (above parents e y ≡ Some x) × (e + slice_index numbers x ≤ slice_index numbers y)
  reached zero x y hx hy at = let same : y ≡ x = cc in (0, at, omega (arith, ap (λ z. slice_index numbers z) same))
  reached (suc d) x y hx hy at = go (λ p hp rest. reached d x p hx hp rest) (parent_of parents y) refl
    where
      go : ((p : ℕ) → p < n → above parents d p ≡ Some x → (e : ℕ) × (above parents e p ≡ Some x) × (e + slice_index numbers x ≤ slice_index numbers p)) → (o : Option ℕ) → parent_of parents y ≡ o → (e : ℕ) × (above parents e y ≡ Some x) × (e + slice_index numbers x ≤ slice_index numbers y)
      go again None up = absurd (let none : None ≡ Some x = sym (ap (option_and_then (above parents d)) up) ∙ at in cc)
      go again (Some p) up =
          let rest : above parents d p ≡ Some x = sym (ap (option_and_then (above parents d)) up) ∙ at in
          ⊎_elim
          (λ (hp : p < n).
          let r = again p hp rest in
          ⊎_elim
          (λ (e : p ≡ y). (r.0, ap (above parents r.0) (sym e) ∙ r.1, omega (arith, r.2, ap (λ z. slice_index numbers z) e)))
          (λ (less : slice_index numbers p < slice_index numbers y). (suc r.0, ap (option_and_then (above parents r.0)) up ∙ r.1, omega (arith, r.2, less)))
          (parent-less y p hy hp up))
          (λ (out : n ≤ p). absurd (outside d p out rest))
          (cases_lt p n)
        where
          outside : (d p : ℕ) → n ≤ p → above parents d p ≡ Some x → ⊥
          outside zero p out at = let same : p ≡ x = cc in omega (arith, same, hx, out)
          outside (suc d) p out at =
              let none : parent_of parents p ≡ None = ap (λ o. unwrap_or o None) (slice_get_past parents p out) in
              let gone : None ≡ Some x = sym (ap (option_and_then (above parents d)) none) ∙ at in
              cc

  number-fits : (x : ℕ) → x < n → slice_index numbers x < n
  number-fits x hx = let a = own-within x hx in let b = so.fits x hx in omega (arith, a, b)

  above-under : (d x y : ℕ) → x < n → y < n → above parents d y ≡ Some x → is_under parents x y ≡ true
  above-under d x y hx hy at =
      let r = reached d x y hx hy at in
      let fits = number-fits y hy in
      go r.0 r.1 (omega (arith, r.2, fits))
    where
      go : (e : ℕ) → above parents e y ≡ Some x → e < n → is_under parents x y ≡ true
      go zero at less = let same : y ≡ x = cc in or_left (x == y) (is_descendant parents None x y) (eq-eqb x y (sym same))
      go (suc e) at less = or_right (x == y) (is_descendant parents None x y) (descends parents None x y (suc e) less (within-none (suc e) (omega arith)) at)

  under-above : (x y : ℕ) → is_under parents x y ≡ true → (d : ℕ) × (above parents d y ≡ Some x)
  under-above x y u = ⊎_elim
      (λ e. (0, ap (λ z. Some z) (sym (eqb-true x y e))))
      (λ d. let r = descended parents None x y d in (r.0, r.3))
      (or_cases (x == y) (is_descendant parents None x y) u)

  above-twice : (d e f x y z : ℕ) → f ≡ e + d → above parents d y ≡ Some x → above parents e z ≡ Some y → above parents f z ≡ Some x
  above-twice d zero f x y z sum at on =
      let same : z ≡ y = cc in
      let whole : f ≡ d = omega (arith, sum) in
      (λ i. above parents (whole i) (same i)) ∙ at
  above-twice d (suc e) zero x y z sum at on = absurd (omega (arith, sum))
  above-twice d (suc e) (suc f) x y z sum at on = go (λ p rest. above-twice d e f x y p (omega (arith, sum)) at rest) (parent_of parents z) refl
    where
      go : ((p : ℕ) → above parents e p ≡ Some y → above parents f p ≡ Some x) → (o : Option ℕ) → parent_of parents z ≡ o → above parents (suc f) z ≡ Some x
      go again None up = absurd (let none : None ≡ Some y = sym (ap (option_and_then (above parents e)) up) ∙ on in cc)
      go again (Some p) up =
          let rest : above parents e p ≡ Some y = sym (ap (option_and_then (above parents e)) up) ∙ on in
          ap (option_and_then (above parents f)) up ∙ again p rest

  pub are-nested : AreNested numbers lasts
  are-nested =
      let size = so.numbers_size in
      record {
        within = λ x hx. own-within x (omega (arith, hx, size));
        fits = λ x hx. let f = so.fits x (omega (arith, hx, size)) in omega (arith, f, size);
        nested = λ x y z hx hy hz xy yl yz zl.
            let a = under-above x y (number-under x y (omega (arith, hx, size)) (omega (arith, hy, size)) xy yl) in
            let b = under-above y z (number-under y z (omega (arith, hy, size)) (omega (arith, hz, size)) yz zl) in
            (under-number x z (omega (arith, hx, size)) (omega (arith, hz, size)) (above-under (b.0 + a.0) x z (omega (arith, hx, size)) (omega (arith, hz, size)) (above-twice a.0 b.0 (b.0 + a.0) x y z refl a.1 b.1))).1;
      }

-- ---- last numbers at the numbers of their nodes

module _ (numbers lasts : List ℕ) where
  pub no-lasts : (found : List ℕ) → length found ≡ length numbers → ((j d : ℕ) → j < length found → get_or found j d ≡ 0) → AreLasts numbers lasts 0 found
  no-lasts found size none = record {
    size = size;
    known = λ x h. absurd (omega arith);
    told = λ j h. inl (none j 0 h);
  }

  pub lasts-more : (n : ℕ) (found : List ℕ) → n < length numbers → All (λ k. k < length numbers) numbers → ((x y : ℕ) → x < length numbers → y < length numbers → slice_index numbers x ≡ slice_index numbers y → x ≡ y)
      → AreLasts numbers lasts n found → AreLasts numbers lasts (n + 1) (set found (slice_index numbers n) (slice_index lasts n))
  lasts-more n found h within one so =
      let j : ℕ = slice_index numbers n in
      let l : ℕ = slice_index lasts n in
      let size = so.size in
      let there : j < length found = omega (arith, within n 0 h, size) in
      record {
        size = length-set found j l ∙ so.size;
        known = λ x hx. ⊎_elim
            (λ (e : x ≡ n). ap (λ z. slice_index (set found j l) (slice_index numbers z)) e ∙ get_or-set_same found j l 0 there ∙ ap (λ z. slice_index lasts z) (sym e))
            (λ (q : x ≡ n → ⊥). get_or-set_other found j (slice_index numbers x) l 0 (λ e. q (one x n (omega (arith, hx, h)) h e)) ∙ so.known x (omega (arith, hx, q)))
            (cases_eq x n);
        told = λ i hi. ⊎_elim
            (λ (e : i ≡ j). inr (n, omega arith, sym e, ap (λ z. slice_index (set found j l) z) e ∙ get_or-set_same found j l 0 there))
            (λ (q : i ≡ j → ⊥). ⊎_elim
            (λ (none : slice_index found i ≡ 0). inl (get_or-set_other found j i l 0 q ∙ none))
            (λ (some : (x : ℕ) × (x < n) × (slice_index numbers x ≡ i) × (slice_index found i ≡ slice_index lasts x)). inr (some.0, omega (arith, some.1), some.2, get_or-set_other found j i l 0 q ∙ some.3))
            (so.told i (omega (arith, hi, length-set found j l))))
            (cases_eq i j);
      }
