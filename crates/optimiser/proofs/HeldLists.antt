-- Segments as lists: a filter that goes past some of them, and those at the end.
use Rattle.std.proofs.Common.{◌≡◌, add-one, refl, sym, ◌∙◌, ap, arith, subst, ℕ, ◌<◌, ◌≤◌, ◌+◌, ◌-◌, ◌==◌, Bool, true, false, not, ◌&&◌, ◌||◌, List, [], ◌∷◌, ◌++◌, Some, drop, get_or, length, map, reverse, set, take}
use Rattle.std.specs.Prelude.{if◌then◌else◌, slice_get}
use Rattle.std.specs.List.{list_all}
use Rattle.std.proofs.Math.Dec.{eqb-suc-zero}
use Rattle.std.proofs.lemmas.Bool.{true≢false}
use Rattle.std.proofs.lemmas.Bool.{and_parts}
use Rattle.std.proofs.lemmas.List.Folds.{list_all-append, list_all_at}
use Rattle.std.proofs.lemmas.Option.{get_or_from_slice_get, slice_get_within}
use Rattle.std.proofs.lemmas.List.{append_assoc, drop_all, drop_more, get_or_default, map-append, reverse-append, set_split, take_all, take_more}
use Rattle.edm_values.specs.Lists.{is_nonempty}
use Rattle.edm_model.specs.Models.{Model}
use Rattle.apply_ast.specs.Trees.{Expr}
use Rattle.apply_ast.specs.declared.expressions.BinOp.TheVariants as BinOp
use Rattle.context_typing.specs.Shapes.{Shape}
use Rattle.context_typing.specs.Typing.{is_sure}
use Rattle.rewrite_forms.proofs.CutLists.{dropped-next}
use Rattle.walk_laws.specs.Walks as spec
use Rattle.optimiser.specs.HeldSegments.{Frame, GoesTo, IsPast, outline, segment_of, segments_of, test_of}
use Rattle.optimiser.specs.declared.held.Entry.{Entry}
use Rattle.optimiser.specs.declared.held.Head.{Head}
use Rattle.optimiser.specs.declared.held.Test.{Test}
use Rattle.optimiser.specs.declared.held.Segment.{Segment}

pub reverse-cons : {X : Type 0} (x : X) (xs : List X) → reverse (x ∷ xs) ≡ reverse xs ++ x ∷ []
reverse-cons x xs = reverse-append (x ∷ []) xs

module _ (m : Model) (w : Frame) where
  seen : Segment → spec.Segment
  seen = segment_of m w

  -- one more segment stands first
  pub segments-push : (gs : List Segment) (g : Segment) → segments_of m w (gs ++ g ∷ []) ≡ segment_of m w g ∷ segments_of m w gs
  segments-push gs g = ap reverse (map-append (segment_of m w) gs (g ∷ [])) ∙ reverse-append (map (segment_of m w) gs) (segment_of m w g ∷ [])

  -- ---- a filter that goes to the front

  pub past-none : (t : spec.Test) (gs : List Segment) → IsPast m w t gs (length gs)
  past-none t gs =
      let all : length gs ≤ length gs = omega arith in
      λ i. reverse (map (segment_of m w) (sym (drop_all (length gs) gs all) i)) ++ spec.put_test t (segments_of m w (sym (take_all (length gs) gs all) i))

  -- the segments up to a place, and those from it on
  module _ (gs : List Segment) (k j : ℕ) (next : k ≡ j + 1) (within : j < length gs) (g : Segment) (is : g ≡ get_or gs j g) where
    before : segments_of m w (take k gs) ≡ segment_of m w g ∷ segments_of m w (take j gs)
    before = ap (λ n. segments_of m w (take n gs)) next ∙ ap (segments_of m w) (take_more gs j g within) ∙ ap (λ x. segments_of m w (take j gs ++ x ∷ [])) (sym is) ∙ segments-push (take j gs) g

    behind : reverse (map (segment_of m w) (drop j gs)) ≡ reverse (map (segment_of m w) (drop k gs)) ++ segment_of m w g ∷ []
    behind =
        ap (λ l. reverse (map (segment_of m w) l)) (drop_more gs j g within ∙ (λ i. sym is i ∷ drop (sym next i) gs))
        ∙ reverse-cons (segment_of m w g) (map (segment_of m w) (drop k gs))

    pub past-more : (t : spec.Test) → spec.segment_passed (segment_of m w g) t ≡ true → IsPast m w t gs k → IsPast m w t gs j
    past-more t h past =
        past
        ∙ ap (λ l. reverse (map (segment_of m w) (drop k gs)) ++ spec.put_test t l) before
        ∙ ap (λ b. reverse (map (segment_of m w) (drop k gs)) ++ (if b then segment_of m w g ∷ spec.put_test t (segments_of m w (take j gs)) else spec.taken (segment_of m w g) t ∷ segments_of m w (take j gs))) h
        ∙ sym (append_assoc (reverse (map (segment_of m w) (drop k gs))) (segment_of m w g ∷ []) (spec.put_test t (segments_of m w (take j gs))))
        ∙ ap (λ l. l ++ spec.put_test t (segments_of m w (take j gs))) (sym behind)

    -- the segment at a place, changed
    set-segments : (g' : Segment) → segments_of m w (set gs j g') ≡ reverse (map (segment_of m w) (drop k gs)) ++ (segment_of m w) g' ∷ segments_of m w (take j gs)
    set-segments g' =
        ap (segments_of m w) (set_split gs j g' within ∙ (λ i. take j gs ++ g' ∷ drop (sym (next ∙ add-one j) i) gs))
        ∙ ap reverse (map-append (segment_of m w) (take j gs) (g' ∷ drop k gs))
        ∙ reverse-append (map (segment_of m w) (take j gs)) ((segment_of m w) g' ∷ map (segment_of m w) (drop k gs))
        ∙ ap (λ l. l ++ segments_of m w (take j gs)) (reverse-cons ((segment_of m w) g') (map (segment_of m w) (drop k gs)))
        ∙ append_assoc (reverse (map (segment_of m w) (drop k gs))) ((segment_of m w) g' ∷ []) (segments_of m w (take j gs))

    past-stop : (t : spec.Test) (g' : Segment) → (segment_of m w) g' ≡ spec.taken (segment_of m w g) t → spec.segment_passed (segment_of m w g) t ≡ false → IsPast m w t gs k → segments_of m w (set gs j g') ≡ spec.put_test t (segments_of m w gs)
    past-stop t g' e h past =
        set-segments g'
        ∙ ap (λ x. reverse (map (segment_of m w) (drop k gs)) ++ x ∷ segments_of m w (take j gs)) e
        ∙ ap (λ b. reverse (map (segment_of m w) (drop k gs)) ++ (if b then segment_of m w g ∷ spec.put_test t (segments_of m w (take j gs)) else spec.taken (segment_of m w g) t ∷ segments_of m w (take j gs))) (sym h)
        ∙ ap (λ l. reverse (map (segment_of m w) (drop k gs)) ++ spec.put_test t l) (sym before)
        ∙ sym past

  -- the last segment stands first
  pub last-first : (gs : List Segment) (g : Segment) → Some g ≡ slice_get gs (length gs - 1) → segments_of m w gs ≡ segment_of m w g ∷ segments_of m w (take (length gs - 1) gs)
  last-first gs g e =
      let within : length gs - 1 < length gs = slice_get_within gs (length gs - 1) g (sym e) in
      let next : length gs ≡ (length gs - 1) + 1 = omega (arith, within) in
      let all : length gs ≤ length gs = omega arith in
      ap (segments_of m w) (sym (take_all (length gs) gs all)) ∙ before gs (length gs) (length gs - 1) next within g (sym (get_or_from_slice_get gs (length gs - 1) g g (sym e)))

  -- two reads of one place
  same-read : (gs : List Segment) (j : ℕ) (g x : Segment) → j < length gs → g ≡ get_or gs j g → x ≡ get_or gs j x → x ≡ g
  same-read gs j g x within a b = b ∙ get_or_default gs j x g within ∙ sym a

  pub goes-to : (t : spec.Test) (gs : List Segment) (k : ℕ) (x : Segment) → k ≤ length gs → IsPast m w t gs k → 0 < k → x ≡ get_or gs (k - 1) x → spec.segment_passed ((segment_of m w) x) t ≡ false → GoesTo m w t gs k
  goes-to t gs k x within past some is h = record {
    past = past;
    stops = λ g lt e. let at : k - 1 < length gs = omega arith in ap (λ y. spec.segment_passed ((segment_of m w) y) t) (same-read gs (k - 1) x g at is e) ∙ h;
  }

  pub goes-first : (t : spec.Test) (gs : List Segment) → IsPast m w t gs 0 → GoesTo m w t gs 0
  goes-first t gs past = record { past = past; stops = λ g lt e. absurd (omega (arith, lt)) }

  -- the segment that a filter does not pass, with the filter behind it
  pub put-at : (t : Test) (gs xs : List Segment) (k : ℕ) (g g' : Segment) → xs ≡ gs → GoesTo m w (test_of t) xs k → k ≤ length xs → 0 < k → g ≡ get_or gs (k - 1) g → (segment_of m w) g' ≡ spec.taken (segment_of m w g) (test_of t) → segments_of m w (set gs (k - 1) g') ≡ spec.put_test (test_of t) (segments_of m w gs)
  put-at t gs xs k g g' e goes within some is made =
      let goes' : GoesTo m w (test_of t) gs k = subst (λ (l : List Segment). GoesTo m w (test_of t) l k) e goes in
      let n = ap length e in
      let next : k ≡ (k - 1) + 1 = omega arith in
      let at : k - 1 < length gs = omega (arith, n) in
      past-stop gs k (k - 1) next at g is (test_of t) g' made (goes'.stops g some is) goes'.past

-- what holds of all holds of the one at a place
pub all-at : {X : Type 0} (p : X → Bool) (xs : List X) (i : ℕ) (d : X) → i < length xs → list_all p xs ≡ true → p (get_or xs i d) ≡ true
all-at p xs i d h a = go (p (get_or xs i d)) refl
  where
    go : (b : Bool) → p (get_or xs i d) ≡ b → b ≡ true
    go true e = refl
    go false e = sym (list_all_at p xs i d h e) ∙ a

-- ---- a filter passes others

none-of : {X : Type 0} {Y : Type 0} (f : X → Y) (xs : List X) → (length xs == 0) ≡ not (is_nonempty (map f xs))
none-of f [] = refl
none-of f (x ∷ xs) = eqb-suc-zero (length xs)

all-sure : (ts : List Test) → list_all (λ u. u.sure) ts ≡ list_all (λ u. u.sure) (map test_of ts)
all-sure [] = refl
all-sure (t ∷ ts) = ap (λ b. t.sure && b) (all-sure ts)

-- as the program tests it
pub passed-form : (ts : List Test) (t : Test) → (length ts == 0 || (list_all (λ u. u.sure) ts && t.sure)) ≡ spec.tests_passed (map test_of ts) (test_of t)
passed-form ts t = λ i. none-of test_of ts i || (all-sure ts i && t.sure)

-- ---- filters one after the other

put_tests-append : (xs ys : List spec.Test) (gs : List spec.Segment) → spec.put_tests (xs ++ ys) gs ≡ spec.put_tests ys (spec.put_tests xs gs)
put_tests-append [] ys gs = refl
put_tests-append (x ∷ xs) ys gs = put_tests-append xs ys (spec.put_test x gs)

-- a conjunction that is split puts the parts of its left operand, and then those of its right one
pub put-both : (m : Model) (S : Shape) (a b : Expr) (gs : List spec.Segment) → is_sure m S b ≡ true → spec.put_filter m S b (spec.put_filter m S a gs) ≡ spec.put_filter m S (Expr.Binary BinOp.And a b) gs
put-both m S a b gs sure =
    sym (put_tests-append (map (spec.judged m S) (spec.parts m S a)) (map (spec.judged m S) (spec.parts m S b)) gs)
    ∙ ap (λ l. spec.put_tests l gs) (sym (map-append (spec.judged m S) (spec.parts m S a) (spec.parts m S b)))
    ∙ ap (λ v. spec.put_tests (map (spec.judged m S) (if v then spec.parts m S a ++ spec.parts m S b else Expr.Binary BinOp.And a b ∷ [])) gs) (sym sure)

-- no filters
pub no-tests : (ts : List Test) → (length ts == 0) ≡ true → is_nonempty (map test_of ts) ≡ false
no-tests [] h = refl
no-tests (t ∷ ts) h = absurd (true≢false (sym h ∙ eqb-suc-zero (length ts)))

-- before a filter of a list and behind it
pub filters-next : {X : Type 0} (m : Model) (S : Shape) (f : X → Expr) (xs : List X) (i : ℕ) (d : X) (e : Expr) (gs gs' : List spec.Segment) → i < length xs → d ≡ get_or xs i d → e ≡ f d → gs' ≡ spec.put_filter m S e gs
    → spec.put_filters m S (map f (drop (i + 1) xs)) gs' ≡ spec.put_filters m S (map f (drop i xs)) gs
filters-next m S f xs i d e gs gs' h is same put =
    (λ k. spec.put_filters m S (map f (drop (i + 1) xs)) ((put ∙ ap (λ e. spec.put_filter m S e gs) same) k))
    ∙ ap (λ l. spec.put_filters m S l gs) (sym (dropped-next f xs i d h is))

-- what holds of each segment of a list holds of each of its first ones
pub kept-part : (p : Head × Entry → Bool) (gs gs' os : List Segment) → gs ≡ gs' ++ os → list_all p (map outline gs) ≡ true → list_all p (map outline gs') ≡ true
kept-part p gs gs' os e h =
    (and_parts (list_all p (map outline gs')) (list_all p (map outline os)) (sym (ap (λ l. list_all p (map outline l)) e ∙ ap (list_all p) (map-append outline gs' os) ∙ list_all-append p (map outline gs') (map outline os)) ∙ h)).0
