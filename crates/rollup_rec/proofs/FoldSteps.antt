-- What is kept of each number, from one row to the next.
use Rattle.std.proofs.Common.{◌≡◌, ℕ, ◌+◌, ◌-◌, ◌<◌, ◌≤◌, cond, List, [], ◌∷◌, ◌++◌, length, get_or, set, refl, sym, ◌∙◌, ap, subst, arith, Option, Some, None, IfSome, length-append, length-set, ⊎_elim}
use Rattle.std.specs.Prelude.{reverse, slice_get, slice_index}
use Rattle.std.specs.List.{All}
use Rattle.std.proofs.lemmas.Bool.{cases_eq, eq-eqb, ne_eqb}
use Rattle.std.proofs.lemmas.List.{append-nil, get_or-set_other, get_or-set_same, get_or-reverse, get_or_append_left, get_or_push, length-reverse}
use Rattle.edm_values.specs.declared.Value.{Value}
use Rattle.edm_values.specs.declared.Method.{Method}
use Rattle.edm_values.specs.Lists.{at_places}
use Rattle.apply_meaning.specs.Aggregates.{aggregate}
use Rattle.aggregate_ops.specs.Partials as partials
use Rattle.rollup_rec.specs.NodeFolds.{AreAggregates, AreFolds, AreKept, AreLasts, AreNested, AreOpen, ArePast, HasRuns, HasValues, IsLast, rows_between}
use Rattle.rollup_rec.specs.NodeRows.{rows_at}
use Rattle.rollup_rec.proofs.NodeRowSteps.{at-few, row-with, row-without}
use Rattle.rollup_rec.proofs.NodeFoldLaws.{has-count, has-more, has-none, has-other, rows-of-one, runs-open, value-is}

module _ {P K : Type 0} (kind : P → K) (stands : P → List (Value × ℕ) → Type 0) (k : K) (numbers : List ℕ) (nodes : List (Option ℕ)) (vs : List Value) (count : ℕ) where
  abbrev Folds : ℕ → List P → Type 0
  Folds n ps = AreFolds kind stands k numbers nodes vs count n ps

  pub folds-none : (ps : List P) → length ps ≡ count → All (λ p. kind p ≡ k) ps → All (λ p. stands p []) ps → Folds 0 ps
  folds-none ps size kinds empty = record {
    size = size;
    each = λ j d h. let there : j < length ps = omega (arith, h, size) in has-none kind stands k vs (get_or ps j d) (kinds j d there) (empty j d there);
  }

  pub folds-without : (row : ℕ) (ps : List P) → slice_get nodes row ≡ Some None → Folds row ps → Folds (row + 1) ps
  folds-without row ps none so = record {
    size = so.size;
    each = λ j d h. has-other kind stands k vs (rows_at numbers nodes row j) (rows_at numbers nodes (row + 1) j) (get_or ps j d) (sym (row-without numbers nodes row j none)) (so.each j d h);
  }

  -- what is kept of a number
  pub folds-kept : (row number : ℕ) (ps : List P) (p : P) → p ≡ get_or ps number p → number < count → Folds row ps → HasValues kind stands k vs (rows_at numbers nodes row number) p
  folds-kept row number ps p is h so = subst (HasValues kind stands k vs (rows_at numbers nodes row number)) (sym is) (so.each number p h)

  pub folds-room : (counts : P → ℕ) → ((p : P) (xs : List (Value × ℕ)) → stands p xs → counts p ≡ length xs) → (row number : ℕ) (ps : List P) (p : P) → p ≡ get_or ps number p → number < count → Folds row ps → counts p ≤ row
  folds-room counts counted row number ps p is h so =
      let few = has-count kind stands k vs counts counted (rows_at numbers nodes row number) p (folds-kept row number ps p is h so) in
      let most = at-few numbers nodes row number in
      omega (arith, few, most)

  pub folds-with : (row y : ℕ) (ps : List P) (p q : P) (v : Value) → slice_get nodes row ≡ Some (Some y) → slice_index numbers y < count → p ≡ get_or ps (slice_index numbers y) p → slice_get vs row ≡ Some v → kind q ≡ kind p
      → ((xs : List (Value × ℕ)) → stands p xs → stands q (xs ++ (v, row) ∷ [])) → Folds row ps → Folds (row + 1) (set ps (slice_index numbers y) q)
  folds-with row y ps p q v node there is read same made so =
      let number : ℕ = slice_index numbers y in
      let size = so.size in
      let long : number < length ps = omega (arith, there, size) in
      record {
        size = length-set ps number q ∙ so.size;
        each = λ j d h. ⊎_elim
            (λ (e : j ≡ number).
            subst (HasValues kind stands k vs (rows_at numbers nodes (row + 1) j)) (sym (ap (λ i. get_or (set ps number q) i d) e ∙ get_or-set_same ps number q d long))
            (has-more kind stands k vs (rows_at numbers nodes row number) (rows_at numbers nodes (row + 1) j) p q v row (folds-kept row number ps p is there so)
            (ap (λ i. rows_at numbers nodes (row + 1) i) e ∙ row-with numbers nodes row number y node ∙ ap (λ b. rows_at numbers nodes row number ++ cond b (row ∷ []) []) (eq-eqb number number refl))
            read same made))
            (λ (other : j ≡ number → ⊥).
            subst (HasValues kind stands k vs (rows_at numbers nodes (row + 1) j)) (sym (get_or-set_other ps number j q d other))
            (has-other kind stands k vs (rows_at numbers nodes row j) (rows_at numbers nodes (row + 1) j) (get_or ps j d)
            (sym (row-with numbers nodes row j y node ∙ ap (λ b. rows_at numbers nodes row j ++ cond b (row ∷ []) []) (ne_eqb number j (λ e. other (sym e))) ∙ append-nil (rows_at numbers nodes row j)))
            (so.each j d h)))
            (cases_eq j number);
      }

-- ---- what is found, from the last number on

-- the element that was put behind, and those before it
pub found-next : {X : Type 0} (found : List X) (v d : X) (i : ℕ) → i < length found + 1 → (P : X → Type 0) → (i ≡ length found → P v) → (i < length found → P (get_or found i d)) → P (get_or (found ++ v ∷ []) i d)
found-next found v d i h P last before = ⊎_elim
    (λ (e : i ≡ length found). subst P (sym (get_or_push found v d i (sym e))) (last e))
    (λ (q : i ≡ length found → ⊥). let less : i < length found = omega (arith, q, h) in subst P (sym (get_or_append_left found (v ∷ []) d i less)) (before less))
    (cases_eq i (length found))

-- the list without its last element
pub front-is : {X : Type 0} (xs : List X) (x d : X) (j : ℕ) → j < length xs → get_or (xs ++ x ∷ []) j d ≡ get_or xs j d
front-is xs x d j h = get_or_append_left xs (x ∷ []) d j h

pub back-is : {X : Type 0} (xs : List X) (x d : X) → get_or (xs ++ x ∷ []) (length xs) d ≡ x
back-is xs x d = get_or_push xs x d (length xs) refl

-- ---- from one number to the next lesser one

module _ {P K : Type 0} (kind : P → K) (stands : P → List (Value × ℕ) → Type 0) (k : K) (vs : List Value) (numbers lasts : List ℕ) (nodes : List (Option ℕ)) (m : Method) where
  -- what is kept of numbers
  abbrev Own : List P → Type 0
  Own ps = (j : ℕ) (d : P) → j < length ps → HasValues kind stands k vs (rows_at numbers nodes (length nodes) j) (get_or ps j d)

  -- the aggregates of the numbers from n on are found
  abbrev pub Told : ℕ → List Value → Type 0
  Told n found = (x : ℕ) (d : Value) → x < length numbers → n ≤ slice_index numbers x → get_or found (length numbers - 1 - slice_index numbers x) d ≡ aggregate m (at_places vs (rows_between numbers nodes (slice_index numbers x) (slice_index lasts x + 1)))

  pub own-last : (ps rest : List P) (p : P) → ps ≡ rest ++ p ∷ [] → Own ps → HasValues kind stands k vs (rows_between numbers nodes (length rest) (length rest + 1)) p
  own-last ps rest p e own =
      let n : ℕ = length rest in
      let long = ap length e ∙ length-append rest (p ∷ []) in
      let is : get_or ps n p ≡ p = ap (λ l. get_or l n p) e ∙ back-is rest p p in
      subst (HasValues kind stands k vs (rows_between numbers nodes n (n + 1))) is
      (has-other kind stands k vs (rows_at numbers nodes (length nodes) n) (rows_between numbers nodes n (n + 1)) (get_or ps n p) (rows-of-one numbers nodes n) (own n p (omega (arith, long))))

  pub own-rest : (ps rest : List P) (p : P) → ps ≡ rest ++ p ∷ [] → Own ps → Own rest
  own-rest ps rest p e own = λ j d h.
      let long = ap length e ∙ length-append rest (p ∷ []) in
      subst (HasValues kind stands k vs (rows_at numbers nodes (length nodes) j)) (ap (λ l. get_or l j d) e ∙ front-is rest p d j h) (own j d (omega (arith, h, long)))

  -- the last of what is kept, and the runs behind it, of the kind of the last
  pub next-kept : (ps rest : List P) (p : P) (first : ℕ) (runs : List (ℕ × P)) → ps ≡ rest ++ p ∷ [] → first ≡ length rest → Own ps → AreOpen kind stands k numbers lasts nodes vs (length numbers) (length ps) runs
      → (kind p ≡ k) × HasValues kind stands (kind p) vs (rows_between numbers nodes first (first + 1)) p × AreOpen kind stands (kind p) numbers lasts nodes vs (length numbers) (first + 1) runs
  next-kept ps rest p first runs e at own behind =
      let kept = own-last ps rest p e own in
      let is = kept.kind_is in
      let long = ap length e ∙ length-append rest (p ∷ []) in
      let next : length ps ≡ first + 1 = omega (arith, long, at) in (
        is,
        subst (λ n. HasValues kind stands (kind p) vs (rows_between numbers nodes n (n + 1)) p) (sym at) (subst (λ q. HasValues kind stands q vs (rows_between numbers nodes (length rest) (length rest + 1)) p) (sym is) kept),
        subst (λ q. AreOpen kind stands q numbers lasts nodes vs (length numbers) (first + 1) runs) (sym is) (subst (λ n. AreOpen kind stands k numbers lasts nodes vs (length numbers) n runs) next behind),
      )

  told-more : (n : ℕ) (found : List Value) (v : Value) → All (λ j. j < length numbers) numbers → n + 1 + length found ≡ length numbers → Told (n + 1) found
      → ((x : ℕ) → x < length numbers → slice_index numbers x ≡ n → v ≡ aggregate m (at_places vs (rows_between numbers nodes (slice_index numbers x) (slice_index lasts x + 1)))) → Told n (found ++ v ∷ [])
  told-more n found v within sum told last = λ x d hx low.
      let there = within x 0 hx in
      found-next found v d (length numbers - 1 - slice_index numbers x) (omega (arith, there, sum, low)) (λ y. y ≡ aggregate m (at_places vs (rows_between numbers nodes (slice_index numbers x) (slice_index lasts x + 1))))
      (λ e. last x hx (omega (arith, e, there, sum, low)))
      (λ less. told x d hx (omega (arith, less, there, sum, low)))

  pub step : (ends : List ℕ) (first last : ℕ) (p : P) (runs : List (ℕ × P)) (found : List Value) (v : Value) → AreLasts numbers lasts (length numbers) ends → AreNested numbers lasts → All (λ n. IfSome n (λ y. y < length numbers)) nodes → All (λ j. j < length numbers) numbers
      → first < length numbers → last ≡ slice_index ends first → HasRuns kind stands k numbers lasts nodes vs first last p runs → ArePast last runs → ((xs : List (Value × ℕ)) → stands p xs → v ≡ aggregate m (partials.values xs))
      → first + 1 + length found ≡ length numbers → Told (first + 1) found
      → AreOpen kind stands k numbers lasts nodes vs (length numbers) first (runs ++ (first, p) ∷ []) × Told first (found ++ v ∷ [])
  step ends first last p runs found v so nests within below here le h past outcome sum told =
      let size = so.size in
      let is : IsLast numbers lasts (length numbers) first last = subst (IsLast numbers lasts (length numbers) first) (sym le) (so.told first (omega (arith, here, size))) in (
        runs-open kind stands k vs numbers lasts nodes first last p runs nests here is h,
        told-more first found v below sum told
            (λ x hx own. value-is kind stands k vs numbers lasts nodes first last p runs nests here is h x hx own (le ∙ ap (λ j. slice_index ends j) (sym own) ∙ so.known x hx) within past m v outcome),
      )

  pub found-all : (found : List Value) → All (λ j. j < length numbers) numbers → length found ≡ length numbers → Told 0 found → AreAggregates m numbers lasts nodes vs (reverse found)
  found-all found within size told = record {
    size = length-reverse found ∙ size;
    each = λ x d hx.
        let there = within x 0 hx in
        get_or-reverse found (slice_index numbers x) d (omega (arith, there, size)) ∙ ap (λ n. get_or found (n - 1 - slice_index numbers x) d) size ∙ told x d hx (omega arith);
  }

-- ---- what is left, and what is found

-- the numbers that are left have what is kept of their own values, the runs begin behind these, and the aggregates of the others are found, from the last
pub record AreLeftOf {P K : Type 0} (kind : P → K) (stands : P → List (Value × ℕ) → Type 0) (k : K) (vs : List Value) (numbers lasts : List ℕ) (nodes : List (Option ℕ)) (m : Method) (ps : List P) (rs : List (ℕ × P)) (found : List Value) : Type 0 where
  pub own : (j : ℕ) (d : P) → j < length ps → HasValues kind stands k vs (rows_at numbers nodes (length nodes) j) (get_or ps j d)
  pub sum : length ps + length found ≡ length numbers
  pub runs : AreOpen kind stands k numbers lasts nodes vs (length numbers) (length ps) rs
  pub told : Told kind stands k vs numbers lasts nodes m (length ps) found

-- so it is of all values of which those at first were kept
abbrev pub AreLeft : {P K : Type 0} → (P → K) → (P → List (Value × ℕ) → Type 0) → List ℕ → List ℕ → List (Option ℕ) → Method → List P → List P → List (ℕ × P) → List Value → Type 0
AreLeft kind stands numbers lasts nodes m all ps rs found = (kept : AreKept kind stands numbers nodes all) → AreLeftOf kind stands kept.of kept.vs numbers lasts nodes m ps rs found
