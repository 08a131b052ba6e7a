-- The picks whose answers are true.
use Rattle.std.proofs.Common.{◌≡◌, ◌∙◌, ℕ, ◌+◌, ◌<◌, Bool, true, false, List, [], ◌∷◌, ◌++◌, Option, Some, None, add-one, ap, arith, drop, get_or, length, map, refl, subst, sym, append_assoc}
use Rattle.std.proofs.Math.Seq.{drop-cons}
use Rattle.std.specs.Prelude.{filter, if◌then◌else◌, is_none, not, ◌||◌, IfOk}
use Rattle.std.specs.Bool.{then_some}
use Rattle.std.specs.Global.{Vec}
use Rattle.std.specs.List.{All, AllZip, flat_map, list_any}
use Rattle.std.specs.declared.result.Result as result
use Rattle.std.specs.declared.result.Result.TheVariants.{Ok, Err}
use Rattle.std.proofs.lemmas.List.Elements.{All-cons, All-head, All-nil, All-same, All-tail}
use Rattle.edm_values.specs.declared.Value.{Value}
use Rattle.edm_values.specs.declared.refusals.Refused.{Refused}
use Rattle.edm_values.specs.declared.refusals.Refused.TheVariants.{Range, Memory}
use Rattle.edm_values.specs.Values.{is_beyond, is_value}
use Rattle.apply_meaning.specs.Instances.{Instance}
use Rattle.apply_meaning.specs.Meaning.{refused_at_beyond}
use Rattle.row_frames.specs.declared.tables.Table.{Table}
use Rattle.row_frames.specs.declared.tables.Pick.{Pick}
use Rattle.row_frames.specs.Answers.{answer_of, kept_by, Keeps}
use Rattle.row_frames.specs.Frames.{all_picked, picked, GivesPicks}
use Rattle.row_frames.specs.PartKeeps.{HasPast}
use Rattle.row_frames.specs.Parts.{IsWhole}
use Rattle.std.proofs.lemmas.List.{append-nil}

-- what is kept of the picks before a place, and that each of these has an answer
pub record KeptUpto (bs : List (Option Bool)) (xs : List Pick) (n : ℕ) (kept : List Pick) : Type 0 where
  pub picks : kept_by bs xs ≡ kept ++ kept_by (drop n bs) (drop n xs)
  pub sure : list_any is_none bs ≡ list_any is_none (drop n bs)

pub none-kept : (bs : List (Option Bool)) (xs : List Pick) → KeptUpto bs xs 0 []
none-kept bs xs = record { picks = refl; sure = refl }

-- one pick more
pub kept-step : (bs : List (Option Bool)) (xs : List Pick) (n : ℕ) (d : Option Bool) (x : Pick) (kept kept' : List Pick) (b : Bool) → KeptUpto bs xs n kept → n < length bs → n < length xs
    → get_or bs n d ≡ Some b → kept' ≡ kept ++ (if b then get_or xs n x ∷ [] else []) → KeptUpto bs xs (n + 1) kept'
kept-step bs xs n d x kept kept' b K h g a m =
    let e : drop n bs ≡ Some b ∷ drop (n + 1) bs = drop-cons bs n d h ∙ (λ i. a i ∷ drop (sym (add-one n) i) bs) in
    let f : drop n xs ≡ get_or xs n x ∷ drop (n + 1) xs = drop-cons xs n x g ∙ ap (λ k. get_or xs n x ∷ drop k xs) (sym (add-one n)) in
    record {
      picks = K.picks ∙ (λ i. kept ++ kept_by (e i) (f i)) ∙ go b ∙ ap (λ k. k ++ kept_by (drop (n + 1) bs) (drop (n + 1) xs)) (sym m);
      sure = K.sure ∙ ap (list_any is_none) e;
    }
  where
    go : (b : Bool) → kept ++ kept_by (Some b ∷ drop (n + 1) bs) (get_or xs n x ∷ drop (n + 1) xs) ≡ (kept ++ (if b then get_or xs n x ∷ [] else [])) ++ kept_by (drop (n + 1) bs) (drop (n + 1) xs)
    go true = sym (append_assoc kept (get_or xs n x ∷ []) (kept_by (drop (n + 1) bs) (drop (n + 1) xs)))
    go false = sym (append_assoc kept [] (kept_by (drop (n + 1) bs) (drop (n + 1) xs)))

-- values that are past their range have no answers
beyond-none : (f : Instance → Value) (l : List Instance) → list_any is_beyond (map f l) ≡ list_any is_none (map (λ i. answer_of (f i)) l)
beyond-none f [] = refl
beyond-none f (i ∷ l) = go (is_beyond (f i)) (is_value true (f i)) (beyond-none f l)
  where
    go : (b t : Bool) → list_any is_beyond (map f l) ≡ list_any is_none (map (λ i. answer_of (f i)) l) → (b || list_any is_beyond (map f l)) ≡ (is_none (if b then None else Some t) || list_any is_none (map (λ i. answer_of (f i)) l))
    go true t e = refl
    go false t e = e

-- the instances that are picked by what is kept
kept-picked : (ts : List Table) (f : Instance → Value) (xs : List Pick) → list_any is_none (map (λ i. answer_of (f i)) (all_picked ts xs)) ≡ false
    → all_picked ts (kept_by (map (λ i. answer_of (f i)) (all_picked ts xs)) xs) ≡ filter (λ i. is_value true (f i)) (all_picked ts xs)
kept-picked ts f [] h = refl
kept-picked ts f (x ∷ xs) h = go (is_beyond (f (picked ts x))) (is_value true (f (picked ts x))) h (kept-picked ts f xs)
  where
    bs : List (Option Bool)
    bs = map (λ i. answer_of (f i)) (all_picked ts xs)

    rest : List Instance
    rest = filter (λ i. is_value true (f i)) (all_picked ts xs)

    go : (b t : Bool) → (is_none (if b then None else Some t) || list_any is_none bs) ≡ false → (list_any is_none bs ≡ false → all_picked ts (kept_by bs xs) ≡ rest)
        → all_picked ts (kept_by ((if b then None else Some t) ∷ bs) (x ∷ xs)) ≡ (if t then picked ts x ∷ rest else rest)
    go true t g k = absurd (cc)
    go false true g k = ap (λ l. picked ts x ∷ l) (k g)
    go false false g k = k g

-- what is kept is of tables that are there
kept-within : (P : Pick → Type 0) (bs : List (Option Bool)) (xs : List Pick) → All P xs → All P (kept_by bs xs)
kept-within P bs [] h = All-nil P
kept-within P [] (x ∷ xs) h = All-nil P
kept-within P (None ∷ bs) (x ∷ xs) h = kept-within P bs xs (All-tail P x xs h)
kept-within P (Some true ∷ bs) (x ∷ xs) h = All-cons P x (kept_by bs xs) (All-head P x xs h) (kept-within P bs xs (All-tail P x xs h))
kept-within P (Some false ∷ bs) (x ∷ xs) h = kept-within P bs xs (All-tail P x xs h)

-- what a filter by answers gives
pub kept-given : (f : Instance → Value) (ts : List Table) (xs : List Pick) (bs : List (Option Bool)) (r : result.Result (Vec Pick) Refused) → bs ≡ map (λ i. answer_of (f i)) (all_picked ts xs) → Keeps bs xs r
    → GivesPicks ts r (refused_at_beyond (map f (all_picked ts xs)) (filter (λ i. is_value true (f i)) (all_picked ts xs)))
kept-given f ts xs bs (Ok ys) h K =
    let kept = filter (λ i. is_value true (f i)) (all_picked ts xs) in
    let none = ap (list_any is_none) (sym h) ∙ K.1 in
    ap (λ b. then_some (not b) kept) (beyond-none f (all_picked ts xs) ∙ none)
    ∙ ap Some (sym (ap (all_picked ts) K.0 ∙ ap (λ us. all_picked ts (kept_by us xs)) h ∙ kept-picked ts f xs none))
kept-given f ts xs bs (Err Range) h K = ap (λ b. then_some (not b) (filter (λ i. is_value true (f i)) (all_picked ts xs))) (beyond-none f (all_picked ts xs) ∙ ap (list_any is_none) (sym h) ∙ K)
kept-given f ts xs bs (Err Memory) h K = tt

-- and of which tables it is
pub kept-tables : (n : ℕ) (bs : List (Option Bool)) (xs : List Pick) (r : result.Result (Vec Pick) Refused) → All (λ x. x.table < n) xs → Keeps bs xs r → IfOk r (λ ys. All (λ x. x.table < n) ys.items)
kept-tables n bs xs (Ok ys) h K = All-same (λ (x : Pick). x.table < n) ys.items (kept_by bs xs) K.0 (kept-within (λ (x : Pick). x.table < n) bs xs h)
kept-tables n bs xs (Err e) h K = tt

-- answers of the same values
pub answers-are : (g : Pick → Value) (f : Instance → Value) (xs : List Pick) (l : List Instance) → map g xs ≡ map f l → map (λ x. answer_of (g x)) xs ≡ map (λ i. answer_of (f i)) l
answers-are g f [] [] h = refl
answers-are g f [] (i ∷ l) h = absurd (cc)
answers-are g f (x ∷ xs) [] h = absurd (cc)
answers-are g f (x ∷ xs) (i ∷ l) h =
    let head : g x ≡ f i = cc in
    let rest : map g xs ≡ map f l = cc in
    λ j. answer_of (head j) ∷ answers-are g f xs l rest j

-- ---- some rows behind others

-- what is kept so far, and that each row so far has an answer
pub record KeptSoFar (f : Pick → Option Bool) (whole rest found : List Pick) : Type 0 where
  pub picks : found ++ kept_by (map f rest) rest ≡ kept_by (map f whole) whole
  pub sure : list_any is_none (map f whole) ≡ list_any is_none (map f rest)

module _ (f : Pick → Option Bool) where
  abbrev kept : List Pick → List Pick
  kept xs = kept_by (map f xs) xs

  abbrev past : List Pick → Bool
  past xs = list_any is_none (map f xs)

  both-kept : (xs ys : List Pick) → kept (xs ++ ys) ≡ kept xs ++ kept ys
  both-kept [] ys = refl
  both-kept (x ∷ xs) ys = go (f x) (both-kept xs ys)
    where
      go : (o : Option Bool) → kept (xs ++ ys) ≡ kept xs ++ kept ys → kept_by (o ∷ map f (xs ++ ys)) (x ∷ (xs ++ ys)) ≡ kept_by (o ∷ map f xs) (x ∷ xs) ++ kept ys
      go None e = e
      go (Some true) e = ap (λ l. x ∷ l) e
      go (Some false) e = e

  both-past : (xs ys : List Pick) → past (xs ++ ys) ≡ (past xs || past ys)
  both-past [] ys = refl
  both-past (x ∷ xs) ys = go (f x) (both-past xs ys)
    where
      go : (o : Option Bool) → past (xs ++ ys) ≡ (past xs || past ys) → (is_none o || past (xs ++ ys)) ≡ ((is_none o || past xs) || past ys)
      go None e = refl
      go (Some b) e = e

  pub none-so-far : (whole : List Pick) → KeptSoFar f whole whole []
  none-so-far whole = record { picks = refl; sure = refl }

  -- one block more
  pub more-so-far : (whole rest block behind found found' more : List Pick) → block ++ behind ≡ rest → more ≡ kept block → past block ≡ false → found' ≡ found ++ more → KeptSoFar f whole rest found → KeptSoFar f whole behind found'
  more-so-far whole rest block behind found found' more all is sure made K = record {
    picks = ap (λ l. l ++ kept behind) (made ∙ ap (λ l. found ++ l) is)
        ∙ append_assoc found (kept block) (kept behind)
        ∙ ap (λ l. found ++ l) (sym (both-kept block behind) ∙ ap kept all)
        ∙ K.picks;
    sure = K.sure ∙ ap past (sym all) ∙ both-past block behind ∙ ap (λ b. b || past behind) sure;
  }

  -- a block with a row without an answer
  pub past-so-far : (whole rest block behind found : List Pick) → block ++ behind ≡ rest → past block ≡ true → KeptSoFar f whole rest found → past whole ≡ true
  past-so-far whole rest block behind found all bad K = K.sure ∙ ap past (sym all) ∙ both-past block behind ∙ ap (λ b. b || past behind) bad

  -- all blocks
  pub all-so-far : (whole rest found : List Pick) → length rest ≡ 0 → KeptSoFar f whole rest found → (found ≡ kept whole) × (past whole ≡ false)
  all-so-far whole [] found none K = (sym (append-nil found) ∙ K.picks, K.sure)
  all-so-far whole (x ∷ rest) found none K = absurd (omega (arith, none))

  -- ---- parts, side by side

  abbrev KeepsThese : {C : Type 0} → (C → List Pick) → C → result.Result (Vec Pick) Refused → Type 0
  KeepsThese rows c r = Keeps (map f (rows c)) (rows c) r

  parts-kept : {C : Type 0} (rows : C → List Pick) (cs : List C) (ls : List (Vec Pick)) → AllZip (KeepsThese rows) cs (map Ok ls) → (flat_map (λ l. l.items) ls ≡ kept (flat_map rows cs)) × (past (flat_map rows cs) ≡ false)
  parts-kept rows [] [] p = (refl, refl)
  parts-kept rows [] (l ∷ ls) p = absurd p
  parts-kept rows (c ∷ cs) [] p = absurd p
  parts-kept rows (c ∷ cs) (l ∷ ls) p =
      let later = parts-kept rows cs ls p.1 in (
        (λ i. p.0.0 i ++ later.0 i) ∙ sym (both-kept (rows c) (flat_map rows cs)),
        both-past (rows c) (flat_map rows cs) ∙ ap (λ b. b || past (flat_map rows cs)) p.0.1 ∙ later.1,
      )

  parts-past : {C : Type 0} (rows : C → List Pick) (cs : List C) (ls : List (Vec Pick)) (rest : List (result.Result (Vec Pick) Refused)) → AllZip (KeepsThese rows) cs (map Ok ls ++ Err Range ∷ rest) → past (flat_map rows cs) ≡ true
  parts-past rows [] [] rest p = absurd p
  parts-past rows [] (l ∷ ls) rest p = absurd p
  parts-past rows (c ∷ cs) [] rest p = both-past (rows c) (flat_map rows cs) ∙ ap (λ b. b || past (flat_map rows cs)) p.0
  parts-past rows (c ∷ cs) (l ∷ ls) rest p = both-past (rows c) (flat_map rows cs) ∙ (λ i. p.0.1 i || parts-past rows cs ls rest p.1 i)

  -- what is kept of all parts is kept of the whole
  pub whole-in-parts : {C : Type 0} (rows : C → List Pick) (cs : List C) (xs : List Pick) (rs : List (result.Result (Vec Pick) Refused)) (all : List Pick) → flat_map rows cs ≡ xs → AllZip (KeepsThese rows) cs rs → IsWhole rs all → (all ≡ kept xs) × (past xs ≡ false)
  whole-in-parts rows cs xs rs all whole each is =
      let both = parts-kept rows cs is.0 (subst (AllZip (KeepsThese rows) cs) (sym is.1) each) in
      (is.2 ∙ both.0 ∙ ap kept whole, ap past (sym whole) ∙ both.1)

  pub past-in-parts : {C : Type 0} (rows : C → List Pick) (cs : List C) (xs : List Pick) (rs : List (result.Result (Vec Pick) Refused)) → flat_map rows cs ≡ xs → AllZip (KeepsThese rows) cs rs → HasPast rs → past xs ≡ true
  past-in-parts rows cs xs rs whole each h = ap past (sym whole) ∙ parts-past rows cs h.0 h.1 (subst (AllZip (KeepsThese rows) cs) h.2 each)

  -- what is refused
  pub bad-block : (xs : List Pick) (e : Refused) → Keeps (map f xs) xs (Err e) → e ≡ Range → past xs ≡ true
  bad-block xs Range k h = k
  bad-block xs Memory k h = absurd (cc)

  pub err-keeps : (xs : List Pick) (r : result.Result (Vec Pick) Refused) (e : Refused) → r ≡ Err e → (e ≡ Range → past xs ≡ true) → Keeps (map f xs) xs r
  err-keeps xs r Range is h = subst (Keeps (map f xs) xs) (sym is) (h refl)
  err-keeps xs r Memory is h = subst (Keeps (map f xs) xs) (sym is) tt
