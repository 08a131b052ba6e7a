-- Rows that are rendered in parts: the texts of the parts are the text of all rows.
use Rattle.std.proofs.Common.{◌≡◌, ◌≤◌, ◌∙◌, ℕ, suc, ◌+◌, ◌-◌, ◌<◌, ◌||◌, Bool, true, false, List, [], ◌∷◌, ◌++◌, Ok, Err, length, map, ap, arith, append_assoc, drop, refl, subst, sym, take}
use Rattle.std.specs.Global.{Vec}
use Rattle.std.specs.List.{All, AllZip, flat_map, list_all, list_any}
use Rattle.std.specs.declared.result.Result.{Result}
use Rattle.std.proofs.Math.Seq.{take-add}
use Rattle.std.proofs.lemmas.Bool.{and_parts}
use Rattle.std.proofs.lemmas.Grind.{flat_map-append}
use Rattle.std.proofs.lemmas.List.{append-nil, length-drop, length-take-le}
use Rattle.std.proofs.lemmas.List.Folds.{list_all-append, list_any-append}
use Rattle.std.proofs.lemmas.List.Elements.{All-cons, All-nil, All-push}
use Rattle.serde_json.specs.Written.{comma_if}
use Rattle.edm_values.specs.declared.refusals.Refused.{Refused}
use Rattle.edm_values.specs.declared.refusals.Refused.TheVariants as refused
use Rattle.edm_data.specs.Worlds.{World}
use Rattle.context_typing.specs.Shapes.{Shape}
use Rattle.apply_meaning.specs.Instances.{Instance, fits}
use Rattle.apply_meaning.specs.MeaningLaws.{AllFit}
use Rattle.json_render.specs.Bodies.{has_beyond}
use Rattle.json_render.specs.RowRuns.{row_text, rows_run}
use Rattle.json_render.specs.PartTexts.{AreParts, HasPast, IsPartText, texts_run}

each-fits : (w : World) (s : Shape) (cs : List (List Instance)) → list_all (fits w s) (flat_map (λ c. c) cs) ≡ true → All (AllFit w s) cs
each-fits w s [] h = All-nil (AllFit w s)
each-fits w s (c ∷ cs) h =
    let p = and_parts (list_all (fits w s) c) (list_all (fits w s) (flat_map (λ c. c) cs)) (sym (list_all-append (fits w s) c (flat_map (λ c. c) cs)) ∙ h) in
    All-cons (AllFit w s) c cs p.0 (each-fits w s cs p.1)

-- the rows of each part fit where all rows do
pub parts-fit : (w : World) (s : Shape) (rows : List Instance) (cs : List (List Instance)) → AllFit w s rows → AreParts rows cs → All (AllFit w s) cs
parts-fit w s rows cs h A = each-fits w s cs (ap (list_all (fits w s)) A.all ∙ h)

-- rows behind rows
run-append : (w : World) (s : Shape) (xs ys : List Instance) → rows_run w s true (xs ++ ys) ≡ rows_run w s true xs ++ rows_run w s true ys
run-append w s [] ys = refl
run-append w s (x ∷ xs) ys =
    let line = 44 ∷ row_text w s x in
    ap (λ r. line ++ r) (run-append w s xs ys) ∙ sym (append_assoc line (rows_run w s true xs) (rows_run w s true ys))

-- each part has a row
abbrev HasRows : List Instance → Type 0
HasRows c = 0 < length c

part-behind : (w : World) (s : Shape) (later : Bool) (c : List Instance) (text rest : List ℕ) (more : List Instance) → 0 < length c → text ≡ rows_run w s false c → rest ≡ rows_run w s true more
    → comma_if later ++ (text ++ rest) ≡ rows_run w s later (c ++ more)
part-behind w s later [] text rest more h t r = absurd (omega arith)
part-behind w s later (i ∷ is) text rest more h t r =
    (λ j. comma_if later ++ (t j ++ r j))
    ∙ ap (λ xs. comma_if later ++ xs) (append_assoc (row_text w s i) (rows_run w s true is) (rows_run w s true more) ∙ ap (λ xs. row_text w s i ++ xs) (sym (run-append w s is more)))
    ∙ sym (append_assoc (comma_if later) (row_text w s i) (rows_run w s true (is ++ more)))

texts-all : (w : World) (s : Shape) (later : Bool) (cs : List (List Instance)) (ls : List (Vec ℕ)) → All HasRows cs → AllZip (IsPartText w s) cs (map Ok ls) → texts_run later ls ≡ rows_run w s later (flat_map (λ c. c) cs)
texts-all w s later [] [] a z = refl
texts-all w s later [] (l ∷ ls) a z = absurd z
texts-all w s later (c ∷ cs) [] a z = absurd z
texts-all w s later (c ∷ cs) (l ∷ ls) a z =
    part-behind w s later c l.items (texts_run true ls) (flat_map (λ c. c) cs) (a 0 c (omega arith)) z.0.ok (texts-all w s true cs ls (λ k d h. a (suc k) d (omega arith)) z.1)

or-true : (b : Bool) → (b || true) ≡ true
or-true true = refl
or-true false = refl

all-in-range : (w : World) (s : Shape) (cs : List (List Instance)) (ls : List (Vec ℕ)) → AllZip (IsPartText w s) cs (map Ok ls) → list_any has_beyond (flat_map (λ c. c) cs) ≡ false
all-in-range w s [] [] z = refl
all-in-range w s [] (l ∷ ls) z = absurd z
all-in-range w s (c ∷ cs) [] z = absurd z
all-in-range w s (c ∷ cs) (l ∷ ls) z =
    list_any-append has_beyond c (flat_map (λ c. c) cs) ∙ (λ j. z.0.in_range j || all-in-range w s cs ls z.1 j)

one-past : (w : World) (s : Shape) (cs : List (List Instance)) (ls : List (Vec ℕ)) (rest : List (Result (Vec ℕ) Refused)) → AllZip (IsPartText w s) cs (map Ok ls ++ Err refused.Range ∷ rest) → list_any has_beyond (flat_map (λ c. c) cs) ≡ true
one-past w s [] [] rest z = absurd z
one-past w s [] (l ∷ ls) rest z = absurd z
one-past w s (c ∷ cs) [] rest z =
    list_any-append has_beyond c (flat_map (λ c. c) cs) ∙ ap (λ b. b || list_any has_beyond (flat_map (λ c. c) cs)) (z.0.range refl)
one-past w s (c ∷ cs) (l ∷ ls) rest z =
    list_any-append has_beyond c (flat_map (λ c. c) cs) ∙ ap (λ b. list_any has_beyond c || b) (one-past w s cs ls rest z.1) ∙ or-true (list_any has_beyond c)

-- ---- the parts of rows

-- the rows so far, and one part more
pub more-parts : (rows : List Instance) (ps qs : List (List Instance)) (p : List Instance) (n to : ℕ) → n < to → to ≤ length rows → p ≡ take (to - n) (drop n rows) → qs ≡ ps ++ p ∷ [] → AreParts (take n rows) ps → AreParts (take to rows) qs
more-parts rows ps qs p n to pos within is more A =
    let d = length-drop n rows in
    let e : n + (to - n) ≡ to = omega (arith, pos) in
    let long : length p ≡ to - n = ap length is ∙ length-take-le (to - n) (drop n rows) (omega (arith, d, pos, within)) in
    record {
      some = subst (All HasRows) (sym more) (All-push HasRows ps p A.some (omega (arith, long, pos)));
      all = ap (flat_map (λ (c : List Instance). c)) more ∙ flat_map-append (λ (c : List Instance). c) ps (p ∷ []) ∙ (λ i. A.all i ++ (append-nil p ∙ is) i) ∙ sym (take-add n (to - n) rows) ∙ ap (λ k. take k rows) e;
    }

module _ (w : World) (s : Shape) (rows : List Instance) (cs : List (List Instance)) (rs : List (Result (Vec ℕ) Refused)) (are : AreParts rows cs) (parts : AllZip (IsPartText w s) cs rs) where
  -- the texts of all parts are the text of the rows
  pub parts-written : (ls : List (Vec ℕ)) → map Ok ls ≡ rs → texts_run false ls ≡ rows_run w s false rows
  parts-written ls e =
      texts-all w s false cs ls are.some (subst (λ r. AllZip (IsPartText w s) cs r) (sym e) parts) ∙ ap (rows_run w s false) are.all

  -- no row is past its range where all parts are there
  pub parts-in-range : (ls : List (Vec ℕ)) → map Ok ls ≡ rs → list_any has_beyond rows ≡ false
  parts-in-range ls e =
      sym (ap (list_any has_beyond) are.all) ∙ all-in-range w s cs ls (subst (λ r. AllZip (IsPartText w s) cs r) (sym e) parts)

  -- a row is past its range where a part is not there for it
  pub parts-past : HasPast rs → list_any has_beyond rows ≡ true
  parts-past h =
      sym (ap (list_any has_beyond) are.all) ∙ one-past w s cs h.0 h.1 (subst (λ r. AllZip (IsPartText w s) cs r) h.2 parts)
