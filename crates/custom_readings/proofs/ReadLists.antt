-- Texts that are read in their order, up to the first that has no reading.
use Rattle.std.proofs.Common.{◌≡◌, ℕ, zero, suc, ◌+◌, ◌<◌, ◌≤◌, List, [], ◌∷◌, ◌++◌, Option, Some, None, refl, sym, ap, subst, ◌∙◌, map, take, length, get_or, arith}
use Rattle.std.specs.Prelude.{slice_get}
use Rattle.std.specs.List.{AllZip}
use Rattle.std.proofs.lemmas.List.{take_more, take-map}
use Rattle.std.proofs.lemmas.Option.{slice_get-get_or, slice_get_past}
use Rattle.edm_values.specs.Names.{Path}
use Rattle.edm_values.proofs.OptionFacts.{none_or, some_value}
use Rattle.edm_values.proofs.ListFacts.{AllZip-both}
use Rattle.edm_model.specs.declared.parts.Custom.{Custom}
use Rattle.apply_grammar.specs.Limits.{PathText}
use Rattle.context_typing.specs.declared.customs.ReadCustom.{ReadCustom}
use Rattle.custom_readings.specs.Readings.{AreRead, ArePathsOf, HasNoReading, IsRead}

-- ---- pairs of lists

-- what stands beside an item
pub zipped : {A B : Type 0} (P : A → B → Type 0) (n : ℕ) (xs : List A) (ys : List B) (x : A) → AllZip P xs ys → slice_get xs n ≡ Some x → (y : B) × P x y
zipped P n [] ys x a e = none_or x e
zipped P n (x ∷ xs) [] z a e = absurd a
zipped P zero (x ∷ xs) (y ∷ ys) z a e = let Q : _ → Type 0 = λ v. P v y in (y, subst Q (some_value e) a.0)
zipped P (suc n) (x ∷ xs) (y ∷ ys) z a e = zipped P n xs ys z a.1 e

parted : {A B : Type 0} (P : A → B → Type 0) (xs : List A) (x : A) (zs : List B) → AllZip P (xs ++ x ∷ []) zs → (ys : List B) × (y : B) × (zs ≡ ys ++ y ∷ []) × AllZip P xs ys × P x y
parted P [] x [] h = absurd h
parted P [] x (z ∷ []) h = ([], z, refl, tt, h.0)
parted P [] x (z ∷ y ∷ zs) h = absurd h.1
parted P (w ∷ xs) x [] h = absurd h
parted P (w ∷ xs) x (z ∷ zs) h =
    let r = parted P xs x zs h.1 in
    (z ∷ r.0, r.1, ap (λ l. z ∷ l) r.2, (h.0, r.3), r.4)

-- one item more was read
item_more : {X : Type 0} (xs : List X) (i : ℕ) (x : X) → i < length xs → x ≡ get_or xs i x → take (i + 1) xs ≡ take i xs ++ x ∷ []
item_more xs i x within is = take_more xs i x within ∙ ap (λ z. take i xs ++ z ∷ []) (sym is)

pub item_get : {X : Type 0} (xs : List X) (i : ℕ) (x : X) → i < length xs → x ≡ get_or xs i x → slice_get xs i ≡ Some x
item_get xs i x within is = slice_get-get_or xs i x within ∙ ap Some (sym is)

pub zip-more : {A B : Type 0} (P : A → B → Type 0) (xs : List A) (ys : List B) (i : ℕ) (x : A) (y : B) → i < length xs → x ≡ get_or xs i x → AllZip P (take i xs) ys → P x y → AllZip P (take (i + 1) xs) (ys ++ y ∷ [])
zip-more P xs ys i x y within is h p =
    let Q : List _ → Type 0 = λ l. AllZip P l (ys ++ y ∷ []) in
    subst Q (sym (item_more xs i x within is)) (AllZip-both P (take i xs) ys x y h p)

-- ---- paths

pub paths-more : (texts : List (List ℕ)) (ps : List Path) (i : ℕ) (t : List ℕ) (p : Path) → i < length texts → t ≡ get_or texts i t → ArePathsOf (take i texts) ps → PathText t p → ((q : Path) → PathText t q → Some q ≡ Some p) → ArePathsOf (take (i + 1) texts) (ps ++ p ∷ [])
paths-more texts ps i t p within is h text only =
    let P : List (List ℕ) → Type 0 = λ l. ArePathsOf l (ps ++ p ∷ []) in
    subst P (sym (item_more texts i t within is)) (record {
      are = AllZip-both PathText (take i texts) ps t p h.are text;
      only = λ qs z.
          let r = parted PathText (take i texts) t qs z in
          r.2 ∙ (λ j. h.only r.0 r.3 j ++ some_value (only r.1 r.4) j ∷ []);
    })

-- one text that is no path
pub no-paths : (texts : List (List ℕ)) (i : ℕ) (t : List ℕ) → i < length texts → t ≡ get_or texts i t → ((q : Path) → PathText t q → ◌≡◌ {A = Option Path} (Some q) None) → (ps : List Path) → ¬ AllZip PathText texts ps
no-paths texts i t within is none ps h =
    let r = zipped PathText i texts ps t h (item_get texts i t within is) in
    none_or r.0 (sym (none r.0 r.1))

-- ---- all custom aggregates

pub read-stopped : (us : List Custom) (list : List ReadCustom) (i : ℕ) (u : Custom) → i < length us → u ≡ get_or us i u → length list ≡ i → AllZip IsRead (take i us) list → HasNoReading u → AreRead us list
read-stopped us list i u within is count zip none =
    let P : ℕ → Type 0 = λ n. AllZip IsRead (take n us) list in
    record {
      read = subst P (sym count) zip;
      ended = λ v e.
          let same : u ≡ v = some_value (sym (item_get us i u within is) ∙ ap (slice_get us) (sym count) ∙ e) in
          let Q : Custom → Type 0 = HasNoReading in
          subst Q same none;
    }

pub read-all : (us : List Custom) (list : List ReadCustom) (i : ℕ) → length us ≤ i → length list ≡ i → AllZip IsRead (take i us) list → AreRead us list
read-all us list i past count zip =
    let P : ℕ → Type 0 = λ n. AllZip IsRead (take n us) list in
    record {
      read = subst P (sym count) zip;
      ended = λ v e. none_or v (sym (slice_get_past us (length list) (omega (arith, count))) ∙ e);
    }

read-ids : (us : List Custom) (list : List ReadCustom) → AllZip IsRead us list → map (λ r. r.id) list ≡ map (λ u. u.id) us
read-ids [] [] z = refl
read-ids [] (r ∷ list) z = absurd z
read-ids (u ∷ us) [] z = absurd z
read-ids (u ∷ us) (r ∷ list) z = λ i. z.0.id i ∷ read-ids us list z.1 i

-- the readings have the ids of the first custom aggregates
pub first-ids : (us : List Custom) (list : List ReadCustom) → AreRead us list → map (λ r. r.id) list ≡ take (length list) (map (λ u. u.id) us)
first-ids us list are = read-ids (take (length list) us) list are.read ∙ sym (take-map (λ (u : Custom). u.id) (length list) us)
