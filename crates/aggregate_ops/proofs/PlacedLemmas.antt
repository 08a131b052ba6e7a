-- The elements of a list that stand at places of it, and groups of places without keys.
use Rattle.std.proofs.Common.{◌≡◌, ℕ, zero, suc, ◌<◌, List, [], ◌∷◌, length, map, filter, not, get_or, refl, sym, ◌∙◌, ap, arith, IsTrue}
use Rattle.std.specs.Prelude.{nat_lt}
use Rattle.std.specs.List.{cons_option, list_all}
use Rattle.std.proofs.lemmas.Bool.{and_parts, ltb-true}
use Rattle.std.proofs.lemmas.Option.{slice_get-get_or}
use Rattle.edm_values.specs.declared.Value.{Value}
use Rattle.edm_values.specs.Lists.{at_places, distinct}
use Rattle.apply_meaning.specs.Meaning.{same_keys}
use Rattle.aggregate_ops.specs.KeyTables.{groups_of, places_of}

-- ---- elements at places

module _ {X : Type 0} (l : List X) where
  abbrev AreWithin : List ℕ → Type 0
  AreWithin ks = IsTrue (list_all (λ k. nat_lt k (length l)) ks)

  first-within : (k : ℕ) (ks : List ℕ) → AreWithin (k ∷ ks) → k < length l
  first-within k ks all = ltb-true k (length l) (and_parts (nat_lt k (length l)) (list_all (λ k. nat_lt k (length l)) ks) all).0

  others-within : (k : ℕ) (ks : List ℕ) → AreWithin (k ∷ ks) → AreWithin ks
  others-within k ks all = (and_parts (nat_lt k (length l)) (list_all (λ k. nat_lt k (length l)) ks) all).1

  -- place i is one of the list
  pub place-within : (ks : List ℕ) (i : ℕ) → AreWithin ks → i < length ks → get_or ks i 0 < length l
  place-within [] i all h = absurd (omega arith)
  place-within (k ∷ ks) zero all h = first-within k ks all
  place-within (k ∷ ks) (suc i) all h = place-within ks i (others-within k ks all) (omega arith)

  -- the element at place i is number i of those at places
  pub place-read : (ks : List ℕ) (i : ℕ) (x : X) → AreWithin ks → i < length ks → x ≡ get_or l (get_or ks i 0) x → x ≡ get_or (at_places l ks) i x
  place-read [] i x all h r = absurd (omega arith)
  place-read (k ∷ ks) zero x all h r = r ∙ sym (ap (λ o. get_or (cons_option o (at_places l ks)) 0 x) (slice_get-get_or l k x (first-within k ks all)))
  place-read (k ∷ ks) (suc i) x all h r =
      place-read ks i x (others-within k ks all) (omega arith) r
      ∙ sym (ap (λ o. get_or (cons_option o (at_places l ks)) (suc i) x) (slice_get-get_or l k (get_or l k x) (first-within k ks all)))

  -- there are as many as there are places
  pub length-placed_at : (ks : List ℕ) (x : X) → AreWithin ks → length (at_places l ks) ≡ length ks
  length-placed_at [] x all = refl
  length-placed_at (k ∷ ks) x all = ap (λ o. length (cons_option o (at_places l ks))) (slice_get-get_or l k x (first-within k ks all)) ∙ ap suc (length-placed_at ks x (others-within k ks all))

-- ---- groups of places without keys

-- key lists without values, with places
abbrev pub keyless : List ℕ → List (List Value × ℕ)
keyless ps = map (λ p. ([], p)) ps

one_key : (p : ℕ) (ps : List ℕ) → distinct same_keys (map (λ x. x.0) (keyless (p ∷ ps))) ≡ [] ∷ []
one_key p [] = refl
one_key p (q ∷ ps) = ap (λ ds. [] ∷ filter (λ k. not (same_keys [] k)) ds) (one_key q ps)

all_places : (ps : List ℕ) → places_of (keyless ps) [] ≡ ps
all_places [] = refl
all_places (p ∷ ps) = ap (λ l. p ∷ l) (all_places ps)

-- where no place is, no group is
pub no-place : (ps : List ℕ) → length ps ≡ 0 → groups_of (keyless ps) ≡ []
no-place [] e = refl
no-place (p ∷ ps) e = absurd (omega arith)

-- and else one
pub one-group : (ps : List ℕ) → 0 < length ps → groups_of (keyless ps) ≡ ([], ps) ∷ []
one-group [] h = absurd (omega arith)
one-group (p ∷ ps) h =
    ap (map (λ k. (k, places_of (keyless (p ∷ ps)) k))) (one_key p ps)
    ∙ ap (λ l. ([], l) ∷ []) (all_places (p ∷ ps))
