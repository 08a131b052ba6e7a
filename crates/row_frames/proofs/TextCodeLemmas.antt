-- Numbers in place of texts that are kept once each tell which values are the same.
use Rattle.std.proofs.Common.{◌≡◌, ℕ, suc, ◌<◌, ◌≤◌, refl, sym, ◌∙◌, ap, subst, false, List, [], ◌∷◌, length, get_or, map, arith, Option, Some, None, ⊎_elim}
use Rattle.std.specs.Prelude.{Err, IfOk, IfSome, Ok, Result, option_map, slice_get, unwrap_or}
use Rattle.std.specs.List.{All, list_any}
use Rattle.std.proofs.lemmas.Bool.{cases_lt, eqb-true, or_from}
use Rattle.std.proofs.lemmas.List.{length-map}
use Rattle.std.proofs.lemmas.Option.{slice_get-get_or, slice_get-map, slice_get_past}
use Rattle.edm_values.specs.declared.Value.{Value}
use Rattle.edm_values.specs.Lists.{same_text}
use Rattle.edm_values.specs.Values.{is_beyond, same_value, value_in}
use Rattle.edm_values.proofs.SameTexts.{text-self}
use Rattle.edm_data.specs.LinkLists.{LinkList}
use Rattle.edm_data.specs.NumberedTexts.{IsPool, NumberedList, numbered_texts, numbered_values}
use Rattle.edm_data.specs.Worlds.{World}
use Rattle.edm_values.specs.Names.{Path}
use Rattle.apply_meaning.specs.Instances.{lookup}
use Rattle.row_frames.specs.declared.readers.Leaf.{Leaf}
use Rattle.row_frames.specs.declared.tables.Pick.{Pick}
use Rattle.row_frames.specs.declared.tables.Table.{Table}
use Rattle.row_frames.specs.Frames.{all_picked, instance_at, leaf_value, picked, picked_in}
use Rattle.row_frames.specs.Keys.{key_column}
use Rattle.row_frames.specs.TextCodes.{IsTextCode, value_there}
use Rattle.value_codes.specs.Above.{AreCoded}
use Rattle.value_codes.specs.Codes.{AreCodes, CodeList}
use Rattle.value_codes.proofs.CodeLemmas.{element, same_as}

-- ---- the value of a number

abbrev text_of : List (List ℕ) → ℕ → Value
text_of pool c = value_in (map Value.Text pool) c

text-within : (pool : List (List ℕ)) (c : ℕ) → c < length pool → text_of pool c ≡ Value.Text (get_or pool c [])
text-within pool c less = ap (λ o. unwrap_or o Value.Null) (slice_get-map Value.Text pool c ∙ ap (option_map Value.Text) (slice_get-get_or pool c [] less))

text-past : (pool : List (List ℕ)) (c : ℕ) → length pool ≤ c → text_of pool c ≡ Value.Null
text-past pool c past = ap (λ o. unwrap_or o Value.Null) (slice_get_past (map Value.Text pool) c (let e = length-map pool Value.Text in omega (arith, e, past)))

-- the number of the text at a place of the list
pub text-code : (l : NumberedList) (k c : ℕ) → slice_get l.numbers k ≡ Some c → c < length l.pool → IsTextCode l.pool (value_in (numbered_values l) k) c
text-code l k c at less = record {
  value = ap (λ o. unwrap_or o Value.Null) (slice_get-map Value.Text (numbered_texts l) k ∙ ap (option_map Value.Text) (slice_get-map (λ n. get_or l.pool n []) l.numbers k ∙ ap (option_map (λ n. get_or l.pool n [])) at)) ∙ sym (text-within l.pool c less);
  within = omega (arith, less);
}

-- and that of null
pub null-code : (pool : List (List ℕ)) (c : ℕ) → c ≡ length pool → IsTextCode pool Value.Null c
null-code pool c is = record { value = sym (text-past pool c (omega (arith, is))); within = omega (arith, is) }

-- ---- two numbers of one value

module _ (pool : List (List ℕ)) (apart : IsPool pool) where
  same-texts : (c d : ℕ) → c < length pool → d < length pool → text_of pool c ≡ text_of pool d → c ≡ d
  same-texts c d left right same =
      let both : Value.Text (get_or pool c []) ≡ Value.Text (get_or pool d []) = sym (text-within pool c left) ∙ same ∙ text-within pool d right in
      let one : get_or pool c [] ≡ get_or pool d [] = cc in
      eqb-true c d (sym (apart c d left right) ∙ ap (λ t. same_text t (get_or pool d [])) one ∙ text-self (get_or pool d []))

  text-not-null : (c d : ℕ) → c < length pool → length pool ≤ d → text_of pool c ≡ text_of pool d → c ≡ d
  text-not-null c d left past same =
      let bad : Value.Text (get_or pool c []) ≡ Value.Null = sym (text-within pool c left) ∙ same ∙ text-past pool d past in
      absurd (cc)

  one-number : (c d : ℕ) → c ≤ length pool → d ≤ length pool → text_of pool c ≡ text_of pool d → c ≡ d
  one-number c d left right same = ⊎_elim
      (λ lc. ⊎_elim (λ ld. same-texts c d lc ld same) (λ pd. text-not-null c d lc pd same) (cases_lt d (length pool)))
      (λ pc. ⊎_elim (λ ld. sym (text-not-null d c ld pc (sym same))) (λ pd. omega (arith, pc, pd, left, right)) (cases_lt d (length pool)))
      (cases_lt c (length pool))

  -- ---- the numbers of a list of values

  module _ {X : Type 0} (f : X → Value) where
    value-at : (xs : List X) (k : ℕ) (x : X) → slice_get xs k ≡ Some x → value_in (map f xs) k ≡ f x
    value-at xs k x is = ap (λ o. unwrap_or o Value.Null) (slice_get-map f xs k ∙ ap (option_map f) is)

    pub coded-texts : (xs : List X) (cs : List ℕ) (b : ℕ) → AreCoded (λ x. IsTextCode pool (f x)) xs cs → AreCodes (map f xs) (record { codes = cs; bound = b })
    coded-texts xs cs b coded = record {
      size = coded.size ∙ sym (length-map xs f);
      same = λ i j first second.
          let x = element xs i (let e = length-map xs f in omega (arith, e, first)) in
          let y = element xs j (let e = length-map xs f in omega (arith, e, second)) in
          let p = coded.each i x.0 x.1 in
          let q = coded.each j y.0 y.1 in
          (λ k. same_value ((value-at xs i x.0 x.1 ∙ p.value) k) ((value-at xs j y.0 y.1 ∙ q.value) k))
          ∙ same_as (text_of pool (get_or cs i 0)) (text_of pool (get_or cs j 0)) (get_or cs i 0) (get_or cs j 0)
          (one-number (get_or cs i 0) (get_or cs j 0) p.within q.within)
          (λ e. ap (text_of pool) e);
    }

    -- and none of these is past its range
    quiet-text : (c : ℕ) → is_beyond (text_of pool c) ≡ false
    quiet-text c = ⊎_elim (λ less. ap is_beyond (text-within pool c less)) (λ past. ap is_beyond (text-past pool c past)) (cases_lt c (length pool))

    quiet-all : (ys : List X) → ((k : ℕ) (y : X) → slice_get ys k ≡ Some y → is_beyond (f y) ≡ false) → list_any is_beyond (map f ys) ≡ false
    quiet-all [] h = refl
    quiet-all (y ∷ ys) h = or_from _ _ (h 0 y refl) (quiet-all ys (λ k x is. h (suc k) x is))

    pub quiet-texts : (xs : List X) (cs : List ℕ) → AreCoded (λ x. IsTextCode pool (f x)) xs cs → list_any is_beyond (map f xs) ≡ false
    quiet-texts xs cs coded = quiet-all xs (λ k x is. let p = coded.each k x is in ap is_beyond p.value ∙ quiet-text (get_or cs k 0))

-- what was made of them, where memory was enough
pub made-by-texts : {E : Type 0} (t : Table) (links : Option LinkList) (pool : List (List ℕ)) → IsPool pool → (vs ws : List Value) (xs : List Pick) (r : Result (Option CodeList) E) → vs ≡ ws
    → IfOk r (λ o. IfSome o (λ (c : CodeList). AreCoded (λ x. IsTextCode pool (value_there t vs links x)) xs c.codes))
    → IfOk r (λ o. IfSome o (AreCodes (map (value_there t ws links) xs))) × IfOk r (λ o. IfSome o (λ _. list_any is_beyond (map (value_there t ws links) xs) ≡ false))
made-by-texts t links pool apart vs ws xs (Err e) are coded = (tt, tt)
made-by-texts t links pool apart vs ws xs (Ok None) are coded = (tt, tt)
made-by-texts t links pool apart vs ws xs (Ok (Some c)) are coded = (
  subst (λ us. AreCodes (map (value_there t us links) xs) c) are (coded-texts pool apart (value_there t vs links) xs c.codes c.bound coded),
  subst (λ us. list_any is_beyond (map (value_there t us links) xs) ≡ false) are (quiet-texts pool apart (value_there t vs links) xs c.codes coded),
)

-- ---- rows of one table

-- the values of a path on the rows of one table that are picked are those of the leaf that it is there
pub one-table : (w : World) (ts : List Table) (t : Table) (p : Path) (l : Leaf) (xs : List Pick) → length ts ≡ 1 → slice_get ts 0 ≡ Some t → All (λ x. x.table < length ts) xs → ((k : ℕ) → lookup w (instance_at t k) p ≡ leaf_value w t k l)
    → map (λ x. leaf_value w t x.row l) xs ≡ key_column w (all_picked ts xs) p
one-table w ts t p l [] one at all same = refl
one-table w ts t p l (x ∷ xs) one at all same =
    let zero : x.table ≡ 0 = let e = all 0 x (omega arith) in omega (arith, e, one) in
    let first : lookup w (picked ts x) p ≡ leaf_value w t x.row l = ap (λ o. lookup w (picked_in o x.row) p) (ap (slice_get ts) zero ∙ at) ∙ same x.row in
    λ i. sym first i ∷ one-table w ts t p l xs one at (λ k d h. all (suc k) d (omega (arith, h))) same i

pub made-in-one : {E : Type 0} (vs ws : List Value) (r : Result (Option CodeList) E) → vs ≡ ws → IfOk r (λ o. IfSome o (AreCodes vs)) → IfOk r (λ o. IfSome o (AreCodes ws))
made-in-one vs ws r are made = subst (λ us. IfOk r (λ o. IfSome o (AreCodes us))) are made

pub quiet-in-one : {E : Type 0} (vs ws : List Value) (r : Result (Option CodeList) E) → vs ≡ ws → IfOk r (λ o. IfSome o (λ _. list_any is_beyond vs ≡ false)) → IfOk r (λ o. IfSome o (λ _. list_any is_beyond ws ≡ false))
quiet-in-one vs ws r are made = subst (λ us. IfOk r (λ o. IfSome o (λ _. list_any is_beyond us ≡ false))) are made
