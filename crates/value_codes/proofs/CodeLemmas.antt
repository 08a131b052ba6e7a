-- Numbers in place of values.
use Rattle.std.proofs.Common.{◌≡◌, ℕ, suc, ◌+◌, ◌<◌, ℤ, false, List, [], ◌∷◌, ◌++◌, length, get_or, take, map, nat_eq, Some, None, refl, sym, ◌∙◌, ap, subst, arith, ⊎_elim, length-append}
use Rattle.std.specs.Prelude.{IfSome, Option, Vec, option_map, unwrap_or}
use Rattle.std.specs.declared.alloc.Global.{Global}
use Rattle.std.specs.List.{slice_get, list_any}
use Rattle.std.specs.Cmp.{both_ways}
use Rattle.std.proofs.lemmas.Bool.{eqb-true, eq-eqb, cases_lt, false≢true}
use Rattle.std.proofs.lemmas.Int.{ints}
use Rattle.std.proofs.lemmas.List.{length-map, take_more, get_or_append_left}
use Rattle.std.proofs.Math.Seq.{get_or-append_seam}
use Rattle.std.proofs.lemmas.Option.{same_Some, slice_get-map, slice_get-get_or, slice_get_within, get_or_from_slice_get}
use Rattle.edm_values.specs.declared.Seen.{Seen}
use Rattle.edm_values.specs.declared.Value.{Value}
use Rattle.edm_values.specs.Values.{same_value, seen_value, is_beyond}
use Rattle.edm_values.specs.OrderLaws.{same_value_is, same_value_itself}
use Rattle.edm_values.specs.PartLaws.{same_decimal}
use Rattle.edm_values.proofs.ListFacts.{none-past}
use Rattle.value_codes.specs.Above.{AreCoded, IsCode}
use Rattle.value_codes.specs.Codes.{AreCodes}

-- two values that are equal exactly where two numbers are
pub same_as : (v w : Value) (a b : ℕ) → (v ≡ w → a ≡ b) → (a ≡ b → v ≡ w) → same_value v w ≡ nat_eq a b
same_as v w a b there back = both_ways _ _ (λ h. eq-eqb a b (there (same_value_is v w h))) (λ h. ap (same_value v) (sym (back (eqb-true a b h))) ∙ same_value_itself v)

-- the element at a place within
pub element : {X : Type 0} (xs : List X) (k : ℕ) → k < length xs → (x : X) × (slice_get xs k ≡ Some x)
element {X = X} xs k within = inside (slice_get xs k) refl where
  inside : (o : Option X) → slice_get xs k ≡ o → (x : X) × (slice_get xs k ≡ Some x)
  inside (Some x) is = (x, is)
  inside None is = absurd (let past = none-past xs k is in omega (arith, past, within))

-- ---- a value has one number, and a number one value

pub code_once : (kind : ℕ) (least : ℤ) (v : Value) (a b : ℕ) → IsCode kind least v a → IsCode kind least v b → a ≡ b
code_once kind least Value.Null a b p q = p ∙ sym q
code_once kind least (Value.Int z) a b p q = let e = p.2 in let f = q.2 in omega (arith, ints)
code_once kind least (Value.Dec d) a b p q = let e = p.2 in let f = q.2 in omega (arith, ints)
code_once kind least _ a b p q = absurd (false≢true p)

pub code_tells : (kind : ℕ) (least : ℤ) (v w : Value) (c : ℕ) → IsCode kind least v c → IsCode kind least w c → v ≡ w
code_tells kind least Value.Null Value.Null c p q = refl
code_tells kind least Value.Null (Value.Int z) c p q = absurd (let e = q.0 in omega arith)
code_tells kind least Value.Null (Value.Dec d) c p q = absurd (let e = q.0 in omega arith)
code_tells kind least (Value.Int z) Value.Null c p q = absurd (let e = p.0 in omega arith)
code_tells kind least (Value.Dec d) Value.Null c p q = absurd (let e = p.0 in omega arith)
code_tells kind least (Value.Int y) (Value.Int z) c p q = ap Value.Int (let e = p.2 in let f = q.2 in omega (arith, ints))
code_tells kind least (Value.Int y) (Value.Dec e) c p q = absurd (let a = p.1 in let b = q.1 in omega arith)
code_tells kind least (Value.Dec d) (Value.Int z) c p q = absurd (let a = p.1 in let b = q.1 in omega arith)
code_tells kind least (Value.Dec d) (Value.Dec e) c p q =
    let mantissas : d.mantissa ≡ e.mantissa = let a = p.2 in let b = q.2 in omega (arith, ints) in
    let scales : d.scale ≡ e.scale = let a = p.1 in let b = q.1 in omega arith in
    ap Value.Dec (same_decimal d e mantissas scales)
code_tells kind least Value.Null (Value.Bool b) c p q = absurd (false≢true q)
code_tells kind least Value.Null (Value.Text t) c p q = absurd (false≢true q)
code_tells kind least Value.Null (Value.Day d) c p q = absurd (false≢true q)
code_tells kind least Value.Null Value.Beyond c p q = absurd (false≢true q)
code_tells kind least (Value.Int y) (Value.Bool b) c p q = absurd (false≢true q)
code_tells kind least (Value.Int y) (Value.Text t) c p q = absurd (false≢true q)
code_tells kind least (Value.Int y) (Value.Day d) c p q = absurd (false≢true q)
code_tells kind least (Value.Int y) Value.Beyond c p q = absurd (false≢true q)
code_tells kind least (Value.Dec y) (Value.Bool b) c p q = absurd (false≢true q)
code_tells kind least (Value.Dec y) (Value.Text t) c p q = absurd (false≢true q)
code_tells kind least (Value.Dec y) (Value.Day d) c p q = absurd (false≢true q)
code_tells kind least (Value.Dec y) Value.Beyond c p q = absurd (false≢true q)
code_tells kind least (Value.Bool b) w c p q = absurd (false≢true p)
code_tells kind least (Value.Text t) w c p q = absurd (false≢true p)
code_tells kind least (Value.Day d) w c p q = absurd (false≢true p)
code_tells kind least Value.Beyond w c p q = absurd (false≢true p)

within_range : (kind : ℕ) (least : ℤ) (v : Value) (c : ℕ) → IsCode kind least v c → is_beyond v ≡ false
within_range kind least Value.Beyond c p = absurd (false≢true p)
within_range kind least Value.Null c p = refl
within_range kind least (Value.Int z) c p = refl
within_range kind least (Value.Dec d) c p = refl
within_range kind least (Value.Bool b) c p = refl
within_range kind least (Value.Text t) c p = refl
within_range kind least (Value.Day d) c p = refl

-- ---- lists of them

pub coded-none : {X : Type 0} (R : X → ℕ → Type 0) → AreCoded R [] []
coded-none R = record { size = refl; each = λ k x is. absurd (let e = slice_get_within [] k x is in omega (arith, e)) }

-- one more
pub coded-more : {X : Type 0} (R : X → ℕ → Type 0) (xs : List X) (cs : List ℕ) (x : X) (c : ℕ) → AreCoded R xs cs → R x c → AreCoded R (xs ++ x ∷ []) (cs ++ c ∷ [])
coded-more R xs cs x c coded here = record {
  size = rw (length-append, length-append) (let e = coded.size in omega (arith, e));
  each = λ k y is.
      let size : length cs ≡ length xs = coded.size in
      let within : k < length xs + 1 = let e = slice_get_within (xs ++ x ∷ []) k y is in let l = length-append xs (x ∷ []) in omega (arith, e, l) in
      ⊎_elim
      (λ less.
      let at : get_or cs k 0 ≡ get_or (cs ++ c ∷ []) k 0 = sym (get_or_append_left cs (c ∷ []) 0 k (omega (arith, less, size))) in
      let item : slice_get xs k ≡ Some y = slice_get-get_or xs k y less ∙ ap Some (sym (get_or_append_left xs (x ∷ []) y k less) ∙ get_or_from_slice_get (xs ++ x ∷ []) k y y is) in
      subst (R y) at (coded.each k y item))
      (λ more.
      let last : k ≡ length xs = omega (arith, within, more) in
      let at : get_or (cs ++ c ∷ []) k 0 ≡ c = ap (λ j. get_or (cs ++ c ∷ []) j 0) (last ∙ sym size) ∙ get_or-append_seam cs c [] 0 in
      let item : x ≡ y = sym (get_or-append_seam xs x [] y) ∙ ap (λ j. get_or (xs ++ x ∷ []) j y) (sym last) ∙ get_or_from_slice_get (xs ++ x ∷ []) k y y is in
      subst (λ z. R z (get_or (cs ++ c ∷ []) k 0)) item (subst (R x) (sym at) here))
      (cases_lt k (length xs));
}

-- one more of a list
pub coded-next : {X : Type 0} (R : X → ℕ → Type 0) (xs : List X) (cs : List ℕ) (k : ℕ) (x : X) (c : ℕ) → k < length xs → x ≡ get_or xs k x → AreCoded R (take k xs) cs → R x c → AreCoded R (take (k + 1) xs) (cs ++ c ∷ [])
coded-next R xs cs k x c within item coded here = subst (λ l. AreCoded R l (cs ++ c ∷ [])) (sym (take_more xs k x within ∙ ap (λ y. take k xs ++ y ∷ []) (sym item))) (coded-more R (take k xs) cs x c coded here)

none_beyond : (kind : ℕ) (least : ℤ) (vs : List Value) (cs : List ℕ) → AreCoded (IsCode kind least) vs cs → list_any is_beyond vs ≡ false
none_beyond kind least vs cs coded = none-any vs (λ k v is. within_range kind least v (get_or cs k 0) (coded.each k v is)) where
  none-any : (ws : List Value) → ((k : ℕ) (v : Value) → slice_get ws k ≡ Some v → is_beyond v ≡ false) → list_any is_beyond ws ≡ false
  none-any [] h = refl
  none-any (w ∷ ws) h = rw (h 0 w refl, none-any ws (λ k v is. h (suc k) v is)) refl

-- the same of what shows the values
pub coded-values : {X : Type 0} (f : X → Value) (R : Value → ℕ → Type 0) (xs : List X) (cs : List ℕ) → AreCoded (λ x. R (f x)) xs cs → AreCoded R (map f xs) cs
coded-values f R xs cs coded = record {
  size = coded.size ∙ sym (length-map xs f);
  each = λ k v is.
      let within : k < length xs = let e = slice_get_within (map f xs) k v is in let l = length-map xs f in omega (arith, e, l) in
      let a = element xs k within in
      let shown : f a.0 ≡ v = same_Some _ _ (sym (slice_get-map f xs k ∙ ap (option_map f) a.1) ∙ is) in
      subst (λ w. R w (get_or cs k 0)) shown (coded.each k a.0 a.1);
}

-- values with the numbers of one kind
pub AreCodes-coded : (kind : ℕ) (least : ℤ) (vs : List Value) (cs : List ℕ) (b : ℕ) → AreCoded (IsCode kind least) vs cs → AreCodes vs (record { codes = cs; bound = b })
AreCodes-coded kind least vs cs b coded = record {
  size = coded.size;
  same = λ i j first second.
      let x = element vs i first in
      let y = element vs j second in
      let p = coded.each i x.0 x.1 in
      let q = coded.each j y.0 y.1 in
      let m = get_or cs i 0 in
      let n = get_or cs j 0 in
      (λ k. same_value (unwrap_or (x.1 k) Value.Null) (unwrap_or (y.1 k) Value.Null))
      ∙ same_as x.0 y.0 m n
      (λ h. code_once kind least y.0 m n (subst (λ v. IsCode kind least v m) h p) q)
      (λ h. code_tells kind least x.0 y.0 n (subst (IsCode kind least x.0) h p) q);
}

pub seen-codes : (kind : ℕ) (least : ℤ) (list : List Seen) (o : Option (Vec ℕ Global)) (v : Vec ℕ Global) (b : ℕ) → o ≡ Some v → IfSome o (λ codes. AreCoded (λ v. IsCode kind least (seen_value v)) list codes.items)
    → AreCodes (map (λ v. seen_value v) list) (record { codes = v.items; bound = b }) × (list_any is_beyond (map (λ v. seen_value v) list) ≡ false)
seen-codes kind least list o v b is coded =
    let here : AreCoded (λ v. IsCode kind least (seen_value v)) list v.items = subst (λ p. IfSome p (λ codes. AreCoded (λ v. IsCode kind least (seen_value v)) list codes.items)) is coded in
    let all = coded-values (λ v. seen_value v) (IsCode kind least) list v.items here in
    (AreCodes-coded kind least (map (λ v. seen_value v) list) v.items b all, none_beyond kind least (map (λ v. seen_value v) list) v.items all)
