-- Sameness of texts as values, and of lists of values, told value by value.
use Rattle.std.proofs.Common.{◌≡◌, ◌≢◌, ℕ, zero, suc, ◌+◌, ◌<◌, Bool, true, false, ◌&&◌, List, [], ◌∷◌, ◌++◌, length, get_or, take, refl, sym, ap, ◌∙◌, arith}
use Rattle.std.specs.Prelude.{nat_eq, flat_map, fold}
use Rattle.std.specs.Hash.{fed_then}
use Rattle.std.proofs.lemmas.Grind.{flat_map-append}
use Rattle.std.proofs.lemmas.List.{append-nil, append_assoc, take_more}
use Rattle.edm_values.specs.Keys.{hash_writes}
use Rattle.std.specs.Cmp.{unsigned_Decides}
use Rattle.std.specs.Cmp.Lexicographic.{as_long, bytes_decides, pointwise}
use Rattle.std.proofs.lemmas.Bool.{false_from_ne_true, true≢false}
use Rattle.edm_values.specs.declared.Value.{Value}
use Rattle.edm_values.specs.Values.{same_value}
use Rattle.edm_values.proofs.ValueOrders.{same_value_tests}
use Rattle.apply_meaning.specs.Meaning.{same_keys}

-- a test of equality is sameness
told : (a b : Value) (r : Bool) → (r ≡ true → a ≡ b) → (a ≡ b → r ≡ true) → r ≡ same_value a b
told a b r forth back = go r (same_value a b) refl refl
  where
    go : (s t : Bool) → r ≡ s → same_value a b ≡ t → r ≡ same_value a b
    go true true h k = h ∙ sym k
    go false false h k = h ∙ sym k
    go true false h k = absurd (true≢false (sym (ap (same_value a) (sym (forth h)) ∙ same_value_tests.itself a) ∙ k))
    go false true h k = absurd (true≢false (sym (back (same_value_tests.same a b k)) ∙ h))

-- the bytes of a text
bytes_in : Value → List ℕ
bytes_in (Value.Text t) = t
bytes_in _ = []

-- texts are the same values where their bytes are
pub texts_same : (t u : List ℕ) → pointwise nat_eq t u ≡ same_value (Value.Text t) (Value.Text u)
unfolding bytes_in
texts_same t u = told (Value.Text t) (Value.Text u) (pointwise nat_eq t u) (λ h. ap Value.Text ((bytes_decides t u).0 h)) (λ e. (bytes_decides t u).1 (ap bytes_in e))

-- lists of two lengths are two
pub lists_short : (k l : List Value) → length k ≢ length l → false ≡ same_keys k l
lists_short k l n = go (same_keys k l) refl
  where
    go : (b : Bool) → same_keys k l ≡ b → false ≡ same_keys k l
    go true h = absurd (n (as_long same_value k l h))
    go false h = sym h

-- lists that differ at a place are two
pub lists_differ : (k l : List Value) (i : ℕ) (d : Value) → i < length k → length k ≡ length l → same_value (get_or k i d) (get_or l i d) ≡ false → false ≡ same_keys k l
lists_differ [] l i d h e n = absurd (omega arith)
lists_differ (x ∷ k) [] i d h e n = absurd (omega arith)
lists_differ (x ∷ k) (y ∷ l) zero d h e n = sym (ap (λ b. b && same_keys k l) n)
lists_differ (x ∷ k) (y ∷ l) (suc i) d h e n = go (same_value x y) (lists_differ k l i d (omega arith) (omega arith) n)
  where
    go : (b : Bool) → false ≡ same_keys k l → false ≡ (b && same_keys k l)
    go true r = r
    go false r = refl

-- lists of one length that are the same at each place are the same
pub lists_same : (k l : List Value) (d : Value) → length k ≡ length l → ((i : ℕ) → i < length k → same_value (get_or k i d) (get_or l i d) ≡ true) → true ≡ same_keys k l
lists_same [] [] d e all = refl
lists_same [] (y ∷ l) d e all = absurd (omega arith)
lists_same (x ∷ k) [] d e all = absurd (omega arith)
lists_same (x ∷ k) (y ∷ l) d e all = lists_same k l d (omega arith) (λ i h. all (suc i) (omega arith)) ∙ sym (ap (λ b. b && same_keys k l) (all 0 (omega arith)))

-- where two numbers differ, a test that asks for the same number fails
pub other_number : (b : Bool) (x y : ℕ) → x ≢ y → (b ≡ true → x ≡ y) → nat_eq x y ≡ b
other_number true x y n e = absurd (n (e refl))
other_number false x y n e = false_from_ne_true (nat_eq x y) (λ h. n ((unsigned_Decides x y).0 h))

-- ---- a list so far

-- one value more is written
pub fed-more : {S : Type 0} (write : S → List ℕ → S) (s t u : S) (ks : List Value) (k : ℕ) (v : Value) → k < length ks → v ≡ get_or ks k Value.Null → t ≡ fold write s (flat_map hash_writes (take k ks)) → u ≡ fold write t (hash_writes v) → u ≡ fold write s (flat_map hash_writes (take (k + 1) ks))
fed-more write s t u ks k v h is before now =
    fed_then write s t u (flat_map hash_writes (take k ks)) (hash_writes v) before now
    ∙ ap (fold write s)
    (ap (λ ws. flat_map hash_writes (take k ks) ++ ws) (ap hash_writes is ∙ sym (append-nil (hash_writes (get_or ks k Value.Null))))
    ∙ sym (flat_map-append hash_writes (take k ks) (get_or ks k Value.Null ∷ []))
    ∙ ap (flat_map hash_writes) (sym (take_more ks k Value.Null h)))

-- one value more is put behind
pub put-more : (done done' first ks : List Value) (k : ℕ) (v : Value) → k < length ks → v ≡ get_or ks k Value.Null → done ≡ first ++ take k ks → done' ≡ done ++ v ∷ [] → done' ≡ first ++ take (k + 1) ks
put-more done done' first ks k v h is before now =
    now ∙ (λ i. before i ++ is i ∷ [])
    ∙ append_assoc first (take k ks) (get_or ks k Value.Null ∷ [])
    ∙ ap (λ l. first ++ l) (sym (take_more ks k Value.Null h))
