-- The order of keys that are seen is that of the keys.
use Rattle.std.proofs.Common.{◌≡◌, ℕ, ◌+◌, Bool, cond, ◌||◌, List, [], ◌∷◌, take, map, get_or, refl, sym, ◌∙◌, ap, Some, None}
use Rattle.std.specs.declared.option.Option.{Option}
use Rattle.std.specs.Option.{option_map}
use Rattle.std.specs.declared.cmp.Ordering.{Ordering}
use Rattle.std.specs.declared.cmp.Ordering.TheVariants.{Less}
use Rattle.std.specs.List.{list_any, position, position_from, slice_get, AllByRecursion}
use Rattle.std.specs.List.Sorted.{IsStrictlySortedBy}
use Rattle.std.specs.Map.{lookup}
use Rattle.std.specs.Ordering.{is_eq}
use Rattle.std.proofs.lemmas.Iterator.Adapters.{position_from-zero}
use Rattle.std.proofs.lemmas.Option.{slice_get-map}
use Rattle.std.proofs.lemmas.List.{take-map}
use Rattle.std.proofs.Math.ListN.{get_or-map}
use Rattle.edm_values.specs.Lists.{is_some_and}
use Rattle.edm_values.specs.Values.{seen_value}
use Rattle.edm_values.specs.declared.Seen.{Seen}
use Rattle.edm_values.specs.declared.Value.{Value}
use Rattle.edm_data.specs.declared.keys.Key.{Key}
use Rattle.edm_data.specs.KeyOrders.{is_twice, IsFirstTwice, AreDistinct, IsKeyOrder, keyed}

position_from-map : {A K : Type 0} (f : A → K) (p : K → Bool) (i : ℕ) (xs : List A) → position_from p i (map f xs) ≡ position_from (λ a. p (f a)) i xs
position_from-map f p i [] = refl
position_from-map f p i (x ∷ xs) = ap (cond (p (f x)) (Some i)) (position_from-map f p (i + 1) xs)

pub position-map : {A K : Type 0} (f : A → K) (p : K → Bool) (xs : List A) → position p (map f xs) ≡ position (λ a. p (f a)) xs
position-map f p xs = position_from-zero p (map f xs) ∙ position_from-map f p 0 xs ∙ sym (position_from-zero (λ a. p (f a)) xs)

pub list_any-map : {A K : Type 0} (f : A → K) (p : K → Bool) (xs : List A) → list_any p (map f xs) ≡ list_any (λ a. p (f a)) xs
list_any-map f p [] = refl
list_any-map f p (x ∷ xs) = ap (λ b. p (f x) || b) (list_any-map f p xs)

lookup-map : {A K X : Type 0} (f : A → K) (p : K → Bool) (es : List (A × X)) → lookup p (map (λ e. (f e.0, e.1)) es) ≡ lookup (λ a. p (f a)) es
lookup-map f p [] = refl
lookup-map f p (e ∷ es) = ap (cond (p (f e.0)) (Some e.1)) (lookup-map f p es)

module _ {A K : Type 0} (f : A → K) (R : K → K → Ordering) where
  -- the order of what f gives
  abbrev seen_cmp : A → A → Ordering
  seen_cmp a b = R (f a) (f b)

  All-seen : (x : A) (ys : List A) → AllByRecursion (λ y. seen_cmp x y ≡ Less) ys → AllByRecursion (λ y. R (f x) y ≡ Less) (map f ys)
  All-seen x [] all = tt
  All-seen x (y ∷ ys) all = (all.0, All-seen x ys all.1)

  sorted-seen : (xs : List A) → IsStrictlySortedBy seen_cmp xs → IsStrictlySortedBy R (map f xs)
  unfolding IsStrictlySortedBy
  sorted-seen [] up = tt
  sorted-seen (x ∷ xs) up = (All-seen x xs up.0, sorted-seen xs up.1)

  keyed-seen : (d : A) (keys : List A) (order : List ℕ) → keyed (f d) (map f keys) order ≡ map (λ e. (f e.0, e.1)) (keyed d keys order)
  keyed-seen d keys [] = refl
  keyed-seen d keys (p ∷ order) = ap (λ x. (x, p) ∷ keyed (f d) (map f keys) order) (get_or-map f keys p d) ∙ ap (λ l. (f (get_or keys p d), p) ∷ l) (keyed-seen d keys order)

  column-seen : (d : A) (keys : List A) (order : List ℕ) → map (λ p. get_or (map f keys) p (f d)) order ≡ map f (map (λ p. get_or keys p d) order)
  column-seen d keys [] = refl
  column-seen d keys (p ∷ order) = ap (λ x. x ∷ map (λ p. get_or (map f keys) p (f d)) order) (get_or-map f keys p d) ∙ ap (λ l. f (get_or keys p d) ∷ l) (column-seen d keys order)

  pub IsKeyOrder-seen : (g : K → A) → ((k : K) → f (g k) ≡ k) → (keys : List A) (order : List ℕ) → IsKeyOrder seen_cmp keys order → IsKeyOrder R (map f keys) order
  IsKeyOrder-seen g back keys order o = record {
    rises = λ d. rw (back d) at (rw (sym (column-seen (g d) keys order)) at (sorted-seen (map (λ p. get_or keys p (g d)) order) (o.rises (g d))));
    finds = λ d q.
        let found : lookup (λ x. is_eq (R (f (g q)) x)) (keyed (f (g d)) (map f keys) order) ≡ position (λ x. is_eq (R (f (g q)) x)) (map f keys) = ap (lookup (λ x. is_eq (R (f (g q)) x))) (keyed-seen (g d) keys order) ∙ lookup-map f (λ x. is_eq (R (f (g q)) x)) (keyed (g d) keys order) ∙ o.finds (g d) (g q) ∙ sym (position-map f (λ x. is_eq (R (f (g q)) x)) keys) in
        rw (back d, back q) at found;
  }

  is_twice-seen : (keys : List A) (k : ℕ) → is_twice R (map f keys) k ≡ is_twice seen_cmp keys k
  is_twice-seen keys k = rw (slice_get-map f keys k, take-map) (inside (slice_get keys k)) where
    inside : (o : Option A) → is_some_and (λ x. list_any (λ y. is_eq (R x y)) (map f (take k keys))) (option_map f o) ≡ is_some_and (λ x. list_any (λ y. is_eq (seen_cmp x y)) (take k keys)) o
    inside None = refl
    inside (Some x) = list_any-map f (λ y. is_eq (R (f x) y)) (take k keys)

  pub AreDistinct-seen : (keys : List A) → AreDistinct seen_cmp keys → AreDistinct R (map f keys)
  AreDistinct-seen keys apart k = is_twice-seen keys k ∙ apart k

  pub IsFirstTwice-seen : (keys : List A) (k : ℕ) → IsFirstTwice seen_cmp keys k → IsFirstTwice R (map f keys) k
  IsFirstTwice-seen keys k first = record { here = is_twice-seen keys k ∙ first.here; before = λ q h. is_twice-seen keys q ∙ first.before q h }

-- a key that is seen as this value
seen_of : Value → Seen
seen_of Value.Null = Seen.Null
seen_of (Value.Bool b) = Seen.Bool b
seen_of (Value.Int z) = Seen.Int z
seen_of (Value.Dec d) = Seen.Dec d
seen_of (Value.Text t) = Seen.Text (record { ref_ptr = (0, 0); now = t })
seen_of (Value.Day d) = Seen.Day d
seen_of Value.Beyond = Seen.Beyond

pub key_of_value : Value → Key
key_of_value v = record { value = seen_of v }

pub value_of_key : (v : Value) → seen_value ((key_of_value v).value) ≡ v
unfolding key_of_value seen_of
value_of_key Value.Null = refl
value_of_key (Value.Bool b) = refl
value_of_key (Value.Int z) = refl
value_of_key (Value.Dec d) = refl
value_of_key (Value.Text t) = refl
value_of_key (Value.Day d) = refl
value_of_key Value.Beyond = refl
