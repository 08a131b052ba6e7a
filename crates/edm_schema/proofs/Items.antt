-- The items of an array, as the program holds them.
use Rattle.std.proofs.Common.{◌≡◌, ℕ, zero, suc, ◌+◌, ◌<◌, Bool, List, [], ◌∷◌, ◌++◌, refl, ap, length, take, get_or, Some, None, arith, add-one}
use Rattle.std.specs.Option.{option_to_list}
use Rattle.std.specs.Prelude.{filter_map, Option}
use Rattle.std.specs.List.{list_all, cons_option}
use Rattle.serde_json.specs.Find.{as_str}
use Rattle.serde_json.specs.Data.{Data}
use Rattle.serde_json.specs.View.{view, items_view}
use Rattle.serde_json.specs.declared.value.Value.{Value}
use Rattle.edm_schema.specs.JsonTrees.{item_list}

-- as many are seen
pub length_seen : (vs : List Value) → length (item_list (items_view vs)) ≡ length vs
length_seen [] = refl
length_seen (v ∷ vs) = ap suc (length_seen vs)

-- each that is seen passes
pub all_seen : (p : Data → Bool) (vs : List Value) → list_all p (item_list (items_view vs)) ≡ list_all (λ v. p (view v)) vs
all_seen p [] = refl
all_seen p (v ∷ vs) = rw (all_seen p vs) refl

pub ruleset items = (length_seen, all_seen)

-- the strings that are seen
pub strings_seen : (vs : List Value) → filter_map as_str (item_list (items_view vs)) ≡ filter_map (λ v. as_str (view v)) vs
strings_seen [] = refl
strings_seen (v ∷ vs) = ap (cons_option (as_str (view v))) (strings_seen vs)

cons_none : {Y : Type 0} (o : Option Y) → cons_option o [] ≡ option_to_list o
cons_none None = refl
cons_none (Some y) = refl

cons_more : {Y : Type 0} (o : Option Y) (whole front last : List Y) → whole ≡ front ++ last → cons_option o whole ≡ cons_option o front ++ last
cons_more None whole front last h = h
cons_more (Some y) whole front last h = ap (λ ys. y ∷ ys) h

filter_map_suc : {X Y : Type 0} (f : X → Option Y) (xs : List X) (i : ℕ) (d : X) → i < length xs → filter_map f (take (suc i) xs) ≡ filter_map f (take i xs) ++ option_to_list (f (get_or xs i d))
filter_map_suc f [] i d h = absurd (omega arith)
filter_map_suc f (x ∷ xs) zero d h = cons_none (f x)
filter_map_suc f (x ∷ xs) (suc i) d h = cons_more (f x) (filter_map f (take (suc i) xs)) (filter_map f (take i xs)) (option_to_list (f (get_or xs i d))) (filter_map_suc f xs i d (omega arith))

-- one element more of a list
pub filter_map_more : {X Y : Type 0} (f : X → Option Y) (xs : List X) (i : ℕ) (d : X) → i < length xs → filter_map f (take (i + 1) xs) ≡ filter_map f (take i xs) ++ option_to_list (f (get_or xs i d))
filter_map_more f xs i d h = rw add-one (filter_map_suc f xs i d h)
