-- The instances at the places of groups, and what a method gives on their values.
use Rattle.std.proofs.Common.{◌≡◌, refl, sym, ◌∙◌, ap, ℕ, ◌+◌, ◌<◌, ◌&&◌, Bool, true, List, [], ◌∷◌, ◌++◌, Some, length, map, take, get_or, arith}
use Rattle.std.specs.Prelude.{nat_lt, Option, None, option_map, slice_get}
use Rattle.std.specs.List.{cons_option, list_all}
use Rattle.std.proofs.lemmas.List.{length-map, map_more}
use Rattle.std.proofs.lemmas.Option.{slice_get-get_or, slice_get-map}
use Rattle.std.proofs.lemmas.Simd.{map-map}
use Rattle.edm_values.specs.declared.Method.{Method}
use Rattle.edm_values.specs.declared.Value.{Value}
use Rattle.edm_values.specs.Lists.{at_places}
use Rattle.edm_values.specs.Names.{Path}
use Rattle.edm_values.specs.Literals.{is_of_kind}
use Rattle.edm_values.proofs.ListFacts.{all-any, all-at, all-map}
use Rattle.edm_values.proofs.OptionFacts.{mapped, some_value}
use Rattle.edm_data.specs.Worlds.{World}
use Rattle.apply_ast.specs.Trees.{Expr}
use Rattle.apply_meaning.specs.Aggregates.{aggregate}
use Rattle.apply_meaning.proofs.RootLemmas.{all-at_places}
use Rattle.apply_meaning.specs.Instances.{Instance, val}
use Rattle.apply_meaning.specs.Meaning.{key_list, keys, same_keys, values}
use Rattle.par_stages.specs.Placed.{placed}
use Rattle.par_stages.proofs.Passing.{passing, passing-below, passing-items}
use Rattle.aggregate_ops.specs.KeyTables.{groups_of}
use Rattle.aggregate_ops.specs.Partials.{AreFoldable}
use Rattle.aggregate_ops.proofs.KeyGroups.{groups-of_images}
use Rattle.custom_agg.specs.CustomValues.{are_within, group_results, results_at}

-- the places of one of the groups
pub places-within : (n : ℕ) (groups : List (List Value × List ℕ)) (k : ℕ) (ps : List ℕ) → are_within n groups ≡ true → Some ps ≡ option_map (λ g. g.1) (slice_get groups k) → list_all (λ p. nat_lt p n) ps ≡ true
places-within n groups k ps all e =
    let g = mapped (λ (g : List Value × List ℕ). g.1) (slice_get groups k) ps (sym e) in
    ap (list_all (λ p. nat_lt p n)) (sym g.2) ∙ all-at (λ (g : List Value × List ℕ). list_all (λ p. nat_lt p n) g.1) groups k g.0 all g.1

all-mapped : {X Y : Type 0} (q : Y → Bool) (f : X → Y) (xs : List X) → list_all q (map f xs) ≡ list_all (λ x. q (f x)) xs
all-mapped q f [] = refl
all-mapped q f (x ∷ xs) = ap (λ b. q (f x) && b) (all-mapped q f xs)

-- a method takes the values on some of the instances, where it takes those on all
pub foldable-places : (w : World) (e : Expr) (f : Method) (l : List Instance) (ps : List ℕ) (vs : List Value) → vs ≡ values w e (at_places l ps) → AreFoldable f (values w e l) → AreFoldable f vs
foldable-places w e f l ps vs is a =
    let fits : Instance → Bool = λ i. is_of_kind a.0 (val w i e) in
    let on = all-at_places fits l ps (sym (all-mapped (is_of_kind a.0) (λ i. val w i e) l) ∙ a.2) in
    (a.0, a.1, ap (list_all (is_of_kind a.0)) is ∙ all-mapped (is_of_kind a.0) (λ i. val w i e) (at_places l ps) ∙ on)

map-first : {X Y : Type 0} (f : X → Y) (o : Option X) (xs : List X) → map f (cons_option o xs) ≡ cons_option (option_map f o) (map f xs)
map-first f None xs = refl
map-first f (Some x) xs = refl

-- the values at places of those on all instances are the values on the instances at these places
pub values-at_places : (w : World) (e : Expr) (l : List Instance) (ks : List ℕ) → at_places (values w e l) ks ≡ values w e (at_places l ks)
values-at_places w e l [] = refl
values-at_places w e l (k ∷ ks) =
    (λ j. cons_option (slice_get-map (λ i. val w i e) l k j) (values-at_places w e l ks j))
    ∙ sym (map-first (λ i. val w i e) (slice_get l k) (at_places l ks))

-- the places are those of a list of values, one on each instance
pub places-of_values : (w : World) (e : Expr) (l : List Instance) (vs : List Value) (ps : List ℕ) → vs ≡ values w e l → list_all (λ k. nat_lt k (length l)) ps ≡ true → list_all (λ k. nat_lt k (length vs)) ps ≡ true
places-of_values w e l vs ps is all = ap (λ n. list_all (λ k. nat_lt k n) ps) (ap length is ∙ length-map l (λ i. val w i e)) ∙ all

-- the result of one group more
pub results-next : (w : World) (e : Expr) (f : Method) (l : List Instance) (groups : List (List Value × List ℕ)) (k : ℕ) (ps : List ℕ) (v : Value) (vs : List Value) → k < length groups
    → Some ps ≡ option_map (λ g. g.1) (slice_get groups k) → v ≡ aggregate f (values w e (at_places l ps)) → vs ≡ results_at w e f l (take k groups) → vs ++ v ∷ [] ≡ results_at w e f l (take (k + 1) groups)
results-next w e f l groups k ps v vs h is r so_far =
    let d : List Value × List ℕ = ([], []) in
    let own : ps ≡ (get_or groups k d).1 = some_value (is ∙ ap (option_map (λ (g : List Value × List ℕ). g.1)) (slice_get-get_or groups k d h)) in
    (λ i. so_far i ++ (r ∙ ap (λ p. aggregate f (values w e (at_places l p))) own) i ∷ [])
    ∙ sym (map_more (λ (g : List Value × List ℕ). aggregate f (values w e (at_places l g.1))) groups k d h)

module _ (w : World) (ks : List Path) (l : List Instance) where
  abbrev groups : List (List Value × List ℕ)
  groups = groups_of (placed 0 (map (key_list w ks) l))

  abbrev by_key : List Value → List ℕ
  by_key k = passing (λ i. same_keys (key_list w ks i) k) 0 l

  groups-is : groups ≡ map (λ k. (k, by_key k)) (keys w ks l)
  groups-is = groups-of_images (key_list w ks) l

  -- the places of groups are places of the list
  pub groups-within : are_within (length l) groups ≡ true
  groups-within =
      ap (are_within (length l)) groups-is
      ∙ all-map {X = List Value} (λ k. true) (λ g. list_all (λ p. nat_lt p (length l)) g.1) (λ k. (k, by_key k)) (keys w ks l) (all-any (λ k. true) (keys w ks l) (λ k. refl))
      (λ k x. let size : length l ≡ 0 + length l = omega arith in passing-below (λ i. same_keys (key_list w ks i) k) (length l) 0 l size)

  -- what a method gives at the places of the groups it gives on the groups
  pub results-of_groups : (e : Expr) (f : Method) → results_at w e f l groups ≡ group_results w e f ks l
  results-of_groups e f =
      ap (results_at w e f l) groups-is
      ∙ map-map (λ (g : List Value × List ℕ). aggregate f (values w e (at_places l g.1))) (λ k. (k, by_key k)) (keys w ks l)
      ∙ (λ i. map (λ k. aggregate f (values w e (passing-items (λ i. same_keys (key_list w ks i) k) l i))) (keys w ks l))
