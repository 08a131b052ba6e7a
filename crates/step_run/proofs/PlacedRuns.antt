-- Neighbours in an order of instances: those at or below a node, and what an aggregation gives of them.
use Rattle.std.proofs.Common.{◌≡◌, ℕ, zero, suc, ◌+◌, ◌-◌, ◌<◌, ◌≤◌, Bool, true, false, ◌&&◌, refl, sym, ◌∙◌, ap, List, [], ◌∷◌, ◌++◌, Option, Some, None, length, map, drop, take, filter, get_or, arith, append_assoc, IsTrue}
use Rattle.std.specs.Prelude.{flat_map, nat_lt, option_map, slice_get, unwrap_or, if◌then◌else◌}
use Rattle.std.specs.List.{cons_option, list_all}
use Rattle.std.proofs.lemmas.Bool.{and_parts, ltb-true}
use Rattle.std.proofs.lemmas.List.{drop-map, length-drop, length-map, length-take-le}
use Rattle.std.proofs.lemmas.List.Sorted.{IsStrictWeakOrder-by_number}
use Rattle.std.proofs.lemmas.Option.{slice_get-map}
use Rattle.std.specs.declared.result.Result.TheVariants.{Err}
use Rattle.edm_values.proofs.EachLemmas.{map-agree}
use Rattle.edm_values.proofs.ListFacts.{all-at, all-filter_map}
use Rattle.edm_values.proofs.Reorderings.{Reorders, nonempty-reorders, reorders-filter_map, reorders-same}
use Rattle.edm_values.proofs.SortedLists.{reorders-sorted}
use Rattle.edm_values.proofs.TopPlaces.{at_places-filter, element-there}
use Rattle.edm_values.specs.declared.Value.{Value}
use Rattle.edm_values.specs.declared.refusals.Refused.{Refused}
use Rattle.edm_values.specs.declared.refusals.Refused.TheVariants.{Range, Memory}
use Rattle.edm_values.specs.Lists.{at_places, is_nonempty, is_some_and, places, sorted}
use Rattle.edm_values.specs.Names.{Path}
use Rattle.edm_model.specs.LookUps.{HierarchyPlace}
use Rattle.edm_data.specs.Hierarchies.{is_under, rows_under}
use Rattle.edm_data.specs.Nodes.{identifier, parents_of}
use Rattle.edm_data.specs.Worlds.{World}
use Rattle.apply_ast.specs.Trees.{AggItem}
use Rattle.context_typing.specs.Shapes.{Shape}
use Rattle.context_typing.specs.Typing.{Customs}
use Rattle.apply_meaning.proofs.InstanceOrders.{item_value-reorders}
use Rattle.apply_meaning.specs.Instances.{Instance, no_instance, val}
use Rattle.apply_meaning.specs.Meaning.{at_or_below, item_value, node, values}
use Rattle.apply_meaning.specs.RowViews.{is_of}
use Rattle.apply_meaning.specs.Running.{all_of}
use Rattle.group_rollup.specs.Groupings.{has_beyond_key}
use Rattle.step_run.proofs.GroupLemmas.{next-flat}
use Rattle.step_run.specs.ItemLists.{item_list}
use Rattle.step_run.specs.Contexts.{Context}
use Rattle.step_run.specs.Levels.{GivesNodeLevels}
use Rattle.step_run.specs.Totals.{AreNodesOf, GivesTotals, total_row, totals_at}

-- ---- places of a list, from one on and before another

pub placed-drop : {X : Type 0} (l : List X) (a : ℕ) (ks : List ℕ) → list_all (λ k. nat_lt k (length l)) ks ≡ true → at_places l (drop a ks) ≡ drop a (at_places l ks)
placed-drop l zero ks h = refl
placed-drop l (suc a) [] h = refl
placed-drop l (suc a) (k ∷ ks) h =
    let t = and_parts (nat_lt k (length l)) _ h in
    let x = element-there l k (ltb-true k (length l) t.0) in
    placed-drop l a ks t.1 ∙ ap (λ o. drop (suc a) (cons_option o (at_places l ks))) (sym x.1)

pub placed-take : {X : Type 0} (l : List X) (n : ℕ) (ks : List ℕ) → list_all (λ k. nat_lt k (length l)) ks ≡ true → at_places l (take n ks) ≡ take n (at_places l ks)
placed-take l zero ks h = refl
placed-take l (suc n) [] h = refl
placed-take l (suc n) (k ∷ ks) h =
    let t = and_parts (nat_lt k (length l)) _ h in
    let x = element-there l k (ltb-true k (length l) t.0) in
    ap (λ o. cons_option o (at_places l (take n ks))) x.1
    ∙ ap (λ ys. x.0 ∷ ys) (placed-take l n ks t.1)
    ∙ ap (λ o. take (suc n) (cons_option o (at_places l ks))) (sym x.1)

all-after : (p : ℕ → Bool) (a : ℕ) (ks : List ℕ) → list_all p ks ≡ true → list_all p (drop a ks) ≡ true
all-after p zero ks h = h
all-after p (suc a) [] h = h
all-after p (suc a) (k ∷ ks) h = all-after p a ks (and_parts (p k) _ h).1

all-before : (p : ℕ → Bool) (n : ℕ) (ks : List ℕ) → list_all p ks ≡ true → list_all p (take n ks) ≡ true
all-before p zero ks h = refl
all-before p (suc n) [] h = refl
all-before p (suc n) (k ∷ ks) h = let t = and_parts (p k) _ h in ap (λ b. b && list_all p (take n ks)) t.0 ∙ all-before p n ks t.1

pub part-within : (m a n : ℕ) (ks : List ℕ) → IsTrue (list_all (λ k. nat_lt k m) ks) → IsTrue (list_all (λ k. nat_lt k m) (take n (drop a ks)))
part-within m a n ks h = all-before (λ k. nat_lt k m) n (drop a ks) (all-after (λ k. nat_lt k m) a ks h)

pub placed-part : {X : Type 0} (l : List X) (a n : ℕ) (ks : List ℕ) → IsTrue (list_all (λ k. nat_lt k (length l)) ks) → at_places l (take n (drop a ks)) ≡ take n (drop a (at_places l ks))
placed-part l a n ks h = placed-take l n (drop a ks) (all-after (λ k. nat_lt k (length l)) a ks h) ∙ ap (take n) (placed-drop l a ks h)

pub length-placed : {X : Type 0} (l : List X) (ks : List ℕ) → list_all (λ k. nat_lt k (length l)) ks ≡ true → length (at_places l ks) ≡ length ks
length-placed l [] h = refl
length-placed l (k ∷ ks) h =
    let t = and_parts (nat_lt k (length l)) _ h in
    let x = element-there l k (ltb-true k (length l) t.0) in
    ap (λ o. length (cons_option o (at_places l ks))) x.1 ∙ ap suc (length-placed l ks t.1)

-- ---- the values of an item that stand there

take-map : {X Y : Type 0} (f : X → Y) (n : ℕ) (xs : List X) → take n (map f xs) ≡ map f (take n xs)
take-map f zero xs = refl
take-map f (suc n) [] = refl
take-map f (suc n) (x ∷ xs) = ap (λ ys. f x ∷ ys) (take-map f n xs)

list-part : (w : World) (l : List Instance) (i : AggItem) (a n : ℕ) (vs : List Value) → item_list w l i ≡ Some vs → item_list w (take n (drop a l)) i ≡ Some (take n (drop a vs))
list-part w l (AggItem.Standard e f b) a n vs known =
    let same : values w e l ≡ vs = cc in
    ap Some (sym (take-map (λ i. val w i e) n (drop a l)) ∙ ap (take n) (sym (drop-map (λ i. val w i e) a l)) ∙ ap (λ us. take n (drop a us)) same)
list-part w l (AggItem.Count b) a n vs known = absurd cc
list-part w l (AggItem.Custom c b) a n vs known = absurd cc

-- the values of an item on the instances at the places that stand there
pub placed-list : (w : World) (l : List Instance) (i : AggItem) (a n : ℕ) (ks : List ℕ) (vs : List Value) → IsTrue (list_all (λ k. nat_lt k (length l)) ks) → item_list w (at_places l ks) i ≡ Some vs
    → item_list w (at_places l (take n (drop a ks))) i ≡ Some (take n (drop a vs))
placed-list w l i a n ks vs h known = ap (λ ls. item_list w ls i) (placed-part l a n ks h) ∙ list-part w (at_places l ks) i a n vs known

-- there are as many values as places
pub list-long : (w : World) (l : List Instance) (i : AggItem) (ks : List ℕ) (vs : List Value) → IsTrue (list_all (λ k. nat_lt k (length l)) ks) → item_list w (at_places l ks) i ≡ Some vs → length vs ≡ length ks
list-long w l (AggItem.Standard e f b) ks vs h known =
    let same : values w e (at_places l ks) ≡ vs = cc in
    ap length (sym same) ∙ length-map (at_places l ks) (λ i. val w i e) ∙ length-placed l ks h
list-long w l (AggItem.Count b) ks vs h known = absurd cc
list-long w l (AggItem.Custom c b) ks vs h known = absurd cc

-- ---- the instances at or below a node, in another order

module _ (w : World) (f : HierarchyPlace) (p : Path) (l : List Instance) (x : ℕ) where
  -- their places are those of the rows at or below it
  places-below : at_places l (rows_under (parents_of w f) x (map (node w f p) l)) ≡ filter (at_or_below w f p x) l
  places-below =
      ap (λ n. at_places l (filter is_row (places n))) (length-map l (node w f p))
      ∙ at_places-filter (at_or_below w f p x) is_row l row_is
    where
      is_row : ℕ → Bool
      is_row i = unwrap_or (option_map (is_under (parents_of w f) x) (unwrap_or (slice_get (map (node w f p) l) i) None)) false

      go : (o : Option ℕ) → unwrap_or (option_map (is_under (parents_of w f) x) o) false ≡ is_some_and (is_under (parents_of w f) x) o
      go None = refl
      go (Some y) = refl

      row_is : (k : ℕ) (i : Instance) → slice_get l k ≡ Some i → is_row k ≡ at_or_below w f p x i
      row_is k i e =
          ap (λ o. unwrap_or (option_map (is_under (parents_of w f) x) (unwrap_or o None)) false) (slice_get-map (node w f p) l k ∙ ap (option_map (node w f p)) e)
          ∙ go (node w f p i)

  pub run-reorders : (set : ℕ) (parents nodes : List (Option ℕ)) (run : List ℕ) → AreNodesOf w f p l set parents nodes → sorted nat_lt run ≡ rows_under parents x nodes → Reorders (at_places l run) (filter (at_or_below w f p x) l)
  run-reorders set parents nodes run are same =
      let ascending : Reorders run (sorted nat_lt run) = reorders-sorted nat_lt (IsStrictWeakOrder-by_number (λ (y : ℕ). y)) run in
      Reorders.join (reorders-filter_map (slice_get l) ascending)
      (reorders-same (ap (at_places l) same ∙ (λ i. at_places l (rows_under (are.parents_are i) x (are.nodes_are i))) ∙ places-below))

-- the row of instances is that of the same in another order
total-reorders : (w : World) (c : Customs) (S : Shape) (items : List AggItem) (p : Path) (v : Value) {l r : List Instance} → Reorders l r → total_row w c S items p v l ≡ total_row w c S items p v r
total-reorders w c S items p v {l} {r} e = ap (λ cs. record no_instance { columns = cs ++ (p, v) ∷ [] }) (map-agree (item_value w c S l) (item_value w c S r) items (λ i. item_value-reorders w c S i e))

some-is : {X : Type 0} (xs : List X) → 0 < length xs → is_nonempty xs ≡ true
some-is [] h = absurd (omega (arith, h))
some-is (x ∷ xs) h = refl

none-is : {X : Type 0} (xs : List X) → length xs ≡ 0 → is_nonempty xs ≡ false
none-is [] h = refl
none-is (x ∷ xs) h = absurd (omega (arith, h))

module _ (w : World) (c : Customs) (S : Shape) (f : HierarchyPlace) (items : List AggItem) (p : Path) (l : List Instance) (set : ℕ) (parents nodes : List (Option ℕ)) (are : AreNodesOf w f p l set parents nodes)
    (ks : List ℕ) (within : IsTrue (list_all (λ k. nat_lt k (length l)) ks)) (a b x : ℕ) (order : a ≤ b) (last : b ≤ length ks) (same : sorted nat_lt (take (b - a) (drop a ks)) ≡ rows_under parents x nodes) where
  abbrev run : List ℕ
  run = take (b - a) (drop a ks)

  run-long : length run ≡ b - a
  run-long =
      let behind = length-drop a ks in
      let fits : b - a ≤ length (drop a ks) = omega (arith, behind, order, last) in
      length-take-le (b - a) (drop a ks) fits

  long : length (at_places l run) ≡ b - a
  long = length-placed l run (part-within (length l) a (b - a) ks within) ∙ run-long

  -- a run that is not empty has the row of its instances
  pub run-made : (v : Value) → a < b → v ≡ identifier w f x → totals_at w c S f items p l x ≡ total_row w c S items p v (at_places l run) ∷ []
  run-made v h id =
      let e = run-reorders w f p l x set parents nodes run are same in
      let size = long in
      let some : is_nonempty (filter (at_or_below w f p x) l) ≡ true = sym (nonempty-reorders e) ∙ some-is (at_places l run) (omega (arith, size, h)) in
      ap (λ (t : Bool). if t then total_row w c S items p (identifier w f x) (filter (at_or_below w f p x) l) ∷ [] else []) some
      ∙ ap (λ r. r ∷ []) (sym (total-reorders w c S items p (identifier w f x) e) ∙ ap (λ u. total_row w c S items p u (at_places l run)) (sym id))

  -- an empty one has none
  pub run-none : (a < b → ⊥) → totals_at w c S f items p l x ≡ []
  run-none h =
      let e = run-reorders w f p l x set parents nodes run are same in
      let size = long in
      let none : is_nonempty (filter (at_or_below w f p x) l) ≡ false = sym (nonempty-reorders e) ∙ none-is (at_places l run) (omega (arith, size, order, h)) in
      ap (λ (t : Bool). if t then total_row w c S items p (identifier w f x) (filter (at_or_below w f p x) l) ∷ [] else []) none

-- ---- the rows of nodes, from one node to the next

pub next-made : (g : ℕ → List Instance) (shown : List ℕ) (i d : ℕ) (all made : List Instance) (r : Instance) → all ≡ made ++ flat_map g (drop i shown) → i < length shown → d ≡ get_or shown i d → r ∷ [] ≡ g d
    → all ≡ (made ++ r ∷ []) ++ flat_map g (drop (i + 1) shown)
next-made g shown i d all made r so_far h e own =
    so_far
    ∙ ap (λ rest. made ++ rest) (next-flat g shown i d h e ∙ ap (λ rs. rs ++ flat_map g (drop (i + 1) shown)) (sym own))
    ∙ sym (append_assoc made (r ∷ []) (flat_map g (drop (i + 1) shown)))

pub next-none : (g : ℕ → List Instance) (shown : List ℕ) (i d : ℕ) (all made : List Instance) → all ≡ made ++ flat_map g (drop i shown) → i < length shown → d ≡ get_or shown i d → [] ≡ g d
    → all ≡ made ++ flat_map g (drop (i + 1) shown)
next-none g shown i d all made so_far h e own = so_far ∙ ap (λ rest. made ++ rest) (next-flat g shown i d h e ∙ ap (λ rs. rs ++ flat_map g (drop (i + 1) shown)) (sym own))

length-parts : {X : Type 0} (xs ys : List X) → length (xs ++ ys) ≡ length xs + length ys
length-parts [] ys = omega arith
length-parts (x ∷ xs) ys = let u = length-parts xs ys in omega (arith, u)

-- what is counted so far, and for the next node, is no more than the whole
pub next-counted : (g : ℕ → List Instance) (shown : List ℕ) (i d : ℕ) (all made : List Instance) → all ≡ made ++ flat_map g (drop i shown) → i < length shown → d ≡ get_or shown i d → length made + length (g d) ≤ length all
next-counted g shown i d all made so_far h e =
    let whole = ap length so_far ∙ length-parts made (flat_map g (drop i shown)) in
    let next = ap length (next-flat g shown i d h e) ∙ length-parts (g d) (flat_map g (drop (i + 1) shown)) in
    omega (arith, whole, next)

-- ---- refusals

-- a path that is Beyond refuses a grouping by nodes, whatever is made of the groups
pub levels-totals : (x : Context) (S : Shape) (f : HierarchyPlace) (items : List AggItem) (p : Path) (shown : List ℕ) (l : List Instance) (e : Refused) → GivesNodeLevels (Err e) x.world f [] p shown l → GivesTotals (Err e) x S f items p shown l
levels-totals x S f items p shown l Range h = h
levels-totals x S f items p shown l Memory h = tt

-- no key is Beyond where there is none
pub none-keyed : (w : World) (l : List Instance) → has_beyond_key w [] l ≡ false
none-keyed w [] = refl
none-keyed w (i ∷ l) = none-keyed w l

-- what holds of all instances holds of those at places
pub placed-of : (w : World) (l : List Instance) (ks : List ℕ) → IsTrue (all_of w l) → IsTrue (all_of w (at_places l ks))
placed-of w l ks h = all-filter_map (is_of w) (slice_get l) ks (λ k i e. all-at (is_of w) l k i h e)
