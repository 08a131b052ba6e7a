-- Values of items on a whole list, and those that stand at places of it.
use Rattle.std.proofs.Common.{◌≡◌, ℕ, zero, suc, ◌+◌, ◌<◌, refl, sym, ◌∙◌, ap, subst, List, [], ◌∷◌, ◌++◌, Option, Some, None, length, map, drop, drop-cons, get_or, add-one, append_assoc, arith, IsTrue}
use Rattle.std.specs.Global.{Vec}
use Rattle.std.specs.Prelude.{nat_lt, option_map, slice_get}
use Rattle.std.specs.List.{cons_option, list_all}
use Rattle.std.proofs.lemmas.Bool.{ltb-true}
use Rattle.std.proofs.lemmas.List.{length-map}
use Rattle.std.proofs.lemmas.Option.{slice_get-get_or, slice_get-map}
use Rattle.edm_values.proofs.ListFacts.{all-at}
use Rattle.edm_values.proofs.OptionFacts.{some_value}
use Rattle.edm_values.specs.declared.Method.{Method}
use Rattle.edm_values.specs.declared.Value.{Value}
use Rattle.edm_values.specs.Lists.{at_places}
use Rattle.edm_values.specs.Names.{Name}
use Rattle.edm_data.specs.Worlds.{World}
use Rattle.apply_ast.specs.Trees.{AggItem, Expr, Pipe, Step}
use Rattle.apply_ast.specs.Views.{agg_of}
use Rattle.apply_ast.specs.declared.items.AggItem as code
use Rattle.apply_meaning.specs.Instances.{Instance, val}
use Rattle.apply_meaning.specs.Meaning.{values}
use Rattle.step_run.specs.ItemLists.{AreFirstLists, AreItemLists, item_list}

map-first : {X Y : Type 0} (f : X → Y) (o : Option X) (l : List X) → map f (cons_option o l) ≡ cons_option (option_map f o) (map f l)
map-first f None l = refl
map-first f (Some x) l = refl

-- one element more of those at places
pub more-placed : {X : Type 0} (l : List X) (ks : List ℕ) (i : ℕ) (x : X) (found found' : List X) → IsTrue (list_all (λ k. nat_lt k (length l)) ks) → i < length ks → x ≡ get_or l (get_or ks i 0) x
    → found' ≡ found ++ x ∷ [] → at_places l ks ≡ found ++ at_places l (drop i ks) → at_places l ks ≡ found' ++ at_places l (drop (i + 1) ks)
more-placed l ks i x found found' all h r m so_far =
    let there = ltb-true (get_or ks i 0) (length l) (all-at (λ k. nat_lt k (length l)) ks i (get_or ks i 0) all (slice_get-get_or ks i 0 h)) in
    so_far
    ∙ ap (λ js. found ++ at_places l js) (drop-cons ks i 0 h)
    ∙ ap (λ o. found ++ cons_option o (at_places l (drop (suc i) ks))) (slice_get-get_or l (get_or ks i 0) x there)
    ∙ ap (λ y. found ++ y ∷ at_places l (drop (suc i) ks)) (sym r)
    ∙ ap (λ n. found ++ x ∷ at_places l (drop n ks)) (sym (add-one i))
    ∙ sym (append_assoc found (x ∷ []) (at_places l (drop (i + 1) ks)))
    ∙ ap (λ xs. xs ++ at_places l (drop (i + 1) ks)) (sym m)

-- what a function gives on the elements at places stands at these places of what it gives on all
pub map-at_places : {X Y : Type 0} (f : X → Y) (l : List X) (ks : List ℕ) → map f (at_places l ks) ≡ at_places (map f l) ks
map-at_places f l [] = refl
map-at_places f l (k ∷ ks) = map-first f (slice_get l k) (at_places l ks) ∙ (λ i. cons_option (sym (slice_get-map f l k) i) (map-at_places f l ks i))

nothing-at : {X : Type 0} (k : ℕ) (x : X) → slice_get [] k ≡ Some x → ⊥
nothing-at zero x e = cc
nothing-at (suc k) x e = cc

-- where no value is known, none is wrong
pub none-known : (w : World) (l : List Instance) (p : Pipe) (lists : List (Option (Vec Value))) → lists ≡ [] → AreFirstLists w l p lists
none-known w l p lists e items rest h k i v at found = absurd (nothing-at k (Some v) (sym (ap (λ (ls : List (Option (Vec Value))). slice_get ls k) e) ∙ found))

-- the values of each item are known
pub all-known : (w : World) (l : List Instance) (items : List code.AggItem) (lists : List (Option (Vec Value))) → map (option_map (λ v. v.items)) lists ≡ map (λ i. item_list w l (agg_of i)) items → AreItemLists w l (map agg_of items) lists
all-known w l [] lists e k i v at found = absurd (nothing-at k i at)
all-known w l (x ∷ items) [] e k i v at found = absurd cc
all-known w l (x ∷ items) (o ∷ lists) e zero i v at found =
    let own : option_map (λ v. v.items) o ≡ item_list w l (agg_of x) = cc in
    ap (item_list w l) (sym (some_value at)) ∙ sym own ∙ ap (option_map (λ (v : Vec Value). v.items)) (some_value found)
all-known w l (x ∷ items) (o ∷ lists) e (suc k) i v at found =
    let rest : map (option_map (λ v. v.items)) lists ≡ map (λ i. item_list w l (agg_of i)) items = cc in
    all-known w l items lists rest k i v at found

same-items : (items items' : List AggItem) (rest rest' : Pipe) → Pipe.Then (Step.Aggregate items) rest ≡ Pipe.Then (Step.Aggregate items') rest' → items ≡ items'
same-items items items' rest rest' e = cc

-- those of the items of the aggregation that a pipeline begins with
pub first-known : (w : World) (l : List Instance) (p rest : Pipe) (items : List code.AggItem) (lists : List (Option (Vec Value))) → p ≡ Pipe.Then (Step.Aggregate (map agg_of items)) rest
    → map (option_map (λ v. v.items)) lists ≡ map (λ i. item_list w l (agg_of i)) items → AreFirstLists w l p lists
first-known w l p rest items lists whole e items' rest' h =
    subst (λ is. AreItemLists w l is lists) (same-items (map agg_of items) items' rest rest' (sym whole ∙ h)) (all-known w l items lists e)

-- the values that are known of an item are those of its expression
pub own-values : (w : World) (l : List Instance) (i : AggItem) (e : Expr) (f : Method) (a : Name) (vs : List Value) → i ≡ AggItem.Standard e f a → item_list w l i ≡ Some vs → vs ≡ values w e l
own-values w l i e f a vs is known = some_value (sym known ∙ ap (item_list w l) is)

-- and those at places are those of the instances there
pub own-at : (w : World) (l : List Instance) (i : AggItem) (e : Expr) (f : Method) (a : Name) (vs : List Value) (ks : List ℕ) → i ≡ AggItem.Standard e f a → item_list w l i ≡ Some vs → at_places vs ks ≡ values w e (at_places l ks)
own-at w l i e f a vs ks is known = ap (λ vs. at_places vs ks) (own-values w l i e f a vs is known) ∙ sym (map-at_places (λ i. val w i e) l ks)

-- the list has as many
pub own-within : (w : World) (l : List Instance) (i : AggItem) (e : Expr) (f : Method) (a : Name) (vs : List Value) (ks : List ℕ) → i ≡ AggItem.Standard e f a → item_list w l i ≡ Some vs
    → IsTrue (list_all (λ k. nat_lt k (length l)) ks) → IsTrue (list_all (λ k. nat_lt k (length vs)) ks)
own-within w l i e f a vs ks is known h = subst (λ n. IsTrue (list_all (λ k. nat_lt k n) ks)) (sym (ap length (own-values w l i e f a vs is known) ∙ length-map l (λ i. val w i e))) h

-- what the program reads of the lists
pub read-list : {X : Type 0} (f : X → AggItem) (xs : List X) (k : ℕ) (d : X) → k < length xs → d ≡ get_or xs k d → slice_get (map f xs) k ≡ Some (f d)
read-list f [] k d h e = absurd (omega (arith, h))
read-list f (x ∷ xs) zero d h e = ap (λ y. Some (f y)) (sym e)
read-list f (x ∷ xs) (suc k) d h e = read-list f xs k d (omega (arith, h)) e
