-- What is known of items, one after the other, and values at nodes.
use Rattle.std.proofs.Common.{◌≡◌, ℕ, ◌<◌, ◌≤◌, List, [], ◌∷◌, ◌++◌, filter, length, length-append, true, refl, sym, ◌∙◌, ap, subst, arith, ltb, Option, Some, None, ⊎_elim}
use Rattle.std.specs.Prelude.{slice_get, slice_index_or}
use Rattle.std.proofs.lemmas.Bool.{cases_eq, cases_lt}
use Rattle.std.proofs.lemmas.List.{get_or_append_left, get_or_push}
use Rattle.std.proofs.lemmas.List.Sorted.{IsStrictWeakOrder-by_number}
use Rattle.std.proofs.lemmas.Option.{slice_get-get_or, slice_get_past}
use Rattle.edm_values.proofs.OptionFacts.{some_value}
use Rattle.edm_values.proofs.Reorderings.{Reorders, reorders-filter_map, reorders-map, reorders-same}
use Rattle.edm_values.proofs.SortedLists.{reorders-sorted}
use Rattle.edm_values.proofs.TopPlaces.{at_places-filter}
use Rattle.edm_values.specs.declared.Method.{Method}
use Rattle.edm_values.specs.declared.Value.{Value}
use Rattle.edm_values.specs.Lists.{at_places, places, sorted}
use Rattle.edm_values.specs.Names.{Name}
use Rattle.edm_data.specs.Hierarchies.{rows_under}
use Rattle.edm_data.specs.Worlds.{World}
use Rattle.apply_ast.specs.Trees.{AggItem, Expr}
use Rattle.apply_meaning.proofs.AggregateOrders.{aggregate-reorders}
use Rattle.apply_meaning.specs.Aggregates.{aggregate}
use Rattle.apply_meaning.specs.Instances.{Instance, val}
use Rattle.apply_meaning.specs.Meaning.{values}
use Rattle.step_run.proofs.ItemLists.{map-at_places}
use Rattle.step_run.specs.Totals.{AreAtNodes, AreKnownAt, AreNodeLists, item_outcome}

module _ {X Y : Type 0} (Q : X → Y → Type 0) where
  -- what is known of the items at their places
  abbrev pub Known : List X → List (Option Y) → Type 0
  Known xs os = (k : ℕ) (x : X) (y : Y) → slice_get xs k ≡ Some x → slice_get os k ≡ Some (Some y) → Q x y

  pub known-none : (xs : List X) (os : List (Option Y)) → os ≡ [] → Known xs os
  known-none xs os none = λ k x y at known.
      let past : slice_get os k ≡ None = slice_get_past os k (omega (arith, ap length none)) in
      let gone : None ≡ Some (Some y) = sym past ∙ known in
      cc

  pub known-next : (xs : List X) (os os' : List (Option Y)) (o : Option Y) (x : X) → os' ≡ os ++ o ∷ [] → slice_get xs (length os) ≡ Some x → ((y : Y) → o ≡ Some y → Q x y) → Known xs os → Known xs os'
  known-next xs os os' o x grown read own so = λ k z y at known.
      let all : List (Option Y) = os ++ o ∷ [] in
      let long = length-append os (o ∷ []) in
      let known' : slice_get all k ≡ Some (Some y) = ap (λ l. slice_get l k) (sym grown) ∙ known in
      ⊎_elim
      (λ (less : k < length os). so k z y at (slice_get-get_or os k o less ∙ ap Some (sym (get_or_append_left os (o ∷ []) o k less)) ∙ sym (slice_get-get_or all k o (omega (arith, less, long))) ∙ known'))
      (λ (from : length os ≤ k). ⊎_elim
      (λ (e : k ≡ length os).
      let here : slice_get all k ≡ Some o = slice_get-get_or all k o (omega (arith, e, long)) ∙ ap Some (get_or_push os o o k (sym e)) in
      let is : o ≡ Some y = some_value (sym here ∙ known') in
      let same : x ≡ z = some_value (sym read ∙ ap (slice_get xs) (sym e) ∙ at) in
      subst (λ z. Q z y) same (own y is))
      (λ (q : k ≡ length os → ⊥).
      let past : slice_get all k ≡ None = slice_get_past all k (omega (arith, from, q, long)) in
      let gone : None ≡ Some (Some y) = sym past ∙ known' in
      absurd (cc))
      (cases_eq k (length os)))
      (cases_lt k (length os))

filter-true : {X : Type 0} (xs : List X) → filter (λ x. true) xs ≡ xs
filter-true [] = refl
filter-true (x ∷ xs) = ap (λ ys. x ∷ ys) (filter-true xs)

-- the elements at all places of a list
pub placed-all : {X : Type 0} (l : List X) → at_places l (places (length l)) ≡ l
placed-all l = ap (at_places l) (sym (filter-true (places (length l)))) ∙ at_places-filter (λ x. true) (λ k. true) l (λ k x e. refl) ∙ filter-true l

module _ (w : World) (l : List Instance) (parents nodes : List (Option ℕ)) where
  -- the values of an item at all nodes
  pub at-nodes : (i : AggItem) (e : Expr) (f : Method) (a : Name) (vs v : List Value) → i ≡ AggItem.Standard e f a → vs ≡ values w e l → length v ≡ length parents
      → ((x : ℕ) → x < length parents → slice_index_or v x Value.Null ≡ aggregate f (at_places vs (rows_under parents x nodes))) → AreAtNodes w l parents nodes i v
  at-nodes i e f a vs v is are size told = (
    size,
    λ x hx.
        let ks : List ℕ = rows_under parents x nodes in
        ap (item_outcome w (at_places l ks)) is ∙ ap Some (ap (aggregate f) (map-at_places (λ i. val w i e) l ks ∙ ap (λ us. at_places us ks) (sym are)) ∙ sym (told x hx)),
  )

-- the value of an item does not hang on the order of the instances
outcome-reorders : (w : World) (i : AggItem) {l r : List Instance} → Reorders l r → item_outcome w l i ≡ item_outcome w r i
outcome-reorders w (AggItem.Standard e f a) r = ap Some (aggregate-reorders f (reorders-map (λ i. val w i e) r))
outcome-reorders w (AggItem.Count a) r = refl
outcome-reorders w (AggItem.Custom c a) r = refl

-- those of one node, on the instances at a run that has the rows at or below it
pub known-run : (w : World) (l : List Instance) (parents nodes : List (Option ℕ)) (items : List AggItem) (lists : List (Option (List Value))) (run : List ℕ) (x : ℕ) → x < length parents → sorted ltb run ≡ rows_under parents x nodes → AreNodeLists w l parents nodes items lists
    → AreKnownAt w (at_places l run) items x lists
known-run w l parents nodes items lists run x hx same so = λ k i v at known.
    let t = so k i v at known in
    let size = t.0 in
    let order : Reorders (at_places l run) (at_places l (rows_under parents x nodes)) =
    Reorders.join (reorders-filter_map (slice_get l) (reorders-sorted ltb (IsStrictWeakOrder-by_number (λ (y : ℕ). y)) run)) (reorders-same (ap (at_places l) same)) in
    (omega (arith, hx, size), outcome-reorders w i order ∙ t.1 x hx)
