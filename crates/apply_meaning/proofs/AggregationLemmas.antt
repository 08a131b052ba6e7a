-- Typed aggregations without custom aggregates: their sums are of numbers of one type, and their columns are the same by any customs and any shape.
use Rattle.std.proofs.Common.{◌≡◌, ◌<◌, ℕ, zero, suc, true, not, ◌&&◌, ◌||◌, List, [], ◌∷◌, Some, map, length, take, ◌+◌, ◌++◌, get_or, sym, ◌∙◌, ap, arith}
use Rattle.std.specs.Prelude.{option_and_then}
use Rattle.std.specs.Bool.{then_some}
use Rattle.std.specs.List.{list_all}
use Rattle.std.proofs.lemmas.Bool.{and_parts}
use Rattle.edm_data.specs.Worlds.{World}
use Rattle.edm_values.specs.declared.Method.{Method}
use Rattle.edm_values.specs.Lists.{all_some, is_nonempty}
use Rattle.edm_values.specs.Literals.{is_number_kind, is_of_kind}
use Rattle.edm_values.proofs.ListFacts.{all-map}
use Rattle.edm_values.proofs.OptionFacts.{all_some-parts, chained, mapped, then_some-parts}
use Rattle.std.proofs.lemmas.List.{map-append, map_more}
use Rattle.apply_ast.specs.Trees.{AggItem, Step}
use Rattle.apply_ast.specs.Views.{agg_of}
use Rattle.apply_ast.specs.declared.items.AggItem as code
use Rattle.context_typing.proofs.TypingEquations.{step_shape-Aggregate}
use Rattle.context_typing.specs.Shapes.{ColumnShape, Shape}
use Rattle.context_typing.specs.Typing.{Customs, columns_differ as shapes_differ, expr_kind, is_sum, is_sure, item_column, method_kind, new_column, no_shape}
use Rattle.apply_meaning.specs.Instances.{Instance, fits, no_instance, val}
use Rattle.apply_meaning.specs.Meaning.{item_value}
use Rattle.apply_meaning.specs.MeaningLaws.{AllFit, IsLoaded}
use Rattle.apply_meaning.specs.Running.{AreSummable, IsSummable, ItemsDiffer, StepRuns, is_standard}
use Rattle.apply_meaning.proofs.MeaningEquations.{step_mean-Aggregate}
use Rattle.apply_meaning.proofs.MeaningProved.{loaded-values}
use Rattle.apply_meaning.proofs.RunLemmas.{fits-differ, step-fits}

module _ (w : World) (L : IsLoaded w) (c : Customs) (S : Shape) (l : List Instance) (a : AllFit w S l) where
  summable-item : (x : AggItem) (k : ColumnShape) → item_column w.model c S x ≡ Some k → IsSummable w l x
  summable-item (AggItem.Count b) k h = tt
  summable-item (AggItem.Custom n b) k h = tt
  summable-item (AggItem.Standard e Method.Min b) k h = tt
  summable-item (AggItem.Standard e Method.Max b) k h = tt
  summable-item (AggItem.Standard e Method.CountDistinct b) k h = tt
  summable-item (AggItem.Standard e Method.Sum b) k h =
      let t = mapped (λ k. new_column b k (is_sum Method.Sum || not (is_sure w.model S e))) (option_and_then (method_kind Method.Sum) (expr_kind w.model S e)) k h in
      let u = chained (method_kind Method.Sum) (expr_kind w.model S e) t.0 t.1 in
      let n = then_some-parts (is_number_kind u.0) u.0 t.0 u.2 in
      (u.0, n.0, all-map (fits w S) (is_of_kind u.0) (λ i. val w i e) l a (λ i F. loaded-values w S e u.0 i L u.1 F))

  summable-items : (xs : List AggItem) (ks : List ColumnShape) → all_some (map (item_column w.model c S) xs) ≡ Some ks → AreSummable w l xs
  summable-items [] ks h = tt
  summable-items (x ∷ xs) ks h =
      let t = all_some-parts (item_column w.model c S x) (map (item_column w.model c S) xs) ks h in
      (summable-item x t.0 t.1, summable-items xs t.2 t.3)

-- what a typed aggregation needs
pub aggregation-summable : (w : World) (c : Customs) (S S' : Shape) (items : List AggItem) (l : List Instance) → IsLoaded w → StepRuns w c S S' (Step.Aggregate items) l → AreSummable w l items
aggregation-summable w c S S' items l L R =
    let t = chained (λ cs. then_some (is_nonempty cs && shapes_differ cs) (record no_shape { columns = cs })) (all_some (map (item_column w.model c S) items)) S' (sym (step_shape-Aggregate w.model c S items) ∙ R.typed) in
    summable-items w L c S l R.fit items t.0 t.1

pub aggregation-differs : (w : World) (c : Customs) (S S' : Shape) (items : List AggItem) (l : List Instance) → IsLoaded w → StepRuns w c S S' (Step.Aggregate items) l → ItemsDiffer w l items
aggregation-differs w c S S' items l L R =
    let row : Instance = record no_instance { columns = map (item_value w c S l) items } in
    let fit = step-fits w c S S' (Step.Aggregate items) l (row ∷ []) L R (step_mean-Aggregate w c S items l) in
    (c, S, fits-differ w S' row (and_parts _ _ fit).0)

-- one item of those of the program
pub summable-at : (w : World) (l : List Instance) (xs : List code.AggItem) (k : ℕ) (d : code.AggItem) → AreSummable w l (map agg_of xs) → k < length xs → IsSummable w l (agg_of (get_or xs k d))
summable-at w l [] k d h s = absurd (omega arith)
summable-at w l (x ∷ xs) zero d h s = h.0
summable-at w l (x ∷ xs) (suc k) d h s = summable-at w l xs k d h.1 (omega arith)

pub standard-at : (xs : List code.AggItem) (k : ℕ) (d : code.AggItem) → list_all is_standard (map agg_of xs) ≡ true → k < length xs → is_standard (agg_of (get_or xs k d)) ≡ true
standard-at [] k d h s = absurd (omega arith)
standard-at (x ∷ xs) zero d h s = (and_parts (is_standard (agg_of x)) _ h).0
standard-at (x ∷ xs) (suc k) d h s = standard-at xs k d (and_parts (is_standard (agg_of x)) _ h).1 (omega arith)

-- one column more
pub columns-more : (w : World) (c : Customs) (S : Shape) (l : List Instance) (xs : List code.AggItem) (k : ℕ) (d : code.AggItem) → k < length xs → d ≡ get_or xs k d
    → map (item_value w c S l) (map agg_of (take (k + 1) xs)) ≡ map (item_value w c S l) (map agg_of (take k xs)) ++ item_value w c S l (agg_of d) ∷ []
columns-more w c S l xs k d h e =
    ap (map (item_value w c S l)) (map_more agg_of xs k d h) ∙ map-append (item_value w c S l) (map agg_of (take k xs)) (agg_of (get_or xs k d) ∷ [])
    ∙ ap (λ x. map (item_value w c S l) (map agg_of (take k xs)) ++ item_value w c S l (agg_of x) ∷ []) (sym e)
