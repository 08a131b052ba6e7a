-- Custom aggregates by name, and what typed items of an aggregation need.
use Rattle.std.proofs.Common.{◌≡◌, ℕ, zero, suc, ◌+◌, ◌<◌, true, Bool, ◌||◌, refl, sym, ◌∙◌, ap, List, [], ◌∷◌, ◌++◌, Option, Some, None, length, map, take, get_or, arith}
use Rattle.std.specs.Prelude.{find, is_some, not, ◌&&◌, ◌==◌, option_and_then, option_map}
use Rattle.std.specs.Prelude.{IfOk}
use Rattle.std.specs.declared.result.Result as result
use Rattle.std.specs.declared.result.Result.TheVariants.{Ok, Err}
use Rattle.std.specs.Bool.{then_some}
use Rattle.std.specs.List.{list_all}
use Rattle.std.proofs.lemmas.Bool.{and_parts, true≢false}
use Rattle.std.proofs.lemmas.List.{map-append, map_more}
use Rattle.std.proofs.lemmas.Option.{slice_get_within}
use Rattle.edm_values.specs.declared.Method.{Method}
use Rattle.edm_values.specs.declared.Value.{Value}
use Rattle.edm_values.specs.Lists.{all_some, is_nonempty, same_text}
use Rattle.edm_values.specs.Literals.{is_of_kind}
use Rattle.edm_values.specs.Names.{Name}
use Rattle.edm_values.proofs.ListFacts.{all-map}
use Rattle.edm_values.proofs.OptionFacts.{all_some-parts, chained, mapped, some_value}
use Rattle.edm_model.specs.Models.{Custom, EntityType, Model, Part}
use Rattle.edm_model.specs.LookUps.{IsType, custom_named, custom_on, found_part, item_named, type_at}
use Rattle.edm_data.specs.Worlds.{World}
use Rattle.apply_ast.specs.Trees.{AggItem, Expr, Step}
use Rattle.apply_ast.specs.Views.{agg_of}
use Rattle.apply_ast.specs.declared.items.AggItem as code
use Rattle.context_typing.proofs.TypingEquations.{step_shape-Aggregate}
use Rattle.context_typing.specs.Readings.{AreTypedOver, reading_of, readings, typed_at}
use Rattle.context_typing.specs.Shapes.{ColumnShape, Shape}
use Rattle.context_typing.specs.Typing.{Customs, Reading, columns_differ as shapes_differ, custom_at, expr_kind, is_sum, is_sure, item_column, method_kind, new_column, no_shape}
use Rattle.context_typing.specs.declared.customs.TypedCustom.{TypedCustom}
use Rattle.apply_meaning.specs.Instances.{Instance, fits, no_instance, val}
use Rattle.apply_meaning.specs.Meaning.{custom_value, item_value, values}
use Rattle.apply_meaning.specs.MeaningLaws.{IsLoaded}
use Rattle.apply_meaning.proofs.MeaningEquations.{step_mean-Aggregate}
use Rattle.apply_meaning.proofs.MeaningProved.{loaded-values}
use Rattle.apply_meaning.proofs.RunLemmas.{fits-differ, step-fits}
use Rattle.aggregate_ops.specs.Partials.{AreFoldable}
use Rattle.custom_agg.specs.CustomValues.{value_by_id}
use Rattle.custom_agg.proofs.NamedCustoms.{custom-named_from}
use Rattle.custom_agg.proofs.TypedCustoms.{named-place}
use Rattle.step_run.specs.Conditions.{ItemRuns, ItemsRun, StepRunsFrom, named_value}
use Rattle.step_run.specs.Contexts.{Context}

-- ---- a custom aggregate of a name, with its reading

pub record Found (m : Model) (c : List TypedCustom) (t : ℕ) (n : Name) : Type 0 where
  pub place : ℕ
  pub custom : Custom
  pub typed : TypedCustom
  pub named : custom_named m t n ≡ Some (place, custom)
  pub at : typed_at c (record { of = t; at = place }) ≡ Some typed
  pub on : custom_on m (record { of = t; at = place }) ≡ Some custom
  pub custom_is : custom_at m (readings c) t n ≡ Some (custom, reading_of typed)

pub found : (m : Model) (c : List TypedCustom) (t : ℕ) (n : Name) → AreTypedOver m c → is_some (custom_at m (readings c) t n) ≡ true → Found m c t n
found m c t n all h = named (custom_named m t n) refl
  where
    typed : (k : ℕ) (u : Custom) → custom_named m t n ≡ Some (k, u) → (o : Option TypedCustom) → typed_at c (record { of = t; at = k }) ≡ o → Found m c t n
    typed k u e None a = absurd (true≢false (sym h ∙ ap is_some (custom-named_from m c t k n u all e ∙ ap (option_map {U = Custom × Reading} (λ x. (u, reading_of x))) a)))
    typed k u e (Some x) a = record {
      place = k;
      custom = u;
      typed = x;
      named = e;
      at = a;
      on = (named-place m t k n u e).0;
      custom_is = custom-named_from m c t k n u all e ∙ ap (option_map {U = Custom × Reading} (λ x. (u, reading_of x))) a;
    }

    named : (o : Option (ℕ × Custom)) → custom_named m t n ≡ o → Found m c t n
    named None e = absurd (true≢false (sym h ∙ ap (λ (o : Option (ℕ × Custom)). is_some (option_and_then (λ x. option_map {U = Custom × Reading} (λ r. (x.1, r)) (find (λ r. (r.owner == t) && same_text r.name n) (readings c))) o)) e))
    named (Some (k, u)) e = typed k u e (typed_at c (record { of = t; at = k })) refl

-- its type is one of the model
pub type-there : (m : Model) (c : List TypedCustom) (t : ℕ) (n : Name) → Found m c t n → IsType m t
type-there m c t n f =
    let e = chained (λ (e : EntityType). item_named (λ (u : Custom). u.name) n e.customs) (type_at m t) (f.place, f.custom) f.named in
    slice_get_within m.types t e.0 e.1

-- the value by its id is the one by its name
pub value-found : (w : World) (c : List TypedCustom) (t : ℕ) (n : Name) (f : Found w.model c t n) (l : List Instance) (v : Value) → Some v ≡ value_by_id w c (record { of = t; at = f.place }) l
    → v ≡ custom_value w f.custom (reading_of f.typed) l
value-found w c t n f l v e = some_value (e ∙ (λ i. option_and_then (λ u. option_map (λ x. custom_value w u (reading_of x) l) (f.at i)) (f.on i)))

pub named-found : (x : Context) (t : ℕ) (n : Name) (f : Found x.world.model x.customs t n) (l : List Instance) (v : Value) → Some v ≡ value_by_id x.world x.customs (record { of = t; at = f.place }) l → v ≡ named_value x (Some t) n l
named-found x t n f l v e =
    value-found x.world x.customs t n f l v e ∙ sym (ap (λ (o : Option (Custom × Reading)). elim o [ None ↦ Value.Null | Some u ↦ custom_value x.world u.0 u.1 l ]) f.custom_is)

-- the id that the model finds by the name
pub part-found : (m m' : Model) (c : List TypedCustom) (t : ℕ) (n n' : Name) (f : Found m c t n) (id : Part) → found_part t (custom_named m' t n') ≡ Some id → m' ≡ m → n' ≡ n → id ≡ record { of = t; at = f.place }
part-found m m' c t n n' f id e em en = some_value (sym e ∙ (λ i. found_part t (custom_named (em i) t (en i))) ∙ ap (found_part t) f.named)

-- what holds of each value holds of a result's
pub if-ok : {T E : Type 0} (P Q : T → Type 0) → ((v : T) → P v → Q v) → (r : result.Result T E) → IfOk r P → IfOk r Q
if-ok P Q f (Ok v) p = f v p
if-ok P Q f (Err e) p = tt

-- ---- typed items

-- the values of a typed item's expression are of one type that its method takes
pub item-foldable : (x : Context) (root : Option ℕ) (S : Shape) (e : Expr) (f : Method) (a : Name) (l : List Instance) → IsLoaded x.world → ItemRuns x root S (AggItem.Standard e f a) l → AreFoldable f (values x.world e l)
item-foldable x root S e f a l L R = there (item_column x.world.model (readings x.customs) S (AggItem.Standard e f a)) refl R.typed
  where
    there : (o : Option ColumnShape) → item_column x.world.model (readings x.customs) S (AggItem.Standard e f a) ≡ o → is_some o ≡ true → AreFoldable f (values x.world e l)
    there None h t = absurd (true≢false (sym t))
    there (Some k) h t =
        let u = mapped (λ k. new_column a k (is_sum f || not (is_sure x.world.model S e))) (option_and_then (method_kind f) (expr_kind x.world.model S e)) k h in
        let v = chained (method_kind f) (expr_kind x.world.model S e) u.0 u.1 in
        (v.0, ap is_some v.2, all-map (fits x.world S) (is_of_kind v.0) (λ i. val x.world i e) l R.fit (λ i F. loaded-values x.world S e v.0 i L v.1 F))

all-typed : (x : Context) (S : Shape) (items : List AggItem) (ks : List ColumnShape) → all_some (map (item_column x.world.model (readings x.customs) S) items) ≡ Some ks
    → list_all (λ item. is_some (item_column x.world.model (readings x.customs) S item)) items ≡ true
all-typed x S [] ks h = refl
all-typed x S (i ∷ items) ks h =
    let t = all_some-parts (item_column x.world.model (readings x.customs) S i) (map (item_column x.world.model (readings x.customs) S) items) ks h in
    (λ j. is_some (t.1 j) && all-typed x S items t.2 t.3 j)

-- the items of a typed aggregation
pub items-run : (x : Context) (root : Option ℕ) (S S' : Shape) (items : List AggItem) (l : List Instance) → IsLoaded x.world → StepRunsFrom x root S S' (Step.Aggregate items) l → ItemsRun x root S items l
items-run x root S S' items l L R =
    let w = x.world in
    let c = readings x.customs in
    let t = chained (λ cs. then_some (is_nonempty cs && shapes_differ cs) (record no_shape { columns = cs })) (all_some (map (item_column w.model c S) items)) S' (sym (step_shape-Aggregate w.model c S items) ∙ R.runs.typed) in
    let row : Instance = record no_instance { columns = map (item_value w c S l) items } in
    let fit = step-fits w c S S' (Step.Aggregate items) l (row ∷ []) L R.runs (step_mean-Aggregate w c S items l) in
    record { root_is = R.root_is; typed = all-typed x S items t.0 t.1; fit = R.runs.fit; differ = fits-differ w S' row (and_parts _ _ fit).0 }

-- one item of those of the program
pub typed-at : (test : AggItem → Bool) (xs : List code.AggItem) (k : ℕ) (d : code.AggItem) → list_all test (map agg_of xs) ≡ true → k < length xs → test (agg_of (get_or xs k d)) ≡ true
typed-at test [] k d h s = absurd (omega arith)
typed-at test (x ∷ xs) zero d h s = (and_parts (test (agg_of x)) _ h).0
typed-at test (x ∷ xs) (suc k) d h s = typed-at test xs k d (and_parts (test (agg_of x)) _ h).1 (omega arith)

-- one column more
pub columns-more : (w : World) (c : Customs) (S : Shape) (l : List Instance) (xs : List code.AggItem) (k : ℕ) (d : code.AggItem) → k < length xs → d ≡ get_or xs k d
    → map (item_value w c S l) (map agg_of (take (k + 1) xs)) ≡ map (item_value w c S l) (map agg_of (take k xs)) ++ item_value w c S l (agg_of d) ∷ []
columns-more w c S l xs k d h e =
    ap (map (item_value w c S l)) (map_more agg_of xs k d h) ∙ map-append (item_value w c S l) (map agg_of (take k xs)) (agg_of (get_or xs k d) ∷ [])
    ∙ ap (λ x. map (item_value w c S l) (map agg_of (take k xs)) ++ item_value w c S l (agg_of x) ∷ []) (sym e)
