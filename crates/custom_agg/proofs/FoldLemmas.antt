-- The values of a typed custom aggregate are of one type that its method takes, and so are the results of its groups for the outer method.
use Rattle.std.proofs.Common.{◌≡◌, refl, sym, ◌∙◌, ap, subst, ℕ, true, ◌&&◌, List, Option, Some, None}
use Rattle.std.specs.Prelude.{is_some, option_and_then, option_map}
use Rattle.std.specs.List.{list_all}
use Rattle.edm_values.specs.Lists.{are_distinct}
use Rattle.edm_values.specs.Literals.{is_of_kind}
use Rattle.edm_values.specs.declared.EdmType.{EdmType}
use Rattle.edm_values.specs.declared.Method.{Method}
use Rattle.edm_values.specs.declared.Value.{Value}
use Rattle.edm_values.proofs.ListFacts.{all-any, all-map, all-filter}
use Rattle.edm_values.proofs.OptionFacts.{chained, if_else-parts, mapped}
use Rattle.edm_model.specs.LookUps.{custom_on, property_on}
use Rattle.edm_model.specs.Models.{Custom, Model, Part}
use Rattle.edm_data.specs.Worlds.{World}
use Rattle.apply_ast.specs.Views.{expr_of}
use Rattle.context_typing.specs.Paths.{same_path}
use Rattle.context_typing.specs.Readings.{AreTypedOver, reading_of, typed_at}
use Rattle.context_typing.specs.Shapes.{set_shape}
use Rattle.context_typing.specs.Typing.{Reading, custom_kind, expr_kind, method_kind, outer_kind}
use Rattle.context_typing.specs.declared.customs.ReadCustom.{ReadCustom}
use Rattle.context_typing.specs.declared.customs.TypedCustom.{TypedCustom}
use Rattle.apply_meaning.proofs.AggregateLemmas.{aggregate-fits}
use Rattle.apply_meaning.proofs.AggregatedFit.{own-values}
use Rattle.apply_meaning.proofs.MeaningProved.{loaded-typed}
use Rattle.apply_meaning.specs.Aggregates.{aggregate}
use Rattle.apply_meaning.specs.Instances.{Instance, fits}
use Rattle.apply_meaning.specs.Meaning.{custom_value, group, key_list, keys, same_keys, values}
use Rattle.apply_meaning.specs.MeaningLaws.{IsLoaded}
use Rattle.aggregate_ops.specs.Partials.{AreFoldable}
use Rattle.custom_agg.specs.CustomValues.{HaveRoot, group_results, value_by_id}
use Rattle.custom_agg.proofs.TypedCustoms.{typed-found}

-- the types of a typed custom aggregate: of its values, and of its method's result on these
record CustomTypes (m : Model) (u : Custom) (r : Reading) (k : EdmType) : Type 0 where
  of : EdmType
  inner : EdmType
  of_is : expr_kind m (set_shape r.owner) r.of ≡ Some of
  inner_is : method_kind u.method of ≡ Some inner
  outer_is : outer_kind u.outer inner ≡ Some k

custom-types : (m : Model) (u : Custom) (r : Reading) (k : EdmType) → custom_kind m u r ≡ Some k → CustomTypes m u r k
custom-types m u r k h =
    let of_kind = expr_kind m (set_shape r.owner) r.of in
    let c = if_else-parts (list_all (λ p. is_some (property_on m r.owner p)) r.per && are_distinct same_path r.per) (option_and_then (outer_kind u.outer) (option_and_then (method_kind u.method) of_kind)) k h in
    let d = chained (outer_kind u.outer) (option_and_then (method_kind u.method) of_kind) k c.1 in
    let e = chained (method_kind u.method) of_kind d.0 d.1 in
    record { of = e.0; inner = d.0; of_is = e.1; inner_is = e.2; outer_is = d.2 }

module _ (w : World) (loaded : IsLoaded w) (t : ℕ) (u : Custom) (r : Reading) (owner : r.owner ≡ t) (k : EdmType) (typed : custom_kind w.model u r ≡ Some k) (l : List Instance) (root : HaveRoot w t l) where
  types : CustomTypes w.model u r k
  types = custom-types w.model u r k typed

  own-kind : expr_kind w.model (set_shape t) r.of ≡ Some types.of
  own-kind = ap (λ z. expr_kind w.model (set_shape z) r.of) (sym owner) ∙ types.of_is

  -- the method takes the values on all instances
  pub foldable-all : AreFoldable u.method (values w r.of l)
  foldable-all = (types.of, ap is_some types.inner_is, own-values w (loaded-typed w loaded) root.0 t root.1 r.of types.of l own-kind root.2)

  result-fits : (g : List Value) → is_of_kind types.inner (aggregate u.method (values w r.of (group w r.per g l))) ≡ true
  result-fits g =
      let of_group = all-filter (fits w root.0) (λ i. same_keys (key_list w r.per i) g) l root.2 in
      aggregate-fits u.method types.of types.inner (values w r.of (group w r.per g l)) types.inner_is (own-values w (loaded-typed w loaded) root.0 t root.1 r.of types.of (group w r.per g l) own-kind of_group)

  -- the outer method takes the results of the groups
  pub foldable-results : (o : Method) → u.outer ≡ Some o → AreFoldable o (group_results w r.of u.method r.per l)
  foldable-results o is = (
    types.inner,
    ap is_some (ap (λ o. outer_kind o types.inner) (sym is) ∙ types.outer_is),
    all-map {X = List Value} (λ g. true) (is_of_kind types.inner) (λ g. aggregate u.method (values w r.of (group w r.per g l))) (keys w r.per l) (all-any (λ g. true) (keys w r.per l) (λ g. refl)) (λ g x. result-fits g),
  )

-- the value of the custom aggregate of an id, and what its methods take
module _ (w : World) (loaded : IsLoaded w) (c : List TypedCustom) (all : AreTypedOver w.model c) (id : Part) (u : Custom) (on : custom_on w.model id ≡ Some u) (read : ReadCustom) (found : option_map (λ x. x.read) (typed_at c id) ≡ Some read) (l : List Instance) (root : HaveRoot w id.of l) where
  own : (x : TypedCustom) × (typed_at c id ≡ Some x) × (x.read ≡ read)
  own = mapped (λ (x : TypedCustom). x.read) (typed_at c id) read found

  typed : ((own.0).owner ≡ id.of) × (custom_kind w.model u (reading_of own.0) ≡ Some (own.0).kind)
  typed = typed-found w.model c id u own.0 all on own.1

  pub read-foldable : AreFoldable u.method (values w (expr_of read.of) l)
  read-foldable = subst (λ (r : ReadCustom). AreFoldable u.method (values w (expr_of r.of) l)) own.2 (foldable-all w loaded id.of u (reading_of own.0) typed.0 (own.0).kind typed.1 l root)

  pub read-results : (o : Method) → u.outer ≡ Some o → AreFoldable o (group_results w (expr_of read.of) u.method read.per l)
  read-results o is =
      subst (λ (r : ReadCustom). AreFoldable o (group_results w (expr_of r.of) u.method r.per l)) own.2 (foldable-results w loaded id.of u (reading_of own.0) typed.0 (own.0).kind typed.1 l root o is)

  abbrev value_by : Option Method → ReadCustom → Value
  value_by o r = elim o [ None ↦ aggregate u.method (values w (expr_of r.of) l) | Some o ↦ aggregate o (group_results w (expr_of r.of) u.method r.per l) ]

  value-is : value_by_id w c id l ≡ Some (value_by u.outer read)
  value-is =
      ap (option_and_then (λ u. option_map (λ x. custom_value w u (reading_of x) l) (typed_at c id))) on
      ∙ ap (option_map (λ x. custom_value w u (reading_of x) l)) own.1
      ∙ ap (λ r. Some (value_by u.outer r)) own.2

  pub value-of_all : u.outer ≡ None → value_by_id w c id l ≡ Some (aggregate u.method (values w (expr_of read.of) l))
  value-of_all is = value-is ∙ ap (λ o. Some (value_by o read)) is

  pub value-of_groups : (o : Method) → u.outer ≡ Some o → value_by_id w c id l ≡ Some (aggregate o (group_results w (expr_of read.of) u.method read.per l))
  value-of_groups o is = value-is ∙ ap (λ o. Some (value_by o read)) is
