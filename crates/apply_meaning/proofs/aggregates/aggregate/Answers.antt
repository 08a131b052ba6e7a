use Rattle.std.proofs.Common.{◌∙◌, ap, sym, map}
use Rattle.edm_values.specs.declared.Method.TheVariants as method
use Rattle.edm_values.specs.Values.{is_beyond, seen_value}
use Rattle.edm_model.proofs.Mapped.{list_any-map}
use Rattle.apply_meaning.specs.Aggregates as spec
use Rattle.apply_meaning.proofs.AggregateForms.{aggregate-beyond, aggregate-within, if-same}
use Rattle.apply_meaning.proofs.aggregates.aggregate.Goals as goal

pub returns-then-has_beyond : goal.returns-then-has_beyond
returns-then-has_beyond c = record { value = aggregate-beyond c.args.method (map seen_value c.args.values.now) (list_any-map is_beyond seen_value c.args.values.now ∙ sym c.has_beyond.ensures ∙ c.if-has_beyond.true) }

pub sum-requires-clause-within : goal.sum-requires-clause-within
sum-requires-clause-within c = list_any-map is_beyond seen_value c.args.values.now ∙ sym c.has_beyond.ensures ∙ c.if-has_beyond.false

pub returns-in-Min : goal.returns-in-Min
returns-in-Min c =
    record {
      value = let vs = map seen_value c.args.values.now in
          if-same c.own.result _ _ c.own.ensures.value
          (c.first_of.ensures ∙ aggregate-within method.Min vs (list_any-map is_beyond seen_value c.args.values.now ∙ sym c.has_beyond.ensures ∙ c.if-has_beyond.false) ∙ ap (λ m. spec.aggregate m vs) (sym c.in-Min.is));
    }

pub returns-in-Max : goal.returns-in-Max
returns-in-Max c =
    record {
      value = let vs = map seen_value c.args.values.now in
          if-same c.own-in-Max.result _ _ c.own-in-Max.ensures.value
          (c.first_of-in-Max.ensures ∙ aggregate-within method.Max vs (list_any-map is_beyond seen_value c.args.values.now ∙ sym c.has_beyond.ensures ∙ c.if-has_beyond.false) ∙ ap (λ m. spec.aggregate m vs) (sym c.in-Max.is));
    }

pub returns-in-CountDistinct : goal.returns-in-CountDistinct
returns-in-CountDistinct c =
    record {
      value = let vs = map seen_value c.args.values.now in
          if-same c.count_distinct.result _ _ c.count_distinct.ensures
          (aggregate-within method.CountDistinct vs (list_any-map is_beyond seen_value c.args.values.now ∙ sym c.has_beyond.ensures ∙ c.if-has_beyond.false) ∙ ap (λ m. spec.aggregate m vs) (sym c.in-CountDistinct.is));
    }
