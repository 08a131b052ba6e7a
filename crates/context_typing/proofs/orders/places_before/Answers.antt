use Rattle.std.proofs.Common.{◌+◌, ◌-◌, ◌/◌, length, refl, sym, ◌∙◌, ap, arith}
use Rattle.std.specs.Ordering.{is_lt}
use Rattle.context_typing.proofs.PathOrders.{read-start, read-less, read-more, read-end}
use Rattle.context_typing.proofs.orders.places_before.Goals as goal

pub loop-low-init : goal.loop-low-init
loop-low-init c = record {
  ordered = omega arith;
  within = omega arith;
  narrowed = read-start c.args.columns.now c.args.places.now c.requires c.args.path.now (length c.args.places.now) (omega arith);
}

pub loop-low-preserved-in-Less : goal.loop-low-preserved-in-Less
loop-low-preserved-in-Less c =
    let middle = c.loop-low.low + (c.loop-low.high - c.loop-low.low) / 2 in
    record {
      ordered = omega arith;
      within = c.loop-low.invariant.within;
      narrowed = read-less c.args.columns.now c.args.places.now c.requires c.args.path.now c.loop-low.low c.loop-low.high middle _ c.index-columns-places.result c.names.result.now
          c.loop-low.invariant.narrowed (omega (arith, c.loop-low.invariant.within)) refl c.index-columns-places.is (c.names.ensures.names ∙ ap (λ x. x.path) c.column.view_is) (sym c.compare.ensures ∙ c.in-Less.is);
    }

pub loop-low-preserved-in-Equal : goal.loop-low-preserved-in-Equal
loop-low-preserved-in-Equal c =
    let middle = c.loop-low.low + (c.loop-low.high - c.loop-low.low) / 2 in
    record {
      ordered = omega arith;
      within = omega (arith, c.loop-low.invariant.within);
      narrowed = read-more c.args.columns.now c.args.places.now c.requires c.args.path.now c.loop-low.low c.loop-low.high middle _ c.index-columns-places.result c.names.result.now
          c.loop-low.invariant.narrowed (omega (arith, c.loop-low.invariant.within)) refl c.index-columns-places.is (c.names.ensures.names ∙ ap (λ x. x.path) c.column.view_is) (ap is_lt (sym c.compare.ensures ∙ c.in-Equal.is));
    }

pub loop-low-preserved : goal.loop-low-preserved
loop-low-preserved c =
    let middle = c.loop-low.low + (c.loop-low.high - c.loop-low.low) / 2 in
    record {
      ordered = omega arith;
      within = omega (arith, c.loop-low.invariant.within);
      narrowed = read-more c.args.columns.now c.args.places.now c.requires c.args.path.now c.loop-low.low c.loop-low.high middle _ c.index-columns-places.result c.names.result.now
          c.loop-low.invariant.narrowed (omega (arith, c.loop-low.invariant.within)) refl c.index-columns-places.is (c.names.ensures.names ∙ ap (λ x. x.path) c.column.view_is) (ap is_lt (sym c.compare.ensures ∙ c.in-Greater.is));
    }

pub returns : goal.returns
returns c = read-end c.args.columns.now c.args.places.now c.requires c.args.path.now c.loop-low.low c.loop-low.high c.loop-low.invariant.narrowed (omega arith) (omega (arith, c.loop-low.invariant.within, c.loop-low.invariant.ordered))
