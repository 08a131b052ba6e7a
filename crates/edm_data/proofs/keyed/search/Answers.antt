use Rattle.std.proofs.Common.{◌≡◌, ℕ, ◌+◌, ◌-◌, ◌/◌, sym, ap, ◌∙◌, arith, get_or}
use Rattle.std.specs.declared.cmp.Ordering.{Ordering}
use Rattle.edm_values.specs.declared.Value.{Value}
use Rattle.edm_values.specs.Values.{seen_value, value_cmp}
use Rattle.edm_values.proofs.ValueLaws.{value_cmp_total}
use Rattle.edm_model.specs.LookUps.{key_at}
use Rattle.edm_data.specs.Worlds.{World, entity_at}
use Rattle.edm_data.specs.References.{keys_of, entities_of, property}
use Rattle.edm_data.proofs.TableLemmas.{key_there}
use Rattle.edm_data.proofs.SearchLemmas.{searched-found, IsNarrowed-left, IsNarrowed-right, IsNarrowed-none}
use Rattle.edm_data.proofs.keyed.search.Goals as goal

-- what the key in the middle is beside the one that is sought
met : (w : World) (s k at : ℕ) (x v : Value) (r : Ordering) → k ≡ key_at w.model s → x ≡ property w (entity_at s at) k → r ≡ value_cmp x v → value_cmp (get_or (keys_of w s) at Value.Null) v ≡ r
met w s k at x v r key value result = sym (result ∙ ap (λ y. value_cmp y v) (value ∙ ap (property w (entity_at s at)) key ∙ key_there (entities_of w s) (key_at w.model s) at))

pub returns-in-Equal : goal.returns-in-Equal
returns-in-Equal c =
    let middle = c.loop-low.low + (c.loop-low.high - c.loop-low.low) / 2 in
    let v = seen_value c.args.key in
    let equal = met c.args.tables.now c.args.s c.key_place-place.result (get_or c.args.places.now middle 0) _ v _ c.key_place-place.ensures c.value-value.ensures c.in-Equal.ensures.value in
    sym (searched-found value_cmp_total Value.Null (keys_of c.args.tables.now c.args.s) c.args.places.now c.requires.order v middle (omega (arith, c.loop-low.invariant.within)) equal)

pub loop-low-preserved-in-Less : goal.loop-low-preserved-in-Less
loop-low-preserved-in-Less c =
    let middle = c.loop-low.low + (c.loop-low.high - c.loop-low.low) / 2 in
    let v = seen_value c.args.key in
    let less = met c.args.tables.now c.args.s c.key_place-place.result (get_or c.args.places.now middle 0) _ v _ c.key_place-place.ensures c.value-value.ensures c.in-Less.ensures.value in
    record {
      ordered = omega arith;
      within = c.loop-low.invariant.within;
      narrowed = IsNarrowed-right value_cmp_total Value.Null (keys_of c.args.tables.now c.args.s) c.args.places.now c.requires.order v c.loop-low.low c.loop-low.high c.loop-low.invariant.narrowed middle (omega (arith, c.loop-low.invariant.within)) less;
    }

pub loop-low-preserved : goal.loop-low-preserved
loop-low-preserved c =
    let middle = c.loop-low.low + (c.loop-low.high - c.loop-low.low) / 2 in
    let v = seen_value c.args.key in
    let greater = met c.args.tables.now c.args.s c.key_place-place.result (get_or c.args.places.now middle 0) _ v _ c.key_place-place.ensures c.value-value.ensures c.in-Greater.ensures.value in
    record {
      ordered = omega arith;
      within = omega (arith, c.loop-low.invariant.within);
      narrowed = IsNarrowed-left value_cmp_total Value.Null (keys_of c.args.tables.now c.args.s) c.args.places.now c.requires.order v c.loop-low.low c.loop-low.high c.loop-low.invariant.narrowed middle (omega (arith, c.loop-low.invariant.within)) greater;
    }

pub returns : goal.returns
returns c = sym (IsNarrowed-none value_cmp_total Value.Null (keys_of c.args.tables.now c.args.s) c.args.places.now c.requires.order (seen_value c.args.key) c.loop-low.low c.loop-low.high c.loop-low.invariant.narrowed (omega arith))
