use Rattle.std.proofs.Common.{◌≡◌, ◌∙◌, ◌<◌, ℕ, ap, arith, false, get_or, length, map, set, sym}
use Rattle.std.proofs.lemmas.List.{get_or-map, length-map, length-set}
use Rattle.std.proofs.lemmas.Option.{unwrap_or-slice_get}
use Rattle.edm_values.specs.declared.Value.TheVariants.{Null}
use Rattle.edm_values.specs.Values.{is_null, seen_value, value_in}
use Rattle.rollup_rec.proofs.DistinctRuns.{nulls-more}
use Rattle.rollup_rec.proofs.distincts.nulls_of.Goals as goal

pub loop-row-preserved : goal.loop-row-preserved
loop-row-preserved c =
    let values = c.args.values.now in
    let vs = map seen_value values in
    let codes = c.args.codes.now in
    let nulls = c.loop-row.nulls.items in
    let at = c.loop-row.row in
    let within : at < length values = c.loop-row-test.true in
    let item = c.index-values-row.result in
    let read : value_in vs at ≡ seen_value item = unwrap_or-slice_get vs at Null ∙ get_or-map seen_value values at item Null within ∙ ap seen_value (sym c.index-values-row.is) in
    let null-is : c.is_null.result ≡ is_null (value_in vs at) = c.is_null.ensures.value ∙ ap is_null (sym read) in
    let k : ℕ = get_or c.as_slice-numbers.result.now at 0 in
    let k-is : k ≡ get_or codes.codes at 0 = ap (λ ks. get_or ks at 0) c.as_slice-numbers.ensures.value in
    let long = length-map values seen_value in
    let size = c.requires.size in
    let same = ap length c.as_slice-numbers.ensures.value in
    let low = c.as_slice-numbers.ensures.below at 0 (omega (arith, within, long, size, same)) in
    let bound = c.loop-row.invariant.size in
    record {
      size = length-set nulls k c.is_null.result ∙ bound;
      told = λ i less.
          (λ j. get_or (set nulls (k-is j) (null-is j)) (get_or codes.codes i 0) false)
          ∙ nulls-more vs codes c.requires nulls at Null (omega (arith, within, long)) (omega (arith, low, k-is, bound)) c.loop-row.invariant.told i less;
    }
