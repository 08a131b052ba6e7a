use Rattle.std.proofs.Common.{◌<◌, ◌||◌, ℕ, arith, false, get_or, length, map, subst, sym, take}
use Rattle.std.specs.Prelude.{slice_index}
use Rattle.std.proofs.lemmas.List.{map_more}
use Rattle.rollup_rec.proofs.DistinctMarks.{IsMarked, marked-next, more-at_most}
use Rattle.rollup_rec.proofs.distincts.distinct_among.Goals as goal

pub loop-row-preserved : goal.loop-row-preserved
loop-row-preserved c =
    let rows = c.args.rows.now in
    let told = c.args.told.now in
    let nulls = c.args.nulls.now in
    let number : ℕ → ℕ = λ r. slice_index told r in
    let k = c.loop-row.row-index in
    let within : k < length rows = c.loop-row-test.true in
    let r : ℕ = get_or rows k 0 in
    let hr : r < length told = c.requires.rows k 0 within in
    let y : ℕ = get_or told r 0 in
    let hy : y < length nulls = c.requires.told r 0 hr in
    let so = c.loop-row.invariant.0 in
    let size = so.size in
    let more = map_more number rows k 0 within in
    let next = marked-next nulls c.args.stamp (map number (take k rows)) c.loop-row.marks.items c.loop-row.found y so (omega (arith, hy, size)) c.is_stamped-is_met.new.marks.items c.with_number-found.result c.is_stamped-is_met.result c.is_stamped-is_met.ensures.before c.is_stamped-is_met.ensures.marks c.with_number-found.ensures in
    let up = more-at_most (c.is_stamped-is_met.result || get_or nulls y false) c.loop-row.found k c.loop-row.invariant.1 in
    (subst (λ ks. IsMarked nulls c.args.stamp ks c.is_stamped-is_met.new.marks.items c.with_number-found.result) (sym more) next, omega (arith, up, c.with_number-found.ensures))
