use Rattle.std.proofs.Common.{rules, ◌≡◌, ◌<◌, Some, arith, length, refl, slice_get}
use Rattle.std.proofs.lemmas.Option.{slice_get_read}
use Rattle.row_frames.proofs.TextCodeLemmas.{made-in-one, one-table, quiet-in-one}
use Rattle.row_frames.proofs.codes.table_codes.Goals as goal

pub returns-clause-value : goal.returns-clause-value
returns-clause-value g c =
    let w = c.args.store.now in
    let ts = c.args.tables.now in
    let t = c.index-tables-0.result in
    let one : length ts ≡ 1 = search rules in
    let less : 0 < length ts = omega (arith, one) in
    let at : slice_get ts 0 ≡ Some t = slice_get_read ts (length ts) 0 t refl less c.index-tables-0.is in
    made-in-one _ _ c.leaf_codes.result (one-table w ts t c.args.path.now c.in_ok-leaf.leaf c.args.picks.now one at c.requires.within c.in_ok-leaf.ensures) (c.leaf_codes.ensures.value w)

pub returns-clause-within : goal.returns-clause-within
returns-clause-within g c =
    let w = c.args.store.now in
    let ts = c.args.tables.now in
    let t = c.index-tables-0.result in
    let one : length ts ≡ 1 = search rules in
    let less : 0 < length ts = omega (arith, one) in
    let at : slice_get ts 0 ≡ Some t = slice_get_read ts (length ts) 0 t refl less c.index-tables-0.is in
    quiet-in-one _ _ c.leaf_codes.result (one-table w ts t c.args.path.now c.in_ok-leaf.leaf c.args.picks.now one at c.requires.within c.in_ok-leaf.ensures) (c.leaf_codes.ensures.within w)
