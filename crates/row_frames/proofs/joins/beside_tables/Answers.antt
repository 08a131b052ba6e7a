use Rattle.std.proofs.Common.{rules, ◌≡◌, ◌∙◌, ◌∷◌, length, sym}
use Rattle.std.specs.Vec.Iter.{into_iter_items}
use Rattle.row_frames.proofs.BesideLemmas.{beside-done, beside-more}
use Rattle.row_frames.proofs.joins.beside_tables.Goals as goal

pub loop-table-preserved : goal.loop-table-preserved
loop-table-preserved c =
    let t = c.in-Some.table in
    let rest = into_iter_items c.next.new.self in
    let next : into_iter_items c.loop-table.table-iterator ≡ t ∷ rest = search rules in
    beside-more c.args.prefix.now c.args.tables.items c.loop-table.made.items c.push.new.self.items (into_iter_items c.loop-table.table-iterator) rest t c.in_ok-beside_table.field-0
    c.loop-table.invariant next c.in_ok-beside_table.ensures c.in_ok-push.ensures.items

pub returns : goal.returns
returns c =
    let it = c.loop-table.table-iterator in
    let none : length (into_iter_items it) ≡ 0 = sym it.rest.ok.0 ∙ c.in-None.ensures.steps.0 in
    beside-done c.args.prefix.now c.args.tables.items c.loop-table.made.items (into_iter_items it) c.loop-table.invariant none
