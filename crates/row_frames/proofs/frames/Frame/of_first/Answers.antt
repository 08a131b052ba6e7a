use Rattle.std.proofs.Common.{ap, length, map, arith, ◌<◌}
use Rattle.std.proofs.lemmas.List.Elements.{All-same}
use Rattle.edm_values.specs.Lists.{places}
use Rattle.row_frames.specs.declared.tables.Pick.{Pick}
use Rattle.row_frames.specs.Frames.{first_pick}
use Rattle.row_frames.proofs.EntityLemmas.{entities-picked, entities-within}
use Rattle.row_frames.proofs.FrameLemmas.{one-table}
use Rattle.row_frames.proofs.frames.Frame.of_first.Goals as goal

pub invariant_of-result : goal.invariant_of-result
invariant_of-result c =
    let m = ap length c.in_ok-tables.ensures in (
      one-table c.set_table.result c.in_ok-tables.tables.items c.in_ok-tables.ensures c.set_table.ensures.table,
      All-same (λ (x : Pick). x.table < length c.in_ok-tables.tables.items) c.of_first-picks.result (map first_pick (places c.args.n)) c.of_first-picks.ensures (entities-within (length c.in_ok-tables.tables.items) (places c.args.n) (omega (arith, m))),
    )

pub returns : goal.returns
returns c = record {
  value = entities-picked c.args.set (places c.args.n) c.set_table.result c.in_ok-tables.tables.items c.of_first-picks.result c.in_ok-tables.ensures c.of_first-picks.ensures c.set_table.ensures.rows;
}
