use Rattle.std.proofs.Common.{◌∙◌, ap, length, map, arith, ◌<◌}
use Rattle.std.proofs.lemmas.List.Elements.{All-same}
use Rattle.row_frames.specs.declared.tables.Pick.{Pick}
use Rattle.row_frames.specs.Frames.{first_pick}
use Rattle.row_frames.proofs.EntityLemmas.{entities-picked, entities-within}
use Rattle.row_frames.proofs.FrameLemmas.{one-table}
use Rattle.row_frames.proofs.frames.Frame.of_entities.Goals as goal

pub invariant_of-result : goal.invariant_of-result
invariant_of-result c =
    let m = ap length c.in_ok-tables.ensures in (
      one-table c.set_table.result c.in_ok-tables.tables.items c.in_ok-tables.ensures c.set_table.ensures.table,
      All-same (λ (x : Pick). x.table < length c.in_ok-tables.tables.items) c.of_list-picks.result (map first_pick c.args.at.now) (c.of_list-picks.ensures ∙ c.in_ok-list.ensures) (entities-within (length c.in_ok-tables.tables.items) c.args.at.now (omega (arith, m))),
    )

pub returns : goal.returns
returns c = record {
  value = entities-picked c.args.set c.args.at.now c.set_table.result c.in_ok-tables.tables.items c.of_list-picks.result c.in_ok-tables.ensures (c.of_list-picks.ensures ∙ c.in_ok-list.ensures) c.set_table.ensures.rows;
}
