use Rattle.std.proofs.Common.{◌∙◌, ap, length, map, arith, ◌<◌}
use Rattle.std.proofs.lemmas.List.Elements.{All-same}
use Rattle.edm_values.specs.Lists.{places}
use Rattle.edm_data.specs.Worlds.{entity_at}
use Rattle.apply_meaning.specs.Instances.{entity_instance}
use Rattle.row_frames.specs.declared.tables.Pick.{Pick}
use Rattle.row_frames.specs.Frames.{first_pick}
use Rattle.row_frames.proofs.FrameLemmas.{one-table, first-within, set-picked}
use Rattle.row_frames.proofs.frames.Frame.of_set.Goals as goal

pub invariant_of-result : goal.invariant_of-result
invariant_of-result c =
    let m = ap length c.in_ok-tables.ensures in (
      one-table c.set_table.result c.in_ok-tables.tables.items c.in_ok-tables.ensures c.set_table.ensures.table,
      All-same (λ (x : Pick). x.table < length c.in_ok-tables.tables.items) c.of_first-picks.result (map first_pick (places c.count.result)) c.of_first-picks.ensures (first-within c.count.result (length c.in_ok-tables.tables.items) (omega (arith, m))),
    )

pub returns : goal.returns
returns c = record {
  value = set-picked c.args.set c.count.result c.set_table.result c.in_ok-tables.tables.items c.of_first-picks.result c.in_ok-tables.ensures c.of_first-picks.ensures c.set_table.ensures.rows
      ∙ ap (λ n. map entity_instance (map (entity_at c.args.set) (places n))) c.count.ensures.value;
}
