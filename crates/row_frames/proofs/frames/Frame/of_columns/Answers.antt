use Rattle.std.proofs.Common.{◌<◌, arith, length, map}
use Rattle.std.proofs.lemmas.List.Elements.{All-same}
use Rattle.edm_values.specs.Lists.{places}
use Rattle.row_frames.specs.Columned.{given}
use Rattle.row_frames.specs.Frames.{first_pick}
use Rattle.row_frames.specs.declared.tables.Pick.{Pick}
use Rattle.row_frames.proofs.ColumnedLemmas.{given-picked}
use Rattle.row_frames.proofs.FrameLemmas.{first-within}
use Rattle.row_frames.proofs.frames.Frame.of_columns.Goals as goal

pub invariant_of-result : goal.invariant_of-result
invariant_of-result c =
    let ts = c.in_ok-tables.tables.items in
    let one = c.in_ok-tables.ensures.one in (
      c.in_ok-tables.ensures.tables,
      All-same (λ (x : Pick). x.table < length ts) c.in_ok-picks.picks (map first_pick (places c.args.count)) c.in_ok-picks.ensures (first-within c.args.count (length ts) (omega (arith, one))),
    )

pub returns : goal.returns
returns c = record {
  value = given-picked c.in_ok-tables.tables.items c.in_ok-picks.picks c.args.count (given c.args.columns.items) c.in_ok-picks.ensures c.in_ok-tables.ensures.rows;
}
