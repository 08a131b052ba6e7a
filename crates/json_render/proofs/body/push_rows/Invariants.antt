use Rattle.std.proofs.Common.{◌≡◌, ◌++◌, false, take}
use Rattle.std.specs.Prelude.{All}
use Rattle.std.specs.List.{list_any}
use Rattle.json_render.specs.Bodies.{has_beyond}
use Rattle.json_render.specs.RowRuns.{IsKnown, rows_run}
use Rattle.json_render.proofs.body.push_rows.Given as goal

abbrev pub invariant-loop-k : goal.invariant-loop-k
invariant-loop-k l = record {
  text : l.body.items ≡ l.initial.body.items ++ rows_run l.store l.shape false (take l.k l.rows);
  range : list_any has_beyond (take l.k l.rows) ≡ false;
  known : All (IsKnown l.store l.shape l.rows) l.known.items;
}
