use Rattle.std.proofs.Common.{◌≡◌, ◌++◌, map, take}
use Rattle.json_render.specs.ItemTexts.{column_paths, prefix_paths}
use Rattle.json_render.specs.Places.{named_parts}
use Rattle.json_render.proofs.context.push_columns.Given as goal

abbrev pub invariant-loop-column : goal.invariant-loop-column
invariant-loop-column l = record {
  prefixes : prefix_paths (named_parts l.entries.items) ≡ prefix_paths (named_parts l.initial.entries.items);
  columns : column_paths (named_parts l.entries.items) ≡ column_paths (named_parts l.initial.entries.items) ++ map (λ c. c.path) (take l.column-index l.columns);
}
