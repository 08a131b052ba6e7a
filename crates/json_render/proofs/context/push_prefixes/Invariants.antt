use Rattle.std.proofs.Common.{◌≡◌, ◌++◌, map, take}
use Rattle.json_render.specs.ItemTexts.{column_paths, prefix_paths}
use Rattle.json_render.specs.Places.{named_parts}
use Rattle.json_render.proofs.context.push_prefixes.Given as goal

abbrev pub invariant-loop-prefix : goal.invariant-loop-prefix
invariant-loop-prefix l = record {
  prefixes : prefix_paths (named_parts l.entries.items) ≡ prefix_paths (named_parts l.initial.entries.items) ++ map (λ x. x.path) (take l.prefix-index l.prefixes);
  columns : column_paths (named_parts l.entries.items) ≡ column_paths (named_parts l.initial.entries.items);
}
