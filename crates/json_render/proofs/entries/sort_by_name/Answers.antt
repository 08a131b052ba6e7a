use Rattle.std.proofs.Common.{rules}
use Rattle.json_render.proofs.SortedEntries.{entries_sorted}
use Rattle.json_render.proofs.entries.sort_by_name.Goals as goal

pub returns : goal.returns
returns c = entries_sorted _ _ c.in_ok-sort_by.ensures.sorted c.in_ok-sort_by.ensures.stable (λ a r q k. search rules)
