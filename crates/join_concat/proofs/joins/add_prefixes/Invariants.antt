use Rattle.std.proofs.Common.{◌≡◌, ◌++◌, map, take}
use Rattle.apply_meaning.specs.Meaning.{beneath}
use Rattle.apply_meaning.specs.RowViews.{with_root}
use Rattle.join_concat.proofs.joins.add_prefixes.Given as goal

abbrev pub invariant-loop-prefix : goal.invariant-loop-prefix
invariant-loop-prefix l = l.all.items ≡ l.fn.all.items ++ map (beneath l.alias) (with_root l.fn.root (take l.prefix-index l.prefixes))
