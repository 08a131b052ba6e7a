use Rattle.std.proofs.Common.{◌≡◌, ◌++◌, ◌≤◌, length, map}
use Rattle.std.specs.Prelude.{All}
use Rattle.std.specs.Arc.{arc_value}
use Rattle.std.specs.Vec.Iter.{into_iter_items}
use Rattle.aggregate_ops.specs.Spans.{spanned}
use Rattle.aggregate_ops.proofs.groups.spanned.Given as goal

-- the groups so far, before those that are left
abbrev pub invariant-loop-span : goal.invariant-loop-span
invariant-loop-span l = record {
  shared : arc_value l.values ≡ l.fn.values;
  within : All (λ s. (s.begin ≤ s.end) × (s.end ≤ length l.fn.values.items)) (into_iter_items l.span-iterator);
  are : l.groups.items ++ map (spanned l.fn.values.items) (into_iter_items l.span-iterator) ≡ map (spanned l.fn.values.items) l.fn.spans.items;
}
