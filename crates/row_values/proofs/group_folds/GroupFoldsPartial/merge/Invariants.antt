use Rattle.std.proofs.Common.{◌≡◌, drop}
use Rattle.std.specs.Vec.Iter.{into_iter_items}
use Rattle.row_values.specs.GroupFolds.{AreMergedTo}
use Rattle.row_values.proofs.group_folds.GroupFoldsPartial.merge.Given as goal

-- the groups so far have those of the later part, and the others are as they were
abbrev pub invariant-loop-more : goal.invariant-loop-more
invariant-loop-more g l = record {
  left : into_iter_items l.more-iterator ≡ drop l.k l.fn.later.groups;
  merged : AreMergedTo g.P.Partial.kind g.P.Partial.stands_for l.fn.self.groups l.fn.later.groups l.groups.items l.k;
}
