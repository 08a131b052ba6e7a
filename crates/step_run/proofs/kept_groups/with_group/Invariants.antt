use Rattle.std.proofs.Common.{◌≡◌, ◌++◌, map, take}
use Rattle.step_run.proofs.kept_groups.with_group.Given as goal

-- the place so often so far
abbrev pub invariant-loop-k : goal.invariant-loop-k
invariant-loop-k l = l.heads.items ≡ l.fn.kept.heads.items ++ map (λ k. l.head) (take l._k l.own.items)
