use Rattle.std.proofs.Common.{◌≡◌, [], map, take}
use Rattle.step_run.proofs.kept_groups.empty_lists.Given as goal

-- the lists so far are empty
abbrev pub invariant-loop-n : goal.invariant-loop-n
invariant-loop-n l = map (λ v. v.items) l.lists.items ≡ map (λ n. []) (take l.n-index l.counts)
