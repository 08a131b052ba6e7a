use Rattle.std.proofs.Common.{map, take, drop}
use Rattle.apply_ast.specs.Views.{step_of}
use Rattle.rewrite_rules.specs.Conditions.{meets}
use Rattle.rewrite_rules.proofs.FirstRuns.{Searched}
use Rattle.rewrite_rules.proofs.filters.nearest.Given as goal

-- the filters so far are sure, and none of them may pass
abbrev pub invariant-loop-k : goal.invariant-loop-k
invariant-loop-k l = Searched l.m l.shape (meets l.m l.shape l.condition) (map step_of l.rest) (map step_of (take l.k l.rest)) (map step_of (drop l.k l.rest))
