use Rattle.std.proofs.Common.{◌≡◌, ℕ, ◌<◌, take}
use Rattle.std.specs.Prelude.{None}
use Rattle.context_typing.specs.Paths.{at_path}
use Rattle.context_typing.proofs.columns.ColumnList.any_is_prefix_of.Given as goal

abbrev pub invariant-loop-k : goal.invariant-loop-k
invariant-loop-k l = (j : ℕ) → j < l.k → at_path (λ c. c.path) l.self (take j l.path) ≡ None
