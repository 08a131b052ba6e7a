use Rattle.std.proofs.Common.{◌≡◌, drop}
use Rattle.context_typing.specs.Typing.{columns_differ}
use Rattle.context_typing.proofs.columns.columns_differ.Given as goal

abbrev pub invariant-loop-i : goal.invariant-loop-i
invariant-loop-i l = columns_differ l.columns ≡ columns_differ (drop l.i l.columns)
