use Rattle.std.proofs.Common.{◌≡◌, ◌+◌, drop}
use Rattle.json_render.specs.Places.{named_parts, run_of}
use Rattle.json_render.proofs.entries.group_length.Given as goal

abbrev pub invariant-loop-k : goal.invariant-loop-k
invariant-loop-k l = run_of l.name (named_parts l.entries) ≡ l.k + run_of l.name (named_parts (drop l.k l.entries))
