use Rattle.std.proofs.Common.{◌≡◌, ◌++◌, map, take}
use Rattle.edm_values.specs.declared.Value.{Value}
use Rattle.row_frames.specs.Answers.{answer_of}
use Rattle.row_frames.proofs.seen.push_truths.Given as goal

-- those so far
abbrev pub invariant-loop-x : goal.invariant-loop-x
invariant-loop-x l = l.found.items ≡ l.initial.found.items ++ map answer_of (map Value.Bool (take l.x-index l.list))
