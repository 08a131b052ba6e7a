use Rattle.std.proofs.Common.{◌≡◌, ◌++◌, map, take}
use Rattle.edm_values.specs.Values.{seen_value}
use Rattle.row_frames.specs.Answers.{answer_of}
use Rattle.row_frames.proofs.seen.push_answers.Given as goal

-- those so far
abbrev pub invariant-loop-value : goal.invariant-loop-value
invariant-loop-value l = l.found.items ≡ l.initial.found.items ++ map answer_of (map (λ v. seen_value v) (take l.value-index l.values))
