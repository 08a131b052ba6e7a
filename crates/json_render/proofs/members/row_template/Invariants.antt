use Rattle.std.proofs.Common.{◌≡◌, length}
use Rattle.std.specs.Prelude.{reverse}
use Rattle.serde_json.specs.Written.{compact_text}
use Rattle.apply_meaning.specs.Instances.{Instance}
use Rattle.json_render.specs.Bodies.{row_json}
use Rattle.json_render.specs.RowTexts.{SamePattern, filled, unwritten_text}
use Rattle.json_render.proofs.members.row_template.Given as goal

abbrev pub invariant-loop-member : goal.invariant-loop-member
invariant-loop-member l = (i : Instance) → SamePattern l.row i → filled l.store i l.template l.left.items ≡ compact_text (row_json l.store l.shape i)

abbrev pub decreases-loop-member : goal.decreases-loop-member
decreases-loop-member l = length (unwritten_text l.store l.row l.template.after_member (reverse l.left.items))
