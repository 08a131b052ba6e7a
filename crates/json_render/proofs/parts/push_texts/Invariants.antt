use Rattle.std.proofs.Common.{◌≡◌, ◌++◌, false}
use Rattle.std.specs.Vec.Iter.{into_iter_items}
use Rattle.json_render.specs.PartTexts.{texts_run}
use Rattle.json_render.proofs.parts.push_texts.Given as goal

-- what is written, and the texts that are left
abbrev pub invariant-loop-text : goal.invariant-loop-text
invariant-loop-text l = l.initial.body.items ++ texts_run false l.fn.texts.items ≡ l.body.items ++ texts_run l.later (into_iter_items l.text-iterator)
